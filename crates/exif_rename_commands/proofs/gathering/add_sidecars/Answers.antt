use Rattle.std.proofs.Common.{◌∙◌, string_bytes}
use Rattle.std.specs.BTreeSet.{contains_text}
use Rattle.exif_rename_commands.proofs.Sidecars.{one_sidecar, seen_still}
use Rattle.exif_rename_commands.proofs.gathering.add_sidecars.Goals as goal

pub loop-key-preserved : goal.loop-key-preserved
loop-key-preserved c =
    let was = contains_text c.args.seen.now in
    let now = contains_text c.loop-key.seen in
    let is_there = c.is_regular-is_there.result in
    let key = string_bytes c.in-Some.key in
    let before = c.loop-key.invariant in
    record {
      found = one_sidecar was now c.loop-key.found.items c.add_sidecar.new.found.items is_there key before.seen before.found c.in_ok-add_sidecar.ensures.found;
      seen = λ q h. c.in_ok-add_sidecar.ensures.seen q ∙ seen_still was now is_there key q (before.seen q) h;
    }
