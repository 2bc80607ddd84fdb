use Rattle.std.proofs.Common.{◌≡◌, [], ◌∷◌, ◌++◌, arith, map, refl, rules}
use Rattle.std.proofs.lemmas.Grind.{common_steps}
use Rattle.exif_inputs.specs.Pending.{turned, waiting_of}
use Rattle.exif_inputs.proofs.PendingLemmas.{none_yet, one_added}
use Rattle.exif_inputs.proofs.pending.Pending.add_all.Goals as goal

pub loop-path-init : goal.loop-path-init
loop-path-init c = record {
  waiting = none_yet (map waiting_of c.args.self.now.waiting.items) (turned c.args.is_named c.args.paths.items);
  counts = refl;
  recursive = refl;
}

pub loop-path-preserved : goal.loop-path-preserved
loop-path-preserved c =
    let before = c.loop-path.invariant in
    let cut : c.loop-path.paths.items ≡ c.pop.new.self.items ++ c.in-Some.path ∷ [] = first_of (search rules, grind (arith, common_steps)) in
    record {
      waiting = one_added c.args.is_named c.args.self.now.waiting.items c.loop-path.self.waiting.items _ c.loop-path.paths.items c.pop.new.self.items (record { path = c.in-Some.path; is_named = c.args.is_named }) _ refl c.in_ok-push.ensures.items cut before.waiting;
      counts = before.counts;
      recursive = before.recursive;
    }
