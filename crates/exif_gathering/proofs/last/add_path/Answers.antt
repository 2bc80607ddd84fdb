use Rattle.std.proofs.Common.{◌≡◌, ◌∙◌, ap, if◌then◌else◌, rules, true}
use Rattle.std.proofs.lemmas.Map.Text.{btree_set_updates_text}
use Rattle.std.specs.BTreeSet.{contains_text}
use Rattle.std.specs.Str.{bytes_eq}
use Rattle.std.specs.String.{string_bytes}
use Rattle.exif_gathering.proofs.last.add_path.Goals as goal

pub returns-clause-seen : goal.returns-clause-seen
returns-clause-seen c = λ q.
    let same : string_bytes c.in_ok-clone.field-0 ≡ string_bytes c.args.path.now = search rules in
    btree_set_updates_text (string_bytes c.in_ok-clone.field-0) c.args.seen.now c.insert.new.self _ c.in_ok-insert.ensures.updates q
    ∙ ap (λ key. if bytes_eq key q then true else contains_text c.args.seen.now q) same
