use Rattle.exif_rename.specs.Unused.{given_after, unused}
use Rattle.std.proofs.Common.{◌≡◌, ◌∙◌, Some, ap, rules}
use Rattle.std.proofs.lemmas.Map.Text.{btree_set_updates_text}
use Rattle.std.specs.BTreeSet.{contains_text}
use Rattle.std.specs.String.{string_bytes}
use Rattle.exif_rename.proofs.unused.give_unused.Goals as goal

pub returns-clause-given : goal.returns-clause-given
returns-clause-given c = λ q.
    let same : string_bytes c.in_ok-clone.field-0 ≡ string_bytes c.in-Some.path = search rules in
    let is : Some (string_bytes c.in_ok-clone.field-0) ≡ unused (contains_text c.args.given.now) c.args.base.now c.args.ending.now = search rules in
    btree_set_updates_text (string_bytes c.in_ok-clone.field-0) c.args.given.now c.insert.new.self _ c.in_ok-insert.ensures.updates q
    ∙ ap (λ path. given_after (contains_text c.args.given.now) path q) is
