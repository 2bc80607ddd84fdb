use Rattle.std.proofs.Common.{◌≡◌, ◌∙◌, Some, ap, rules}
use Rattle.std.proofs.lemmas.Map.Text.{btree_set_updates_text}
use Rattle.std.specs.BTreeSet.{contains_text}
use Rattle.std.specs.String.{string_bytes}
use Rattle.exif_rename.specs.Unused.{given_after}
use Rattle.exif_rename_commands.proofs.gathering.add_member.Goals as goal

pub returns-clause-seen : goal.returns-clause-seen
returns-clause-seen c = λ q.
    let same : string_bytes c.in_ok-clone.field-0 ≡ string_bytes c.args.member.key = search rules in
    btree_set_updates_text (string_bytes c.in_ok-clone.field-0) c.args.seen.now c.insert.new.self _ c.in_ok-insert.ensures.updates q
    ∙ ap (λ key. given_after (contains_text c.args.seen.now) (Some key) q) same
