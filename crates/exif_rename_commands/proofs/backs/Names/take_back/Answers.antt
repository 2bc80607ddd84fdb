use Rattle.std.proofs.Common.{◌≡◌, ◌∙◌, Some, true, false, ap, cond, rules}
use Rattle.std.proofs.lemmas.Map.Text.{btree_map_updates_text}
use Rattle.std.specs.BTreeMap.{get_by_text}
use Rattle.std.specs.Str.{bytes_eq}
use Rattle.std.specs.String.{string_bytes}
use Rattle.exif_rename_commands.proofs.backs.Names.take_back.Goals as goal

pub returns : goal.returns
returns c = λ q.
    let old = string_bytes c.in_ok-clone.field-0 in
    let new = string_bytes c.in_ok-clone-2.field-0 in
    let known = get_by_text c.args.self.now.known q in
    let old_is : old ≡ string_bytes c.args.old.now = search rules in
    let new_is : new ≡ string_bytes c.args.new.now = search rules in
    btree_map_updates_text new c.insert.new.self c.insert-2.new.self _ c.in_ok-insert-2.ensures.updates q
    ∙ ap (λ o. cond (bytes_eq new q) (Some false) o)
    (btree_map_updates_text old c.args.self.now.known c.insert.new.self _ c.in_ok-insert.ensures.updates q)
    ∙ ap (λ o. cond (bytes_eq new q) (Some false) (cond (bytes_eq o q) (Some true) known)) old_is
    ∙ ap (λ n. cond (bytes_eq n q) (Some false) (cond (bytes_eq (string_bytes c.args.old.now) q) (Some true) known)) new_is
