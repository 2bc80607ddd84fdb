use Rattle.std.proofs.Common.{◌≡◌, ◌∙◌, Some, ap, rules}
use Rattle.std.proofs.lemmas.Map.Text.{btree_set_updates_text}
use Rattle.std.specs.BTreeSet.{contains_text}
use Rattle.std.specs.String.{string_bytes}
use Rattle.exif_files.specs.Folders.{folder_of}
use Rattle.exif_rename.specs.Unused.{given_after}
use Rattle.exif_rename_commands.proofs.moves.Folders.add.Goals as goal

pub returns-clause-folders : goal.returns-clause-folders
returns-clause-folders c = λ q.
    let same : string_bytes c.in_ok-from_str.field-0 ≡ folder_of c.args.name.now = search rules in
    btree_set_updates_text (string_bytes c.in_ok-from_str.field-0) c.args.self.now.folders c.insert.new.self _ c.in_ok-insert.ensures.updates q
    ∙ ap (λ folder. given_after (contains_text c.args.self.now.folders) (Some folder) q) same
