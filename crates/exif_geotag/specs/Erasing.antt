-- Fields taken out of a file.
use Rattle.std.specs.Prelude.{ℕ, List, [], ◌∷◌, ◌++◌, Option, Some, Result, Ok, Err}
use Rattle.exif_edit.specs.declared.edits.Edit.TheVariants.{EraseField}
use Rattle.exif_edit_base.specs.Causes.{Cause}
use Rattle.exif_edit.specs.InFiles.{edited_file}
use Rattle.exif_types.specs.declared.tag.Tag.{Tag}

-- a file without a field, or as it was, and the tags of those that can't be taken out
abbrev pub erased_by : Tag → Result (List ℕ) Cause → List ℕ × List Tag → List ℕ × List Tag
erased_by tag (Ok new) (file, kept) = (new, kept)
erased_by tag (Err cause) (file, kept) = (file, kept ++ tag ∷ [])

-- the same by the edit of the file, of which a million entries are read
abbrev pub one_erased : Tag → List ℕ × List Tag → List ℕ × List Tag
one_erased tag (file, kept) =
    erased_by tag (edited_file (Some 1000000) (EraseField tag (record { 0 = 0 })) file)
    (file, kept)

-- the same of fields one after the other
abbrev pub all_erased : List Tag → List ℕ × List Tag → List ℕ × List Tag
all_erased [] made = made
all_erased (tag ∷ tags) made = all_erased tags (one_erased tag made)
