-- Fields of a name, where reading looks at no byte of the data as two things.
use Rattle.std.specs.Prelude.{◌≡◌, ℕ, true, false, List, [], ◌∷◌, Result, Ok, Err}
use Rattle.exif_base.specs.declared.endian.Order.{Order}
use Rattle.exif_text.specs.declared.ifd.In.{In}
use Rattle.exif_types.specs.declared.tag.Tag.{Tag}
use Rattle.exif_tiff.specs.Apart.{looks_apart}
use Rattle.exif_tiff.specs.Trace.{header}
use Rattle.exif_tiff.specs.Visits.{AreBytes}
use Rattle.exif_edit_base.specs.Causes.{Cause, no_field}
use Rattle.exif_edit_base.specs.declared.patch.Patch.{Patch}
use Rattle.exif_edit.specs.Promises.{named_directories}
use Rattle.exif_edit.specs.Removing.{field_patches, removals}
use Rattle.exif_edit.specs.Setting.{names_offsets}

-- what takes the entries of the tag n out of directories, if there are some
abbrev pub some_removals : Order → List ℕ → ℕ → List ℕ → Result (List Patch) Cause
some_removals order bytes n [] = Err no_field
some_removals order bytes n (p ∷ ps) = Ok (removals order bytes n (p ∷ ps))

-- where reading looks at no byte as two things, the fields of a name are erased
abbrev pub FieldsAreErasedApart : Tag → In → List ℕ → Type 0
FieldsAreErasedApart tag k bytes =
    (order : Order) → header bytes ≡ Ok order → AreBytes bytes → looks_apart bytes ≡ true
    → names_offsets tag ≡ false
    → field_patches bytes tag k ≡ some_removals order bytes tag.1 (named_directories bytes tag k)
