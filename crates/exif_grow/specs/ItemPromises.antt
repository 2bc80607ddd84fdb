-- What is promised of a HEIF file whose Exif item was moved.
use Rattle.std.specs.Prelude.{◌≡◌, ℕ, ◌+◌, ◌<◌, false, List, [], ◌∷◌, ◌++◌, length, drop, slice_index, Ok}
use Rattle.exif_containers.specs.Container.{container_answer}
use Rattle.exif_grow.specs.ItemFields.{ItemFields, item_fields}
use Rattle.exif_isobmff.specs.declared.locations.Extent.{Extent}
use Rattle.exif_edit_base.specs.Patches.{inside}
use Rattle.exif_grow.specs.Entries.{moved_entry}
use Rattle.exif_grow.specs.Items.{fields_offset, media_box}

-- the file holds exactly the new data, in a box of their own behind the old file; no old byte has
-- changed, but for the fields of the item's entry and those of the old item
pub record IsItemMoved (old new out : List ℕ) : Type 0 where
  pub fields : ItemFields
  pub found : item_fields old ≡ Ok fields
  pub range : Extent
  pub one : fields.ranges ≡ range ∷ []
  pub text : List ℕ
  pub entry : moved_entry fields.entry (length old + 8) (length (fields.header ++ new)) ≡ Ok text
  pub holds : container_answer out ≡ Ok new
  pub longer : length out ≡ length old + (8 + length (fields.header ++ new))
  pub behind : drop (length old) out ≡ media_box (fields.header ++ new)
  pub outside : (i : ℕ) → i < length old
      → inside i (record { offset = fields_offset fields; len = length text }) ≡ false
      → inside i (record { offset = range.offset; len = range.len }) ≡ false
      → slice_index out i ≡ slice_index old i
