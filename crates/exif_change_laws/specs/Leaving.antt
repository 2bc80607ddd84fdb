-- What scrubbing leaves.
use Rattle.std.specs.Prelude.{◌≡◌, ◌<◌, ◌^◌, length, ℕ, Bool, true, false, List, [], ◌∷◌, Option, Some, Ok}
use Rattle.exif_containers.specs.Container.{format_in}
use Rattle.exif_containers.specs.declared.container.Format.{Format}
use Rattle.exif_containers.specs.declared.container.Format.TheVariants.{Heif}
use Rattle.exif_inventory.specs.declared.part.Part.{Part}
use Rattle.exif_inventory_heif.specs.Inventories.{heif_inventory, is_heif}
use Rattle.exif_scrub.specs.HeifPromises.{AllKnown}
use Rattle.exif_change.specs.Changed.{Change, Undone, still_there}
use Rattle.exif_change.specs.Changes.{scrubbed}
use Rattle.exif_change.specs.declared.scrubbing.Removed.{Removed}
use Rattle.exif_change.specs.declared.scrubbing.Removed.TheVariants as removed

-- the parts that are still there, of what was left undone
abbrev pub parts_left : List (Option Undone) → List Part
parts_left [] = []
parts_left (Some (still_there part) ∷ undone) = part ∷ parts_left undone
parts_left (one ∷ undone) = parts_left undone

-- whether all metadata are taken out, maybe but for the orientation
abbrev pub takes_metadata : Removed → Bool
takes_metadata removed.Metadata = true
takes_metadata removed.AllButOrientation = true
takes_metadata (removed.Gps unread) = false

-- a file of a format was scrubbed: all its metadata were taken out, maybe but for the orientation
pub record Emptied (format : Format) : Type 0 where
  pub removed : Removed
  pub file : List ℕ
  pub change : Change
  pub takes : takes_metadata removed ≡ true
  pub of_format : format_in file ≡ Some format
  pub made : scrubbed removed file ≡ Ok change

-- a HEIF file that was scrubbed, and what came out once more
pub record EmptiedTwice : Type 0 where
  pub first : Emptied Heif
  pub again : Emptied Heif
  pub short : length first.file < 2 ^ 64
  pub known : is_heif first.file ≡ true
  pub over : again.file ≡ first.change.file

-- each part of a new HEIF file is the picture's, or says nothing, or was left undone
abbrev pub IsAllKnown : Change → Type 0
IsAllKnown change = AllKnown change.file (parts_left change.undone) (heif_inventory change.file)
