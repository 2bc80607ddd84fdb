-- Exif data edited where they are in a file.
use Rattle.std.specs.Prelude.{◌≡◌, ℕ, ◌+◌, ◌<◌, ◌≤◌, ◌⊎◌, Bool, true, false, List, length, slice_index, All, Option, Result, Ok, Err}
use Rattle.std.specs.Str.{bytes_eq}
use Rattle.exif_isobmff.specs.declared.locations.Extent.{Extent}
use Rattle.exif_containers.specs.Container.{container_answer}
use Rattle.exif_containers.specs.Located.{Located, located_answer}
use Rattle.exif_containers.specs.declared.container.Format.{Format}
use Rattle.exif_containers.specs.declared.container.Format.TheVariants.{Tiff, Jpeg, Heif, WebP}
use Rattle.exif_edit_base.specs.Causes.{Cause, of_container, picture, shared, unless, ◌>>=◌}
use Rattle.exif_edit_base.specs.Patches.{patched}
use Rattle.exif_edit_base.specs.declared.patch.Patch.{Patch}
use Rattle.exif_edit.specs.Edits.{IsEdited, limited_edit, limited_patches}
use Rattle.exif_edit.specs.declared.edits.Edit.{Edit}
use Rattle.exif_edit.specs.declared.edits.Edit.TheVariants.{EraseAll}
use Rattle.exif_edit.specs.Spreading.{spread}

-- all fields of TIFF data are the picture's too
abbrev pub takes_picture : Edit → Format → Bool
takes_picture EraseAll Tiff = true
takes_picture _ _ = false

-- what an edit puts over located data, or why it is refused
abbrev pub data_patches : Option ℕ → Edit → Located → Result (List Patch) Cause
data_patches limit edit at = do
  a ← unless (takes_picture edit at.format) picture
  limited_patches limit edit at.bytes

-- whether a file holds these data
abbrev pub holds : List ℕ → List ℕ → Bool
holds file bytes =
    elim (container_answer file) [ Ok found ↦ bytes_eq found bytes | Err r ↦ false ]

-- whether patches over a file make the new data what it holds: a HEIF file is read again, since the
-- bytes of an item may also say where it is
abbrev pub serves : Format → List ℕ → List Patch → List ℕ → Bool
serves Heif file ps new = holds (patched ps file) new
serves Tiff file ps new = true
serves Jpeg file ps new = true
serves WebP file ps new = true

-- patches over a file, if they serve
abbrev pub if_served : Bool → List Patch → Result (List Patch) Cause
if_served true ps = Ok ps
if_served false ps = Err shared

-- patches of located data as patches of the file
abbrev pub placed : List ℕ → Located → List Patch → Result (List Patch) Cause
placed file at ps =
    let qs = spread at.ranges ps in
    if_served (serves at.format file qs (patched ps at.bytes)) qs

-- the file with patches of located data
abbrev pub placed_file : List ℕ → Located → List Patch → Result (List ℕ) Cause
placed_file file at ps = placed file at ps >>= λ qs. Ok (patched qs file)

-- the file with patches of its item, if it holds the new data then
abbrev pub served_file : List ℕ → List Patch → List ℕ → Result (List ℕ) Cause
served_file file ps new =
    if_served (holds (patched ps file) new) ps >>= λ qs. Ok (patched qs file)

-- what an edit puts over a file, or why it is refused
unfoldable pub file_patches : Option ℕ → Edit → List ℕ → Result (List Patch) Cause
file_patches limit edit file = do
  at ← of_container (located_answer file)
  ps ← data_patches limit edit at
  placed file at ps

-- the file with them
abbrev pub edited_file : Option ℕ → Edit → List ℕ → Result (List ℕ) Cause
edited_file limit edit file = file_patches limit edit file >>= λ ps. Ok (patched ps file)

-- an offset is not one of an extent
abbrev pub Avoids : ℕ → Extent → Type 0
Avoids i e = (i < e.offset) ⊎ (e.offset + e.len ≤ i)

-- the data of a file were edited where they are, and all else is as it was
pub record IsEditedIn (limit : Option ℕ) (edit : Edit) (file out : List ℕ) : Type 0 where
  pub at : Located
  pub located : located_answer file ≡ Ok at
  pub new : List ℕ
  pub edited : limited_edit limit edit at.bytes ≡ Ok new
  pub promised : IsEdited edit at.bytes new
  pub holds : container_answer out ≡ Ok new
  pub as_long : length out ≡ length file
  pub outside : (i : ℕ) → All (Avoids i) at.ranges → slice_index out i ≡ slice_index file i
