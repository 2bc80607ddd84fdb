-- A thumbnail, as definitions see it.
use Rattle.std.specs.Prelude.{ℕ, nat_lt, if◌then◌else◌, List, length, take}
use Rattle.exif_thumbnails.specs.Places.{largest_thumbnail}
use Rattle.exif_thumbnails.specs.declared.heif.Coding.{Coding}
use Rattle.exif_thumbnails.specs.declared.reading.Thumbnail.{Thumbnail}
use Rattle.exif_thumbnails.specs.declared.reading.Thumbnail.TheVariants.{CutOff, Item, Jpeg, TooLong}

-- bytes that are to be JPEG data; too many; what the bytes end within; or an item, which is not read
pub data Shown : Type 0 where
  jpeg : List ℕ → Shown
  too_long : Shown
  cut_off : Shown
  item : Coding → Shown

-- what a thumbnail of the code is
abbrev pub shown : Thumbnail → Shown
shown (Jpeg found) = jpeg found.items
shown TooLong = too_long
shown CutOff = cut_off
shown (Item coding) = item coding

-- JPEG data of so many bytes at the front of these
abbrev pub jpeg_within : ℕ → List ℕ → Shown
jpeg_within len bytes =
    if nat_lt largest_thumbnail len then too_long else
    if nat_lt (length bytes) len then cut_off else jpeg (take len bytes)
