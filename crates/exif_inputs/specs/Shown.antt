-- Which thumbnail a picture gets.
use Rattle.std.specs.Prelude.{◌≡◌, ℕ, ◌+◌, nat_lt, Bool, true, false, if◌then◌else◌, List, [], ◌∷◌, drop, length, take, Option, Some, None, Result, Ok, Err}
use Rattle.std.specs.List.Sorted.{IsNonDecreasingBy, IsPermutation}
use Rattle.std.specs.Option.{option_map, option_or}
use Rattle.exif_thumbnails.specs.Places.{thumbnail_in, place_in}
use Rattle.exif_formats.specs.Cr3.{cr3_thumbnail}
use Rattle.exif_formats.specs.Formats.{format_in}
use Rattle.exif_thumbnails.specs.Canon.{cr3_preview}
use Rattle.exif_thumbnails.specs.Heif.{Found, at, heif_thumbnail, known}
use Rattle.exif_thumbnails.specs.Previews.{previews_in}
use Rattle.exif_thumbnails.specs.Seen.{Shown, cut_off, item, jpeg, too_long}
use Rattle.exif_thumbnails.specs.Streams.{begins_stream, jpg_from_raw}
use Rattle.exif_thumbnails.specs.declared.place.Place.{Place}
use Rattle.exif_types.specs.Contents.{ExifContents}
use Rattle.exif_types.specs.Failures.{Failure}
use Rattle.exif_types.specs.Refusals.{Refusal, ◌>>=◌}
use Rattle.exif_types.specs.declared.error.Error.TheVariants as error
use Rattle.exif_inputs.specs.Found.{IsReadOf, exif_read}
use Rattle.exif_inputs.specs.Thumbnails.{kept_in}
use Rattle.exif_inputs.specs.declared.thumbnails.Kept.{Kept}
use Rattle.exif_inputs.specs.declared.thumbnails.Kept.TheVariants as kept

-- ---- what is in Exif data, at a place, and in a stream

-- the thumbnail in Exif data
abbrev pub data_shown : ExifContents → Option Shown
data_shown exif = option_map jpeg (thumbnail_in exif)

-- what bytes have at a place: 1 MiB at most
abbrev pub place_shown : List ℕ → Place → Shown
place_shown bytes place =
    if nat_lt 1048576 place.len then too_long else
    if nat_lt (length bytes) (place.offset + place.len) then cut_off
    else jpeg (take place.len (drop place.offset bytes))

-- a JPEG stream as a thumbnail
abbrev pub whole_shown : List ℕ → Shown
whole_shown stream = if nat_lt 1048576 (length stream) then too_long else jpeg stream

-- what was found, or else this
abbrev pub or_else : Option Shown → Shown → Shown
or_else (Some found) other = found
or_else None other = other

-- the thumbnail in the Exif data of a JPEG stream of which this was read, or else the stream
abbrev pub stream_shown : List ℕ → Result ExifContents Failure → Shown
stream_shown stream (Ok exif) = or_else (data_shown exif) (whole_shown stream)
stream_shown stream (Err why) = whole_shown stream

abbrev pub IsStreamShown : List ℕ → Shown → Type 0
IsStreamShown stream found =
    (read : Result ExifContents Failure) × IsReadOf stream read
    × (found ≡ stream_shown stream (exif_read read))

-- ---- TIFF data

-- whether what is at the place of a preview is the answer: a JPEG stream, or one that is too long,
-- as all behind are then
abbrev pub ends : Shown → Bool
ends (jpeg found) = begins_stream found
ends too_long = true
ends cut_off = false
ends (item coding) = false

-- the first of what is at places that is the answer
abbrev pub first_shown : List ℕ → List Place → Option Shown
first_shown bytes [] = None
first_shown bytes (place ∷ places) =
    if ends (place_shown bytes place) then Some (place_shown bytes place)
    else first_shown bytes places

-- the places of previews, the shortest first
pub record ArePreviews (exif : ExifContents) (places : List Place) : Type 0 where
  pub all : IsPermutation (previews_in exif.buf exif.little_endian) places
  pub sorted : IsNonDecreasingBy (λ place. place.len) places

-- the shortest preview that is the answer
abbrev pub IsPreviewShown : ExifContents → List ℕ → Option Shown → Type 0
IsPreviewShown exif bytes found =
    (places : List Place) × ArePreviews exif places × (found ≡ first_shown bytes places)

-- what is at the place that the data name, or else a preview
abbrev pub IsPlaceShown : Option Place → ExifContents → List ℕ → Option Shown → Type 0
IsPlaceShown (Some place) exif bytes found = found ≡ Some (place_shown bytes place)
IsPlaceShown None exif bytes found = IsPreviewShown exif bytes found

-- the thumbnail in the data, or else what is at the place, which may be behind them
abbrev pub IsDataOrPlace : Option Shown → ExifContents → List ℕ → Option Shown → Type 0
IsDataOrPlace (Some held) exif bytes found = found ≡ Some held
IsDataOrPlace None exif bytes found = IsPlaceShown (place_in exif) exif bytes found

abbrev pub IsTiffShown : ExifContents → List ℕ → Option Shown → Type 0
IsTiffShown exif bytes found = IsDataOrPlace (data_shown exif) exif bytes found

-- that of an RW2 file: in its JPEG stream, if it has one
abbrev pub IsRw2Shown : Option (List ℕ) → ExifContents → List ℕ → Option Shown → Type 0
IsRw2Shown (Some stream) exif bytes found =
    (whole : Shown) × IsStreamShown stream whole × (found ≡ Some whole)
IsRw2Shown None exif bytes found = IsTiffShown exif bytes found

-- ---- HEIF files

-- an item of which this is known
abbrev pub item_by : List ℕ → Option Found → Option Shown
item_by bytes None = None
item_by bytes (Some (at place)) = Some (place_shown bytes place)
item_by bytes (Some (known found)) = Some found

-- by what the first MiB of a file says
abbrev pub item_shown : List ℕ → Option Shown
item_shown bytes = item_by bytes (heif_thumbnail (take 1048576 bytes))

-- the thumbnail in the Exif data, or else an item; a file that can't be read has none
abbrev pub IsHeifShown : Result ExifContents Failure → List ℕ → Option Shown → Type 0
IsHeifShown (Ok exif) bytes found = found ≡ option_or (data_shown exif) (item_shown bytes)
IsHeifShown (Err (error.NotFound what)) bytes found = found ≡ item_shown bytes
IsHeifShown (Err (error.InvalidFormat text)) bytes found = ⊥
IsHeifShown (Err (error.Io cause)) bytes found = ⊥
IsHeifShown (Err (error.BlankValue text)) bytes found = ⊥
IsHeifShown (Err (error.TooBig text)) bytes found = ⊥
IsHeifShown (Err (error.NotSupported text)) bytes found = ⊥
IsHeifShown (Err (error.UnexpectedValue text)) bytes found = ⊥
IsHeifShown (Err (error.PartialResult partial)) bytes found = ⊥
IsHeifShown (Err error.OutOfMemory) bytes found = ⊥

-- ---- CR3 files

-- the thumbnail in a box of its own, or else the preview
abbrev pub cr3_or : Option (List ℕ) → Result (Option Shown) Refusal
    → Result (Option Shown) Refusal
cr3_or (Some found) preview = Ok (Some (jpeg found))
cr3_or None preview = preview

abbrev pub cr3_shown : List ℕ → Result (Option Shown) Refusal
cr3_shown bytes = cr3_thumbnail bytes >>= λ found. cr3_or found (cr3_preview bytes)

-- ---- all

-- by the Exif data; a picture that can't be read, or has none, has no thumbnail in them
abbrev pub OfData : (ExifContents → Type 0) → Result ExifContents Failure → Type 0
OfData P (Ok exif) = P exif
OfData P (Err why) = ⊥

-- the thumbnail of a picture of which this was read, where it is kept so
abbrev pub IsKeptSo : Kept → Result ExifContents Failure → List ℕ → Option Shown → Type 0
IsKeptSo kept.Box read bytes found = cr3_shown bytes ≡ Ok found
IsKeptSo kept.File read bytes found = OfData (λ exif. IsTiffShown exif bytes found) read
IsKeptSo kept.Stream read bytes found =
    OfData (λ exif. IsRw2Shown (jpg_from_raw exif.fields) exif bytes found) read
IsKeptSo kept.Items read bytes found = IsHeifShown read bytes found
IsKeptSo kept.Data read bytes found = OfData (λ exif. found ≡ data_shown exif) read

-- the thumbnail of the picture that bytes are, by what is read of them
abbrev pub IsThumbnailIn : List ℕ → Option Shown → Type 0
IsThumbnailIn bytes found =
    (read : Result ExifContents Failure) × IsReadOf bytes read
    × IsKeptSo (kept_in (format_in (take 4096 bytes))) (exif_read read) bytes found
