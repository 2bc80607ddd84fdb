-- Where in a stream the Exif data are: the container, and the ranges of the bytes that hold them.
use Rattle.std.specs.Prelude.{◌≡◌, ℕ, ◌-◌, ◌^◌, ◌<◌, List, [], ◌∷◌, length, take, Option, None, Some, Result, Ok, Err}
use Rattle.std.specs.List.{All}
use Rattle.exif_types.specs.Refusals.{Refusal, ◌>>=◌}
use Rattle.exif_isobmff.specs.declared.locations.Extent.{Extent}
use Rattle.exif_isobmff.specs.Extents.{IsWhole, joined_bytes, located_exif}
use Rattle.exif_containers.specs.declared.container.Format.{Format}
use Rattle.exif_containers.specs.declared.container.Format.TheVariants.{Tiff, Jpeg, Heif, WebP}
use Rattle.exif_containers.specs.declared.located.Located.{Located as Held}
use Rattle.exif_segments.specs.Answer.{Answer, offset_before}
use Rattle.exif_containers.specs.Container.{container_answer, format_in, unknown_format}
use Rattle.exif_segments.specs.Jpeg.{jpeg_answer}
use Rattle.exif_segments.specs.Webp.{webp_answer}

-- Exif data, their container, and the ranges that hold them
pub record Located : Type 0 where
  pub format : Format
  pub ranges : List Extent
  pub bytes : List ℕ

-- located data of the code as those of a definition
abbrev pub located_view : Held → Located
located_view l = record { format = l.format; ranges = l.extents.items; bytes = l.«data».items }

-- data that are in one range
abbrev pub in_one : Format → ℕ → List ℕ → Located
in_one format offset bytes =
    record {
      format = format;
      ranges = record { offset = offset; len = length bytes } ∷ [];
      bytes = bytes;
    }

-- the same of a payload among the bytes of a stream
abbrev pub payload_in : Format → List ℕ → Answer → Result Located Refusal
payload_in format stream answer = do
  found ← answer
  Ok (in_one format (offset_before stream found.0 found.1) found.0)

-- the same of a HEIF file
abbrev pub heif_located : List ℕ → Result Located Refusal
heif_located file = do
  found ← located_exif file
  Ok (record { format = Heif; ranges = found.ranges; bytes = found.bytes })

-- what the bytes of a container give; a JPEG stream ends after 2^64 - 1 bytes
unfoldable pub located_as : Option Format → List ℕ → Result Located Refusal
located_as (Some Tiff) bytes = Ok (in_one Tiff 0 bytes)
located_as (Some Jpeg) bytes =
    payload_in Jpeg (take (2 ^ 64 - 1) bytes) (jpeg_answer (take (2 ^ 64 - 1) bytes))
located_as (Some Heif) bytes = heif_located bytes
located_as (Some WebP) bytes = payload_in WebP bytes (webp_answer bytes)
located_as None bytes = Err unknown_format

-- the first 4096 bytes, or all if there are fewer, choose
unfoldable pub located_answer : List ℕ → Result Located Refusal
located_answer bytes = located_as (format_in (take 4096 bytes)) bytes

-- the data are those that the container answers, and are in their ranges, each of which is whole
pub record IsLocated (bytes : List ℕ) (found : Located) : Type 0 where
  pub answered : container_answer bytes ≡ Ok found.bytes
  pub joined : joined_bytes bytes found.ranges ≡ found.bytes
  pub whole : All (IsWhole bytes) found.ranges

-- the Exif data of fewer than 2^64 bytes are in the ranges that are answered
abbrev pub DataAreLocated : List ℕ → Type 0
DataAreLocated bytes =
    (found : Located) → length bytes < 2 ^ 64 → located_answer bytes ≡ Ok found
    → IsLocated bytes found

-- what is refused is refused alike
abbrev pub RefusedAlike : List ℕ → Type 0
RefusedAlike bytes = (r : Refusal) → located_answer bytes ≡ Err r → container_answer bytes ≡ Err r
