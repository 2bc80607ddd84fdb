-- What a stream gives, as the first 4096 bytes say which container it is (TIFF 6.0, section 2;
-- ITU-T T.81, B.1.1; ISO/IEC 14496-12:2015, 4.3; WebP Container Specification, "WebP File Header").
use Rattle.std.specs.Prelude.{◌≡◌, ℕ, ◌-◌, ◌^◌, List, ◌∷◌, ◌++◌, take, codes, Bool, true, ◌||◌, if◌then◌else◌, Option, None, Some, Result, Ok, Err}
use Rattle.std.specs.Str.{bytes_eq}
use Rattle.exif_types.specs.Refusals.{Refusal, invalid_format, ◌>>=◌}
use Rattle.exif_containers.specs.declared.container.Format.{Format}
use Rattle.exif_containers.specs.declared.container.Format.TheVariants.{Tiff, Jpeg, Heif, WebP}
use Rattle.exif_segments.specs.Answer.{Answer}
use Rattle.exif_isobmff.specs.Heif.{exif_of}
use Rattle.exif_isobmff.specs.HeifFile.{begins_heif}
use Rattle.exif_isobmff.specs.HeifRefusals.{heif_refusals}
use Rattle.exif_segments.specs.Jpeg.{begins_jpeg, jpeg_answer, jpeg_refusals}
use Rattle.exif_segments.specs.Webp.{begins_webp, webp_answer, webp_refusals}

-- the first bytes are those of no container
abbrev pub unknown_format : Refusal
unknown_format = invalid_format (codes "Unknown image format")

-- all refusals of a container
abbrev pub container_refusals : List Refusal
container_refusals = unknown_format ∷ (jpeg_refusals ++ (heif_refusals ++ webp_refusals))

-- whether bytes begin as TIFF data do, in either byte order
abbrev pub begins_tiff : List ℕ → Bool
begins_tiff bytes =
    bytes_eq (take 4 bytes) (codes "MM\0*") || bytes_eq (take 4 bytes) (codes "II*\0")

-- the container that a signature begins
unfoldable pub format_in : List ℕ → Option Format
format_in signature =
    if begins_tiff signature then Some Tiff else
    (if begins_jpeg signature then Some Jpeg else
    (if begins_heif signature then Some Heif else
    (if begins_webp signature then Some WebP else None)))

-- the Exif data alone
abbrev pub data_of : Answer → Result (List ℕ) Refusal
data_of answer = answer >>= λ found. Ok found.0

-- what the bytes of a container give; a JPEG stream ends after 2^64 - 1 bytes
unfoldable pub answer_as : Option Format → List ℕ → Result (List ℕ) Refusal
answer_as (Some Tiff) bytes = Ok bytes
answer_as (Some Jpeg) bytes = data_of (jpeg_answer (take (2 ^ 64 - 1) bytes))
answer_as (Some Heif) bytes = exif_of bytes
answer_as (Some WebP) bytes = data_of (webp_answer bytes)
answer_as None bytes = Err unknown_format

-- the first 4096 bytes, or all if there are fewer, choose
unfoldable pub container_answer : List ℕ → Result (List ℕ) Refusal
container_answer bytes = answer_as (format_in (take 4096 bytes)) bytes

-- TIFF data are their own container
abbrev pub TiffIsWhole : List ℕ → Type 0
TiffIsWhole bytes = begins_tiff bytes ≡ true → container_answer bytes ≡ Ok bytes
