-- What a picture answers, as its first 4096 bytes say which format it has.
use Rattle.std.specs.Prelude.{◌≡◌, ℕ, ◌-◌, ◌^◌, List, ◌++◌, take, map, Bool, true, false, if◌then◌else◌, Option, None, Some, Result, Ok, Err, MatchOption}
use Rattle.exif_types.specs.Contents.{ExifContents}
use Rattle.exif_types.specs.Failures.{Failure}
use Rattle.exif_types.specs.Refusals.{Refusal, refusal_of, IsInterrupted}
use Rattle.exif_types.specs.declared.field.Field.{Field}
use Rattle.exif_table.specs.declared.context.Context.{Context}
use Rattle.exif_table.specs.declared.context.Context.TheVariants as context
use Rattle.exif_tiff.specs.Answers.{Answer, Refused, Whole, Partial, raw_answer}
use Rattle.exif_containers.specs.Container.{answer_as, data_of}
use Rattle.exif_containers.specs.declared.container.Format.{Format}
use Rattle.exif_containers.specs.declared.container.Format.TheVariants as known
use Rattle.exif_reader.specs.Files.{ReadsByNeed}
use Rattle.exif_tiff.specs.Readings.{HoldsData, ReadsHeld}
use Rattle.exif_formats.specs.Jxl.{jxl_answer}
use Rattle.exif_containers.specs.Png.{png_answer}
use Rattle.exif_formats.specs.Cr3.{Cr3Parts, cr3_answer}
use Rattle.exif_formats.specs.Raf.{raf_answer}
use Rattle.exif_formats.specs.Formats.{format_in}
use Rattle.exif_formats.specs.Magic.{as_tiff}
use Rattle.exif_formats.specs.declared.format.PictureFormat.{PictureFormat}
use Rattle.exif_formats.specs.declared.format.PictureFormat.TheVariants.{Container, Png, JpegXl, Raf, Orf, Rw2, Cr3}

-- ---- formats with one block of Exif data

-- whether files of a format are TIFF data with another number in place of 42
abbrev pub is_other_tiff : Option PictureFormat → Bool
is_other_tiff (Some Orf) = true
is_other_tiff (Some Rw2) = true
is_other_tiff _ = false

-- a picture as it is read: such a file as TIFF data
abbrev pub as_read : Option PictureFormat → List ℕ → List ℕ
as_read format bytes = if is_other_tiff format then as_tiff bytes else bytes

-- where its source may go back to: not where the bytes are read as others
abbrev pub origin_for : Option PictureFormat → Option ℕ → Option ℕ
origin_for format origin = if is_other_tiff format then None else origin

-- the container of Exif data that a format is read as, if it is one
abbrev pub container_of : Option PictureFormat → Option Format
container_of (Some (Container format)) = Some format
container_of (Some Orf) = Some known.Tiff
container_of (Some Rw2) = Some known.Tiff
container_of _ = None

-- those of a PNG file, of which at most 2^64 - 1 chunks are looked at
unfoldable pub png_data : List ℕ → Result (List ℕ) Refusal
png_data bytes = data_of (png_answer (2 ^ 64 - 1) bytes)

-- the Exif data of bytes that are read as a picture of a format
unfoldable pub data_as : Option PictureFormat → List ℕ → Result (List ℕ) Refusal
data_as (Some Png) bytes = png_data bytes
data_as (Some JpegXl) bytes = data_of (jxl_answer bytes)
data_as (Some Raf) bytes = data_of (raf_answer bytes)
data_as format bytes = answer_as (container_of format) bytes

-- ---- CR3 files, whose directories are data of their own

-- a context in place of the chain's
abbrev pub context_for : Context → Context → Context
context_for new context.Tiff = new
context_for new old = old

-- a field of a directory that is in this context
abbrev pub field_in : Context → Field → Field
field_in new field = record field { tag = record field.tag { 0 = context_for new field.tag.0 } }

-- what was read of such a directory
abbrev pub answer_in : Context → Answer → Answer
answer_in new (Refused fault) = Refused fault
answer_in new (Whole fields) = Whole (map (field_in new) fields)
answer_in new (Partial fields faults) = Partial (map (field_in new) fields) faults

-- two answers as one: the first refusal, or all fields and all faults
abbrev pub joined : Answer → Answer → Answer
joined (Refused fault) next = Refused fault
joined answer (Refused fault) = Refused fault
joined (Whole fields) (Whole more) = Whole (fields ++ more)
joined (Whole fields) (Partial more faults) = Partial (fields ++ more) faults
joined (Partial fields faults) (Whole more) = Partial (fields ++ more) faults
joined (Partial fields faults) (Partial more others) = Partial (fields ++ more) (faults ++ others)

-- an answer, with that of a directory in a context, if there is one
abbrev pub joined_with : (List ℕ → Answer) → Context → Option (List ℕ) → Answer → Answer
joined_with read new None answer = answer
joined_with read new (Some bytes) answer = joined answer (answer_in new (read bytes))

-- what reading the directories of a CR3 file answers, each by itself
abbrev pub directories_answer : (List ℕ → Answer) → Cr3Parts → Answer
directories_answer read d =
    joined_with read context.Gps d.gps
    (joined_with read context.Exif d.exif (read d.primary))

-- what is read of a CR3 file, or its refusal; the data are those of the first directory
abbrev pub ReadsDirectories : (List ℕ → Answer) → Result Cr3Parts Refusal
    → Result ExifContents Failure → Type 0
ReadsDirectories read (Ok d) result =
    ReadsHeld HoldsData IsInterrupted (directories_answer read d) d.primary result
ReadsDirectories read (Err r) (Ok exif) = ⊥
ReadsDirectories read (Err r) (Err e) =
    MatchOption (refusal_of e) (IsInterrupted e) (λ refused. refused ≡ r)

-- ---- all

-- what is read of such bytes
unfoldable pub ReadsAsFormat : (List ℕ → Answer) → Option PictureFormat → List ℕ
    → Result ExifContents Failure → Type 0
ReadsAsFormat read (Some Cr3) bytes result = ReadsDirectories read (cr3_answer bytes) result
ReadsAsFormat read format bytes result = ReadsByNeed read (data_as format bytes) result

-- what is read of a picture, where data are read so
unfoldable pub ReadsBy : (List ℕ → Answer) → List ℕ → Result ExifContents Failure → Type 0
ReadsBy read bytes result =
    let format = format_in (take 4096 bytes) in
    ReadsAsFormat read format (as_read format bytes) result

-- the same with this treatment of faults, and this limit
abbrev pub ReadsPicture : Bool → Option ℕ → List ℕ → Result ExifContents Failure → Type 0
ReadsPicture lenient limit bytes result = ReadsBy (raw_answer lenient limit) bytes result
