-- What a reader of a container answered, as the data that the container has.
use Rattle.std.proofs.Common.{◌≡◌, ℕ, ◌-◌, ◌^◌, List, [], ◌++◌, take, Option, Some, None, Result, Ok, Err, IfOk, IfErr, IfSome, MatchOption, Vec, ap, refl, subst, sym}
use Rattle.std.specs.Global.{Global}
use Rattle.exif_base.specs.Told.{WhereTold}
use Rattle.exif_types.specs.Contents.{ExifContents}
use Rattle.exif_types.specs.Failures.{Failure}
use Rattle.exif_types.specs.declared.error.Error.TheVariants as error
use Rattle.exif_tiff.specs.Answers as tiff
use Rattle.exif_reader.specs.Files.{ReadsByNeed, ReadsContainer}
use Rattle.exif_tiff.specs.Readings.{ReadsAs}
use Rattle.exif_reader.proofs.ReaderFronts.{whole_by_need}
use Rattle.exif_reader.proofs.ReaderOwnData.{given_reads}
use Rattle.exif_formats.specs.Jxl.{jxl_answer}
use Rattle.exif_containers.specs.Png.{png_answer}
use Rattle.exif_formats.specs.Cr3.{Cr3Parts, cr3_answer}
use Rattle.exif_formats.specs.Raf.{raf_answer}
use Rattle.exif_formats.specs.Formats.{format_in}
use Rattle.exif_formats.specs.Pictures.{ReadsAsFormat, ReadsBy, ReadsDirectories, as_read, container_of, data_as, png_data}
use Rattle.exif_formats.specs.declared.format.PictureFormat.{PictureFormat}
use Rattle.exif_formats.specs.declared.format.PictureFormat.TheVariants.{Container, Png, JpegXl, Raf, Orf, Rw2, Cr3}
use Rattle.exif_types.specs.Refusals.{Fails, Gives, IsInterrupted, Refusal, refusal_of}
use Rattle.exif_segments.specs.Answer.{Answer, found}
use Rattle.exif_containers.specs.Container.{answer_as, data_of}

abbrev pub items_of : Vec ℕ Global → List ℕ
items_of v = v.items

fails_data : (o : Option Refusal) (P : Type 0) (answer : Answer) → MatchOption o P (λ r. answer ≡ Err r) → MatchOption o P (λ r. data_of answer ≡ Err r)
fails_data None P answer h = h
fails_data (Some r) P answer h = ap data_of h

-- where what follows the data is said
pub data_given : (answer : List ℕ → Answer) (old new : Option (List ℕ)) (result : Result (Vec ℕ Global) Failure)
    → IfOk result (λ v. WhereTold old new (λ xs ys. answer xs ≡ found v.items ys))
    → IfErr result (λ e. IfSome old (λ xs. Fails e (answer xs)))
    → IfSome old (λ bytes. Gives items_of result (data_of (answer bytes)))
data_given answer None new result f r = tt
data_given answer (Some xs) None (Ok v) f r = absurd f
data_given answer (Some xs) (Some ys) (Ok v) f r = ap data_of f
data_given answer (Some xs) new (Err e) f r = fails_data (refusal_of e) (IsInterrupted e) (answer xs) r

-- what is read of a picture whose Exif data a reader of its container answered
pub by_data : (read : List ℕ → tiff.Answer) (answer : List ℕ → Answer) (old new : Option (List ℕ)) (given : Result (Vec ℕ Global) Failure) (result : Result ExifContents Failure) (Q : Type 0)
    → IfOk given (λ v. WhereTold old new (λ xs ys. answer xs ≡ found v.items ys))
    → IfErr given (λ e. IfSome old (λ xs. Fails e (answer xs)))
    → ((container : Result (List ℕ) Refusal) → Gives items_of given container → ReadsContainer read container result)
    → IfSome old (λ bytes. Q → ReadsByNeed read (data_of (answer bytes)) result)
by_data read answer None new given result Q f r h = tt
by_data read answer (Some xs) new given result Q f r h =
    whole_by_need read (λ bytes. data_of (answer bytes)) (Some xs) result Q
    (λ q. h (data_of (answer xs)) (data_given answer (Some xs) new given f r))

-- the same where what follows a JPEG stream's data is said
pub by_raf : (read : List ℕ → tiff.Answer) (answer : List ℕ → Answer) (more : List ℕ → List ℕ) (old new : Option (List ℕ)) (given : Result (Vec ℕ Global) Failure) (result : Result ExifContents Failure) (Q : Type 0)
    → IfOk given (λ v. WhereTold old new (λ xs ys. (rest : List ℕ) × (answer xs ≡ found v.items rest) × (ys ≡ rest ++ more xs)))
    → IfErr given (λ e. IfSome old (λ xs. Fails e (answer xs)))
    → ((container : Result (List ℕ) Refusal) → Gives items_of given container → ReadsContainer read container result)
    → IfSome old (λ bytes. Q → ReadsByNeed read (data_of (answer bytes)) result)
by_raf read answer more None new given result Q f r h = tt
by_raf read answer more (Some xs) None (Ok v) result Q f r h = absurd f
by_raf read answer more (Some xs) (Some ys) (Ok v) result Q f r h =
    whole_by_need read (λ bytes. data_of (answer bytes)) (Some xs) result Q (λ q. h (data_of (answer xs)) (ap data_of f.1))
by_raf read answer more (Some xs) new (Err e) result Q f r h =
    whole_by_need read (λ bytes. data_of (answer bytes)) (Some xs) result Q
    (λ q. h (data_of (answer xs)) (fails_data (refusal_of e) (IsInterrupted e) (answer xs) r))

-- data that were given are read
pub reads_given : (read : List ℕ → tiff.Answer) (container : Result (List ℕ) Refusal) (given : Result (Vec ℕ Global) Failure) (v : Vec ℕ Global) (result : Result ExifContents Failure)
    → given ≡ Ok v → Gives items_of given container → ReadsAs (read v.items) v.items result → ReadsContainer read container result
reads_given read container given v result e g k =
    let there : container ≡ Ok v.items = subst (λ (d : Result (Vec ℕ Global) Failure). Gives items_of d container) e g in
    given_reads read (λ bytes. container) (Some []) v.items result (Unit {0}) (λ q. there) k tt

no_error : {P : Type 0} → (bytes : List ℕ) (r : Refusal) → ◌≡◌ {A = Result (List ℕ) Refusal} (Ok bytes) (Err r) → P
no_error bytes r e = cc

same_refusal : (o : Option Refusal) (P : Type 0) (r : Refusal) → MatchOption o P (λ q. ◌≡◌ {A = Result (List ℕ) Refusal} (Err r) (Err q)) → MatchOption o P (λ q. q ≡ r)
same_refusal None P r h = h
same_refusal (Some q) P r h = cc

-- or are none
pub data_stops : (read : List ℕ → tiff.Answer) (container : Result (List ℕ) Refusal) (e : Failure) → Fails e container → ReadsContainer read container (Err e)
data_stops read (Err r) e f = same_refusal (refusal_of e) (IsInterrupted e) r f
data_stops read (Ok bytes) (error.Io cause) f = tt
data_stops read (Ok bytes) error.OutOfMemory f = tt
data_stops read (Ok bytes) (error.PartialResult partial) f = absurd f
data_stops read (Ok bytes) (error.InvalidFormat text) f = no_error bytes _ f
data_stops read (Ok bytes) (error.NotFound text) f = no_error bytes _ f
data_stops read (Ok bytes) (error.BlankValue text) f = no_error bytes _ f
data_stops read (Ok bytes) (error.TooBig text) f = no_error bytes _ f
data_stops read (Ok bytes) (error.NotSupported text) f = no_error bytes _ f
data_stops read (Ok bytes) (error.UnexpectedValue text) f = no_error bytes _ f

-- ---- by the format

-- what is read of data that are read so
pub read_so : (a b : List ℕ → tiff.Answer) (format : Option PictureFormat) (old : Option (List ℕ)) (result : Result ExifContents Failure) (Q : Type 0) → a ≡ b
    → IfSome old (λ bytes. Q → ReadsAsFormat a format bytes result)
    → IfSome old (λ bytes. Q → ReadsAsFormat b format bytes result)
read_so a b format old result Q e h = subst (λ (read : List ℕ → tiff.Answer). IfSome old (λ bytes. Q → ReadsAsFormat read format bytes result)) e h

pub png_reads : (read : List ℕ → tiff.Answer) (format : Option PictureFormat) (old : Option (List ℕ)) (result : Result ExifContents Failure) (Q : Type 0) → format ≡ Some Png
    → IfSome old (λ bytes. Q → ReadsByNeed read (png_data bytes) result)
    → IfSome old (λ bytes. Q → ReadsAsFormat read format bytes result)
unfolding ReadsAsFormat data_as
png_reads read format old result Q e h = subst (λ (f : Option PictureFormat). IfSome old (λ bytes. Q → ReadsAsFormat read f bytes result)) (sym e) h

pub png_data_reads : (read : List ℕ → tiff.Answer) (old : Option (List ℕ)) (result : Result ExifContents Failure) (Q : Type 0)
    → IfSome old (λ bytes. Q → ReadsByNeed read (data_of (png_answer (2 ^ 64 - 1) bytes)) result)
    → IfSome old (λ bytes. Q → ReadsByNeed read (png_data bytes) result)
unfolding png_data
png_data_reads read old result Q h = h

pub jxl_reads : (read : List ℕ → tiff.Answer) (format : Option PictureFormat) (old : Option (List ℕ)) (result : Result ExifContents Failure) (Q : Type 0) → format ≡ Some JpegXl
    → IfSome old (λ bytes. Q → ReadsByNeed read (data_of (jxl_answer bytes)) result)
    → IfSome old (λ bytes. Q → ReadsAsFormat read format bytes result)
unfolding ReadsAsFormat data_as
jxl_reads read format old result Q e h = subst (λ (f : Option PictureFormat). IfSome old (λ bytes. Q → ReadsAsFormat read f bytes result)) (sym e) h

pub raf_reads : (read : List ℕ → tiff.Answer) (format : Option PictureFormat) (old : Option (List ℕ)) (result : Result ExifContents Failure) (Q : Type 0) → format ≡ Some Raf
    → IfSome old (λ bytes. Q → ReadsByNeed read (data_of (raf_answer bytes)) result)
    → IfSome old (λ bytes. Q → ReadsAsFormat read format bytes result)
unfolding ReadsAsFormat data_as
raf_reads read format old result Q e h = subst (λ (f : Option PictureFormat). IfSome old (λ bytes. Q → ReadsAsFormat read f bytes result)) (sym e) h

asked_for : (old : Option (List ℕ)) (P : List ℕ → Type 0) (Q : Type 0) → IfSome old P → IfSome old (λ bytes. Q → P bytes)
asked_for None P Q h = tt
asked_for (Some xs) P Q h = λ q. h

pub cr3_reads : (read : List ℕ → tiff.Answer) (format : Option PictureFormat) (old : Option (List ℕ)) (result : Result ExifContents Failure) (Q : Type 0) → format ≡ Some Cr3
    → IfSome old (λ bytes. ReadsDirectories read (cr3_answer bytes) result)
    → IfSome old (λ bytes. Q → ReadsAsFormat read format bytes result)
unfolding ReadsAsFormat
cr3_reads read format old result Q e h =
    subst (λ (f : Option PictureFormat). IfSome old (λ bytes. Q → ReadsAsFormat read f bytes result)) (sym e)
    (asked_for old (λ bytes. ReadsDirectories read (cr3_answer bytes) result) Q h)

-- of the other formats
pub known_reads : (read : List ℕ → tiff.Answer) (format : Option PictureFormat) (old : Option (List ℕ)) (result : Result ExifContents Failure) (Q : Type 0)
    → (format ≡ Some Png → ⊥) → (format ≡ Some JpegXl → ⊥) → (format ≡ Some Raf → ⊥) → (format ≡ Some Cr3 → ⊥)
    → IfSome old (λ bytes. Q → ReadsByNeed read (answer_as (container_of format) bytes) result)
    → IfSome old (λ bytes. Q → ReadsAsFormat read format bytes result)
unfolding ReadsAsFormat data_as
known_reads read None old result Q p j r c h = h
known_reads read (Some (Container format)) old result Q p j r c h = h
known_reads read (Some Png) old result Q p j r c h = absurd (p refl)
known_reads read (Some JpegXl) old result Q p j r c h = absurd (j refl)
known_reads read (Some Raf) old result Q p j r c h = absurd (r refl)
known_reads read (Some Orf) old result Q p j r c h = h
known_reads read (Some Rw2) old result Q p j r c h = h
known_reads read (Some Cr3) old result Q p j r c h = absurd (c refl)

-- ---- interruptions

stops : (read : List ℕ → tiff.Answer) (container : Result (List ℕ) Refusal) (e : Failure) → IsInterrupted e → ReadsByNeed read container (Err e)
stops read (Ok bytes) (error.Io cause) i = i
stops read (Err r) (error.Io cause) i = i
stops read (Ok bytes) error.OutOfMemory i = i
stops read (Err r) error.OutOfMemory i = i
stops read container e i = absurd i

cr3_stops : (read : List ℕ → tiff.Answer) (found : Result Cr3Parts Refusal) (e : Failure) → IsInterrupted e → ReadsDirectories read found (Err e)
cr3_stops read (Ok d) (error.Io cause) i = i
cr3_stops read (Err r) (error.Io cause) i = i
cr3_stops read (Ok d) error.OutOfMemory i = i
cr3_stops read (Err r) error.OutOfMemory i = i
cr3_stops read found e i = absurd i

format_stops : (read : List ℕ → tiff.Answer) (format : Option PictureFormat) (bytes : List ℕ) (e : Failure) → IsInterrupted e → ReadsAsFormat read format bytes (Err e)
unfolding ReadsAsFormat
format_stops read None bytes e i = stops read (data_as None bytes) e i
format_stops read (Some Cr3) bytes e i = cr3_stops read (cr3_answer bytes) e i
format_stops read (Some (Container format)) bytes e i = stops read (data_as (Some (Container format)) bytes) e i
format_stops read (Some Png) bytes e i = stops read (data_as (Some Png) bytes) e i
format_stops read (Some JpegXl) bytes e i = stops read (data_as (Some JpegXl) bytes) e i
format_stops read (Some Raf) bytes e i = stops read (data_as (Some Raf) bytes) e i
format_stops read (Some Orf) bytes e i = stops read (data_as (Some Orf) bytes) e i
format_stops read (Some Rw2) bytes e i = stops read (data_as (Some Rw2) bytes) e i

-- an interruption is an answer for any picture
pub picture_stops : (read : List ℕ → tiff.Answer) (bytes : List ℕ) (e : Failure) → IsInterrupted e → ReadsBy read bytes (Err e)
unfolding ReadsBy
picture_stops read bytes e i = format_stops read (format_in (take 4096 bytes)) (as_read (format_in (take 4096 bytes)) bytes) e i
