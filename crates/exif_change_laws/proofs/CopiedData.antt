-- Exif data that were put into a file are read of the new one.
use Rattle.std.proofs.Common.{◌≡◌, ◌∙◌, ◌<◌, ◌-◌, ◌^◌, ℕ, Bool, true, false, List, length, take, Option, Some, None, Result, Ok, Err, if◌then◌else◌, refl, sym, ap, subst, arith}
use Rattle.exif_base.specs.declared.endian.Order.{Order}
use Rattle.exif_types.specs.Refusals as types
use Rattle.exif_types.specs.Refusals.{Refusal}
use Rattle.exif_types.specs.declared.field.Field.{Field}
use Rattle.exif_tiff.specs.Answers.{raw_answer}
use Rattle.exif_tiff.specs.Trace.{header}
use Rattle.exif_segments.specs.declared.remove.Remove.{Remove}
use Rattle.exif_segments.specs.declared.remove.Remove.TheVariants.{Exif}
use Rattle.exif_containers.specs.Container as container
use Rattle.exif_containers.specs.Container.{container_answer, data_of}
use Rattle.exif_containers.specs.declared.container.Format.{Format}
use Rattle.exif_containers.specs.declared.container.Format.TheVariants as known
use Rattle.exif_formats.specs.Formats.{format_in, known_or, other_format_in}
use Rattle.exif_formats.specs.Jxl.{jxl_answer}
use Rattle.exif_formats.specs.Pictures.{png_data}
use Rattle.exif_formats.specs.declared.format.PictureFormat.{PictureFormat}
use Rattle.exif_formats.specs.declared.format.PictureFormat.TheVariants.{Container, Png, JpegXl, Raf, Orf, Rw2, Cr3}
use Rattle.exif_parts.specs.Jxl.{jxl_rewritten}
use Rattle.exif_parts.specs.Written.{Written}
use Rattle.exif_parts.specs.declared.rewritten.Ended.{Ended}
use Rattle.exif_parts.specs.declared.rewritten.Ended.TheVariants.{Whole, Cut}
use Rattle.exif_rewrite.specs.FileLaws.{IsFound}
use Rattle.exif_parts.specs.Png.{png_rewritten}
use Rattle.exif_parts.specs.PngLaws.{PngIsAnswered}
use Rattle.exif_change.specs.Changed.{Change, whole}
use Rattle.exif_change.specs.Reading.{Contents, data_contents, entry_limit, fields_in, without_fault}
use Rattle.exif_change.specs.Refusals.{Reason, as_read, reading, unknown_format, ◌>>=◌}
use Rattle.exif_change.specs.Rewriting.{if_whole, stream_change, stream_ended}
use Rattle.exif_change.proofs.Scrubbed.{jpeg_answers, webp_answers}
use Rattle.exif_copy.specs.Copied.{copied, placed_shaped}
use Rattle.exif_copy.specs.Found.{data_found, exif_found, format_for}
use Rattle.exif_copy.specs.Placed.{placed, placed_in_jxl, target_refused}
use Rattle.exif_copy.specs.declared.copying.Shape.TheVariants.{Source}
use Rattle.exif_change_laws.specs.JxlFound.{JxlIsFound}

no_ok : {X : Type 0} (why : Reason) (x : X) → ◌≡◌ {A = Result X Reason} (Err why) (Ok x) → ⊥
no_ok why x e = cc

-- ---- formats

-- whether a format is one of a container
abbrev is_container : Option PictureFormat → Bool
is_container (Some (Container format)) = true
is_container _ = false

abbrev contained_in : Option PictureFormat → Option Format
contained_in (Some (Container format)) = Some format
contained_in _ = None

other_is_none : (a b c d e f : Bool)
    → is_container (if a then Some Png else (if b then Some JpegXl else (if c then Some Raf else (if d then Some Orf else (if e then Some Rw2 else (if f then Some Cr3 else None)))))) ≡ false
other_is_none true b c d e f = refl
other_is_none false true c d e f = refl
other_is_none false false true d e f = refl
other_is_none false false false true e f = refl
other_is_none false false false false true f = refl
other_is_none false false false false false true = refl
other_is_none false false false false false false = refl

other_is_no_container : (head : List ℕ) → is_container (other_format_in head) ≡ false
unfolding other_format_in
other_is_no_container head = other_is_none _ _ _ _ _ _

-- a WebP file is one for the containers, too
known_webp : (o : Option Format) (other : Option PictureFormat) → is_container other ≡ false
    → known_or o other ≡ Some (Container known.WebP) → o ≡ Some known.WebP
known_webp (Some format) other n e = ap contained_in e
known_webp None other n e = absurd (let h : true ≡ false = sym (ap is_container e) ∙ n in cc)

webp_known : (file : List ℕ) → format_for file ≡ Some (Container known.WebP)
    → container.format_in (take 4096 file) ≡ Some known.WebP
unfolding format_in
webp_known file e =
    known_webp (container.format_in (take 4096 file)) (other_format_in (take 4096 file)) (other_is_no_container (take 4096 file)) e

-- ---- PNG files

abbrev change_or : Change → Result Change Reason → Change
change_or other (Ok change) = change
change_or other (Err why) = other

whole_made : (made : Result (List ℕ) Refusal) (new : List ℕ) → as_read (if_whole made) ≡ Ok (whole new)
    → made ≡ Ok new
whole_made (Ok file) new e = ap (λ (f : List ℕ). let y : Result (List ℕ) Refusal = Ok f in y) (ap (λ r. (change_or (whole new) r).file) e)
whole_made (Err r) new e = absurd (no_ok _ (whole new) e)

png_answers : (data' file new : List ℕ)
    → ((remove : Remove) (put : Option (List ℕ)) (file new : List ℕ) (n : ℕ) → PngIsAnswered remove put file new n)
    → as_read (if_whole (png_rewritten Exif (Some data') file)) ≡ Ok (whole new) → length new < 2 ^ 64 - 1
    → png_data new ≡ Ok data'
unfolding png_data
png_answers data' file new law e short =
    ap container.data_of (law Exif (Some data') file new (2 ^ 64 - 1) (whole_made (png_rewritten Exif (Some data') file) new e) short).1

-- ---- JPEG XL files

jxl_answers : (data' file new : List ℕ) → ((remove : Remove) (payload bytes : List ℕ) (made : Written) → JxlIsFound remove payload bytes made)
    → as_read (placed_in_jxl data' file) ≡ Ok (whole new) → data_of (jxl_answer new) ≡ Ok data'
jxl_answers data' file new law e = by_made (jxl_rewritten Exif (Some data') file) refl e
  where
    file_is : (bytes : List ℕ) (ended : Ended) → (stream_change bytes ended).file ≡ bytes
    file_is bytes Whole = refl
    file_is bytes Cut = refl

    by_made : (made : Result Written Refusal) → jxl_rewritten Exif (Some data') file ≡ made → as_read (stream_ended made) ≡ Ok (whole new) → data_of (jxl_answer new) ≡ Ok data'
    by_made (Ok out) is h =
        let same : out.bytes ≡ new = sym (file_is out.bytes out.ended) ∙ ap (λ r. (change_or (whole new) r).file) h in
        ap (λ (l : List ℕ). data_of (jxl_answer l)) (sym same) ∙ law Exif data' file out is
    by_made (Err refusal) is h = absurd (no_ok (reading refusal) (whole new) h)

-- ---- files

-- the laws of files that are written again
pub record Laws : Type 0 where
  pub file : (remove : Remove) (put : Option (List ℕ)) (bytes : List ℕ) → IsFound remove put bytes
  pub png : (remove : Remove) (put : Option (List ℕ)) (file new : List ℕ) (n : ℕ) → PngIsAnswered remove put file new n
  pub jxl : (remove : Remove) (payload file : List ℕ) (new : Written) → JxlIsFound remove payload file new

by_format : Laws → (o : Option PictureFormat) (data' to new : List ℕ) → format_for to ≡ o
    → placed o data' to ≡ Ok (whole new) → length new < 2 ^ 64 - 1 → data_found o new ≡ Ok data'
by_format laws None data' to new is e short = absurd (no_ok unknown_format (whole new) e)
by_format laws (Some (Container known.Jpeg)) data' to new is e short =
    jpeg_answers Exif (Some data') to new e (omega arith)
by_format laws (Some (Container known.WebP)) data' to new is e short =
    webp_answers Exif (Some data') to new laws.file (webp_known to is) e (omega arith)
by_format laws (Some Png) data' to new is e short = png_answers data' to new laws.png e short
by_format laws (Some (Container known.Tiff)) data' to new is e short = absurd (no_ok target_refused (whole new) e)
by_format laws (Some (Container known.Heif)) data' to new is e short = absurd (no_ok target_refused (whole new) e)
by_format laws (Some JpegXl) data' to new is e short = jxl_answers data' to new laws.jxl e
by_format laws (Some Raf) data' to new is e short = absurd (no_ok target_refused (whole new) e)
by_format laws (Some Orf) data' to new is e short = absurd (no_ok target_refused (whole new) e)
by_format laws (Some Rw2) data' to new is e short = absurd (no_ok target_refused (whole new) e)
by_format laws (Some Cr3) data' to new is e short = absurd (no_ok target_refused (whole new) e)

-- the data of a picture, put into a file, are read of the new one
pub found_again : Laws → (from to new : List ℕ) (contents : Contents) → exif_found from ≡ Ok contents
    → copied Source from to ≡ Ok (whole new) → length new < 2 ^ 64 - 1
    → data_found (format_for to) new ≡ Ok contents.bytes
found_again laws from to new contents read made short =
    by_format laws (format_for to) contents.bytes to new refl
    (sym (ap (λ r. as_read r >>= placed_shaped Source to) read) ∙ made) short

-- ---- what is read of them

-- data that were read are the bytes of what was read
abbrev bytes_or : List ℕ → Result Contents Refusal → List ℕ
bytes_or other (Ok contents) = contents.bytes
bytes_or other (Err r) = other

kept_by : (data' : List ℕ) (contents : Contents) (x : Result (List Field) Refusal) (y : Result Order Refusal)
    → types.◌>>=◌ x (λ fields. types.◌>>=◌ y (λ order. Ok (record { bytes = data'; order = order; fields = fields })))
    ≡ Ok contents → contents.bytes ≡ data'
kept_by data' contents (Ok fields) (Ok order) e = sym (ap (bytes_or data') e)
kept_by data' contents (Ok fields) (Err r) e = absurd (let h : ◌≡◌ {A = Result Contents Refusal} (Err r) (Ok contents) = e in cc)
kept_by data' contents (Err r) y e = absurd (let h : ◌≡◌ {A = Result Contents Refusal} (Err r) (Ok contents) = e in cc)

bytes_kept : (data' : List ℕ) (contents : Contents) → data_contents data' ≡ Ok contents → contents.bytes ≡ data'
unfolding data_contents
bytes_kept data' contents e =
    kept_by data' contents (fields_in (raw_answer true entry_limit data')) (without_fault (header data')) e

read_so : (found : Result (List ℕ) Refusal) (contents : Contents) → types.◌>>=◌ found data_contents ≡ Ok contents
    → data_contents contents.bytes ≡ Ok contents
read_so (Ok data') contents e = subst (λ (xs : List ℕ). data_contents xs ≡ Ok contents) (sym (bytes_kept data' contents e)) e
read_so (Err r) contents e = absurd (let h : ◌≡◌ {A = Result Contents Refusal} (Err r) (Ok contents) = e in cc)

pub read_as_before : (from : List ℕ) (contents : Contents) (found : Result (List ℕ) Refusal) → exif_found from ≡ Ok contents
    → found ≡ Ok contents.bytes → types.◌>>=◌ found data_contents ≡ exif_found from
read_as_before from contents found read e =
    ap (λ r. types.◌>>=◌ r data_contents) e ∙ (read_so (data_found (format_for from) from) contents read ∙ sym read)
