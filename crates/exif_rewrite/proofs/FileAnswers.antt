-- Files that were written again: what reading finds in them, and what they are when written again
-- once more.
use Rattle.std.proofs.Common.{◌≡◌, ◌∙◌, inl, inr, ℕ, ◌<◌, ◌^◌, List, length, take, Option, None, Some, Result, Ok, Err, ap}
use Rattle.exif_types.specs.Refusals.{Refusal, ◌>>=◌}
use Rattle.exif_containers.specs.Container.{container_answer, data_of, format_in, unknown_format}
use Rattle.exif_segments.specs.Jpeg.{jpeg_answer}
use Rattle.exif_segments.specs.Webp.{webp_answer}
use Rattle.exif_containers.specs.declared.container.Format.{Format}
use Rattle.exif_containers.specs.declared.container.Format.TheVariants.{Tiff, Jpeg, Heif, WebP}
use Rattle.exif_segments.specs.declared.remove.Remove.{Remove}
use Rattle.exif_parts.specs.Jpeg.{Rewriting, rewritten}
use Rattle.exif_parts.specs.Laws as jpeg_laws
use Rattle.exif_parts.specs.WebpLaws.{WebpAnswers, WebpIsAnswered, WebpIsStable}
use Rattle.exif_parts.specs.Written.{Written}
use Rattle.exif_parts.specs.declared.rewritten.Ended.TheVariants.{Whole}
use Rattle.exif_parts.proofs.Answered.{begun}
use Rattle.exif_rewrite.specs.RewrittenJpeg.{unless_cut}
use Rattle.exif_rewrite.specs.FileLaws.{AnswersPut, IsFound, IsSettled}
use Rattle.exif_rewrite.specs.RewrittenFile.{file_rewriting, heif_stays, rewriting_as, tiff_stays}
use Rattle.exif_rewrite.proofs.FileHeads.{jpeg_container, jpeg_head, webp_begins, webp_container, webp_head}
use Rattle.exif_rewrite.proofs.JpegSteps.{whole_made}

-- the laws of JPEG files
abbrev JpegIsAnswered : Remove → Option (List ℕ) → List ℕ → Type 0
JpegIsAnswered remove put bytes = (new : Written) → jpeg_laws.IsAnswered remove put bytes new

abbrev JpegIsStable : Remove → Option (List ℕ) → List ℕ → Type 0
JpegIsStable remove put bytes = (new : Written) → jpeg_laws.IsStable remove put bytes new

-- and those of WebP files
abbrev FileIsAnswered : Remove → Option (List ℕ) → List ℕ → Type 0
FileIsAnswered remove put bytes = (new : List ℕ) → WebpIsAnswered remove put bytes new

abbrev FileIsStable : Remove → Option (List ℕ) → List ℕ → Type 0
FileIsStable remove put bytes = (new : List ℕ) → WebpIsStable remove put bytes new

-- a whole file
abbrev whole : List ℕ → Written
whole out = record { bytes = out; ended = Whole }

refused_first : {P : Type 0} (r : Refusal) (out : List ℕ) → (let refused : Result (List ℕ) Refusal = Err r in refused ≡ Ok out) → P
refused_first r out h = absurd (cc)

jpeg_put : (put : Option (List ℕ)) (out : List ℕ) → container_answer out ≡ data_of (jpeg_answer out) → jpeg_laws.Answers put (whole out) → AnswersPut put (container_answer out)
jpeg_put None out e h = inl (e ∙ ap data_of h)
jpeg_put (Some payload) out e h = e ∙ ap data_of h.1

webp_put : (put : Option (List ℕ)) (out : List ℕ) → container_answer out ≡ data_of (webp_answer out) → WebpAnswers put out → AnswersPut put (container_answer out)
webp_put None out e h = inr (e ∙ ap data_of h)
webp_put (Some payload) out e h = e ∙ ap data_of h.1

found_as : (f : Option Format) (remove : Remove) (put : Option (List ℕ)) (bytes : List ℕ)
    → JpegIsAnswered remove put bytes → FileIsAnswered remove put bytes
    → (out : List ℕ) → rewriting_as f remove put bytes ≡ Ok out → length out < 2 ^ 64 → AnswersPut put (container_answer out)
unfolding rewriting_as
found_as (Some Jpeg) remove put bytes ja wa out e short =
    let made = whole_made (rewritten remove put bytes) out e in
    let head = begun remove put bytes (whole out) made in
    jpeg_put put out (jpeg_container out head.tail head.is short) (ja (whole out) made)
found_as (Some WebP) remove put bytes ja wa out e short =
    let answers = wa out e in
    webp_put put out (webp_container out (webp_begins put out answers)) answers
found_as (Some Heif) remove put bytes ja wa out e short = refused_first heif_stays out e
found_as (Some Tiff) remove put bytes ja wa out e short = refused_first tiff_stays out e
found_as None remove put bytes ja wa out e short = refused_first unknown_format out e

settled_as : (f : Option Format) (remove : Remove) (put : Option (List ℕ)) (bytes : List ℕ)
    → JpegIsStable remove put bytes → FileIsAnswered remove put bytes → FileIsStable remove put bytes
    → (out : List ℕ) → rewriting_as f remove put bytes ≡ Ok out → rewriting_as (format_in (take 4096 out)) remove put out ≡ Ok out
unfolding rewriting_as
settled_as (Some Jpeg) remove put bytes js wa ws out e =
    let made = whole_made (rewritten remove put bytes) out e in
    let head = begun remove put bytes (whole out) made in
    ap (λ f. rewriting_as f remove put out) (jpeg_head out head.tail head.is)
    ∙ ap (λ (o : Rewriting). o >>= λ new. unless_cut new.ended new.bytes) (js (whole out) made)
settled_as (Some WebP) remove put bytes js wa ws out e =
    ap (λ f. rewriting_as f remove put out) (webp_head out (webp_begins put out (wa out e))) ∙ ws out e
settled_as (Some Heif) remove put bytes js wa ws out e = refused_first heif_stays out e
settled_as (Some Tiff) remove put bytes js wa ws out e = refused_first tiff_stays out e
settled_as None remove put bytes js wa ws out e = refused_first unknown_format out e

-- reading a file written again finds what was put, given the laws of JPEG and WebP files
pub file_found : (remove : Remove) (put : Option (List ℕ)) (bytes : List ℕ)
    → JpegIsAnswered remove put bytes → FileIsAnswered remove put bytes → IsFound remove put bytes
unfolding file_rewriting
file_found remove put bytes = found_as (format_in (take 4096 bytes)) remove put bytes

-- a file written again twice is as written once, given the laws of JPEG and WebP files
pub file_settled : (remove : Remove) (put : Option (List ℕ)) (bytes : List ℕ)
    → JpegIsStable remove put bytes → FileIsAnswered remove put bytes → FileIsStable remove put bytes → IsSettled remove put bytes
unfolding file_rewriting
file_settled remove put bytes = settled_as (format_in (take 4096 bytes)) remove put bytes
