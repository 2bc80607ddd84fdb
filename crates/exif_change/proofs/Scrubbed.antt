-- JPEG and WebP files that were written again: what was put into them is what is read.
use Rattle.std.proofs.Common.{◌≡◌, ◌<◌, ◌^◌, ◌∙◌, inl, ℕ, List, [], ◌∷◌, take, length, Option, None, Some, Result, Ok, Err, refl, sym, ap, subst}
use Rattle.exif_types.specs.Refusals.{Refusal}
use Rattle.exif_containers.specs.Container.{container_answer, data_of, format_in}
use Rattle.exif_containers.specs.declared.container.Format.TheVariants.{WebP}
use Rattle.exif_segments.specs.Jpeg.{jpeg_answer}
use Rattle.exif_segments.specs.declared.remove.Remove.{Remove}
use Rattle.exif_parts.specs.Jpeg as parts
use Rattle.exif_parts.specs.Laws.{Answers, answer_without}
use Rattle.exif_parts.specs.Webp.{webp_rewritten}
use Rattle.exif_parts.specs.Written.{Written}
use Rattle.exif_parts.specs.declared.rewritten.Ended.{Ended}
use Rattle.exif_parts.specs.declared.rewritten.Ended.TheVariants.{Whole, Cut}
use Rattle.exif_parts.proofs.Answered.{answered, begun}
use Rattle.exif_rewrite.specs.FileLaws.{AnswersPut, IsFound}
use Rattle.exif_rewrite.specs.RewrittenFile.{file_rewriting, rewriting_as}
use Rattle.exif_rewrite.proofs.FileHeads.{jpeg_container}
use Rattle.exif_change.specs.Changed.{Change, Undone, whole}
use Rattle.exif_change.specs.Refusals.{Reason, as_read, reading}
use Rattle.exif_change.specs.Rewriting.{if_whole, rewritten_jpeg, rewritten_webp, stream_change, stream_ended}

-- a change, or another one
change_or : Change → Result Change Reason → Change
change_or other (Ok change) = change
change_or other (Err why) = other

not_whole : (why : Reason) (new : List ℕ) → ◌≡◌ {A = Result Change Reason} (Err why) (Ok (whole new)) → ⊥
not_whole why new e = cc

-- ---- JPEG streams

-- a stream that was whole
ends_whole : (how : Ended) (bytes new : List ℕ)
    → ◌≡◌ {A = Result Change Reason} (Ok (stream_change bytes how)) (Ok (whole new))
    → (how ≡ Whole) × (bytes ≡ new)
unfolding change_or
ends_whole Whole bytes new e = (refl, ap (λ r. (change_or (whole new) r).file) e)
ends_whole Cut bytes new e =
    let none : List (Option Undone) → ℕ = λ us. elim us [ [] ↦ 0 | u ∷ us ↦ 1 ] in
    absurd (one_zero (ap (λ r. none (change_or (whole new) r).undone) e))
  where
    one_zero : ◌≡◌ {A = ℕ} 1 0 → ⊥
    one_zero e = cc

-- what the reader finds in such a stream is what the container answers
put_read : (put : Option (List ℕ)) (out : Written) → out.ended ≡ Whole
    → container_answer out.bytes ≡ data_of (jpeg_answer out.bytes) → Answers put out
    → AnswersPut put (container_answer out.bytes)
put_read None out ended e h = inl (e ∙ ap data_of (h ∙ ap answer_without ended))
put_read (Some payload) out ended e h = e ∙ ap data_of h.1

-- what was put into a JPEG file is what is read
pub jpeg_answers : (remove : Remove) (put : Option (List ℕ)) (file new : List ℕ)
    → as_read (rewritten_jpeg remove put file) ≡ Ok (whole new) → length new < 2 ^ 64
    → AnswersPut put (container_answer new)
jpeg_answers remove put file new e short = by_made (parts.rewritten remove put file) refl e
  where
    by_made : (made : Result Written Refusal) → parts.rewritten remove put file ≡ made
        → as_read (stream_ended made) ≡ Ok (whole new) → AnswersPut put (container_answer new)
    by_made (Ok out) is e =
        let ended = ends_whole out.ended out.bytes new e in
        let head = begun remove put file out is in
        let small : length out.bytes < 2 ^ 64 =
        subst (λ (xs : List ℕ). length xs < 2 ^ 64) (sym ended.1) short in
        subst (λ (xs : List ℕ). AnswersPut put (container_answer xs)) ended.1
        (put_read put out ended.0 (jpeg_container out.bytes head.tail head.is small)
        (answered remove put file out is))
    by_made (Err refusal) is e = absurd (not_whole (reading refusal) new e)

-- ---- WebP files

-- a WebP file that was written again
webp_ok : (made : Result (List ℕ) Refusal) (new : List ℕ) → as_read (if_whole made) ≡ Ok (whole new)
    → made ≡ Ok new
unfolding change_or
webp_ok (Ok out) new e =
    ap (λ (xs : List ℕ). let r : Result (List ℕ) Refusal = Ok xs in r)
    (ap (λ r. (change_or (whole new) r).file) e)
webp_ok (Err refusal) new e = absurd (not_whole (reading refusal) new e)

webp_is : (remove : Remove) (put : Option (List ℕ)) (file : List ℕ)
    → format_in (take 4096 file) ≡ Some WebP
    → file_rewriting remove put file ≡ webp_rewritten remove put file
unfolding file_rewriting rewriting_as
webp_is remove put file is = ap (λ f. rewriting_as f remove put file) is

-- what was put into a WebP file is what is read
pub webp_answers : (remove : Remove) (put : Option (List ℕ)) (file new : List ℕ)
    → ((remove : Remove) (put : Option (List ℕ)) (bytes : List ℕ) → IsFound remove put bytes)
    → format_in (take 4096 file) ≡ Some WebP
    → as_read (rewritten_webp remove put file) ≡ Ok (whole new) → length new < 2 ^ 64
    → AnswersPut put (container_answer new)
webp_answers remove put file new law is e short =
    law remove put file new
    (webp_is remove put file is ∙ webp_ok (webp_rewritten remove put file) new e) short
