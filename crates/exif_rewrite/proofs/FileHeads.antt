-- By which head a file that was written again is known.
use Rattle.std.proofs.Common.{◌≡◌, ◌∙◌, ℕ, ◌<◌, ◌≤◌, ◌-◌, ◌^◌, ◌&&◌, Bool, true, false, cond, ltb, List, ◌∷◌, ◌++◌, length, min, take, drop, codes, Option, None, Some, Err, refl, sym, subst, ap, arith, length-drop}
use Rattle.std.proofs.lemmas.Bool.{lt-ltb, and_parts}
use Rattle.std.proofs.lemmas.List.{drop-take, length-take, take-append-drop, take-take, take_all}
use Rattle.std.proofs.lemmas.Slice.Eq.{bytes_eq-Decides}
use Rattle.std.specs.List.{find}
use Rattle.std.specs.Str.{bytes_eq}
use Rattle.exif_isobmff.specs.Boxes.{Parts, all_boxes, and_then, box_at, filling, header_at}
use Rattle.exif_isobmff.specs.HeifFile.{begins_heif, has_heif_brand, is_ftyp}
use Rattle.exif_isobmff.specs.HeifRefusals.{too_small}
use Rattle.exif_segments.specs.Answer.{Answer, found, refused}
use Rattle.exif_containers.specs.Container.{answer_as, container_answer, data_of, format_in}
use Rattle.exif_segments.specs.Jpeg.{jpeg_answer}
use Rattle.exif_segments.specs.Webp.{begins_webp, broken_webp, no_exif_in_webp, not_webp, webp_answer}
use Rattle.exif_containers.specs.declared.container.Format.TheVariants.{Jpeg, Heif, WebP}
use Rattle.exif_parts.specs.WebpLaws.{WebpAnswers}

-- ---- JPEG streams

-- bytes that begin ff d8 are known as a JPEG stream by their head
pub jpeg_head : (out rest : List ℕ) → out ≡ 255 ∷ 216 ∷ rest → format_in (take 4096 out) ≡ Some Jpeg
unfolding format_in
jpeg_head out rest is = subst (λ t. format_in (take 4096 t) ≡ Some Jpeg) (sym is) refl

-- fewer than 2^64 bytes that begin ff d8 answer the data that they answer as a JPEG stream
pub jpeg_container : (out rest : List ℕ) → out ≡ 255 ∷ 216 ∷ rest → length out < 2 ^ 64 → container_answer out ≡ data_of (jpeg_answer out)
unfolding container_answer answer_as
jpeg_container out rest is small = ap (λ f. answer_as f out) (jpeg_head out rest is) ∙ ap (λ t. data_of (jpeg_answer t)) (take_all (2 ^ 64 - 1) out (omega arith))

-- ---- WebP files

either-way : {A : Type 0} (b : Bool) (x : A) → cond b x x ≡ x
either-way true x = refl
either-way false x = refl

-- a box that says to be longer than a head is cut
box-cut : (rest : List ℕ) → length rest ≤ 4096 → box_at (82 ∷ 73 ∷ 70 ∷ 70 ∷ rest) ≡ Err too_small
unfolding box_at header_at
box-cut rest short =
    let len : length (drop 4 rest) ≡ length rest - 4 = length-drop 4 rest in
    let lt : ltb (length (drop 4 rest)) 1380533822 ≡ true = lt-ltb (length (drop 4 rest)) 1380533822 (omega arith) in
    rw lt (either-way _ (Err too_small))

abbrev brand-of : Parts → Bool
brand-of parts = elim (find is_ftyp parts.whole) [ Some p ↦ has_heif_brand p.body | None ↦ false ]

-- hence nothing that begins RIFF is a HEIF file
no-heif : (rest : List ℕ) → length rest ≤ 4096 → begins_heif (82 ∷ 73 ∷ 70 ∷ 70 ∷ rest) ≡ false
unfolding begins_heif all_boxes
no-heif rest short = ap (λ p. brand-of (and_then p (filling box_at (length (73 ∷ 70 ∷ 70 ∷ rest))))) (box-cut rest short)

riff-head : (rest : List ℕ) → length rest ≤ 4096 → begins_webp (82 ∷ 73 ∷ 70 ∷ 70 ∷ rest) ≡ true → format_in (82 ∷ 73 ∷ 70 ∷ 70 ∷ rest) ≡ Some WebP
unfolding format_in
riff-head rest short h =
    ap (λ b. cond b (Some Heif) (cond (begins_webp (82 ∷ 73 ∷ 70 ∷ 70 ∷ rest)) (Some WebP) None)) (no-heif rest short) ∙ ap (λ b. cond b (Some WebP) None) h

-- bytes that begin as a WebP file does are known as one by their head
pub webp_head : (out : List ℕ) → begins_webp out ≡ true → format_in (take 4096 out) ≡ Some WebP
webp_head out h =
    let riff : take 4 out ≡ codes "RIFF" = (bytes_eq-Decides (take 4 out) (codes "RIFF")).0 ((and_parts (bytes_eq (take 4 out) (codes "RIFF")) (bytes_eq (take 4 (drop 8 out)) (codes "WEBP")) h).0) in
    let begins : begins_webp (take 4096 out) ≡ true =
    ap (λ t. bytes_eq t (codes "RIFF") && bytes_eq (take 4 (drop 8 (take 4096 out))) (codes "WEBP")) (take-take 4 4096 out (omega arith))
    ∙ ap (λ t. bytes_eq (take 4 out) (codes "RIFF") && bytes_eq t (codes "WEBP")) (ap (take 4) (drop-take 8 4088 out) ∙ take-take 4 4088 (drop 8 out) (omega arith)) ∙ h in
    let split : take 4096 out ≡ codes "RIFF" ++ drop 4 (take 4096 out) =
    sym (take-append-drop 4 (take 4096 out)) ∙ ap (λ t. t ++ drop 4 (take 4096 out)) (take-take 4 4096 out (omega arith) ∙ riff) in
    let less : length (drop 4 (take 4096 out)) ≡ length (take 4096 out) - 4 = length-drop 4 (take 4096 out) in
    let most : length (take 4096 out) ≡ min 4096 (length out) = length-take 4096 out in
    split-head (take 4096 out) (drop 4 (take 4096 out)) split (omega arith) begins
  where
    split-head : (head rest : List ℕ) → head ≡ codes "RIFF" ++ rest → length rest ≤ 4096 → begins_webp head ≡ true → format_in head ≡ Some WebP
    split-head head rest is short h = subst (λ t. format_in t ≡ Some WebP) (sym is) (riff-head rest short (subst (λ t. begins_webp t ≡ true) is h))

-- bytes that begin as a WebP file does answer the data that they answer as one
pub webp_container : (out : List ℕ) → begins_webp out ≡ true → container_answer out ≡ data_of (webp_answer out)
unfolding container_answer answer_as
webp_container out h = ap (λ f. answer_as f out) (webp_head out h)

begins-so : (a b : Bool) (x y : Answer) → cond a (refused broken_webp) (cond b x (refused not_webp)) ≡ y → (refused broken_webp ≡ y → ⊥) → (refused not_webp ≡ y → ⊥) → b ≡ true
begins-so true b x y e f g = absurd (f e)
begins-so false true x y e f g = refl
begins-so false false x y e f g = absurd (g e)

-- what answers Exif data, or that there are none, begins as a WebP file
pub webp_begins : (put : Option (List ℕ)) (out : List ℕ) → WebpAnswers put out → begins_webp out ≡ true
webp_begins None out h = begins-so (ltb (length out) 12) (begins_webp out) _ (refused no_exif_in_webp) h (λ e. cc) (λ e. cc)
webp_begins (Some payload) out h = begins-so (ltb (length out) 12) (begins_webp out) _ (found payload h.0) h.1 (λ e. cc) (λ e. cc)
