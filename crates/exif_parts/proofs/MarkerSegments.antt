-- The bytes of a piece of a JPEG stream: outside of segments, or a marker segment that the reader
-- reads back.
use Rattle.std.proofs.Common.{◌≡◌, ◌≢◌, ◌<◌, ◌≤◌, ◌+◌, ◌-◌, ◌*◌, max, ℕ, zero, suc, Bool, true, false, cond, eqb, ltb, List, [], ◌∷◌, ◌++◌, length, take, drop, replicate, slice_index, Some, unwrap_or, refl, ap, sym, ◌∙◌, arith, append_assoc, length-drop}
use Rattle.std.proofs.lemmas.Bool.{eqb-true, eqb-false, ne_eqb}
use Rattle.std.proofs.lemmas.Bool.Decides.{nat_tests}
use Rattle.std.proofs.lemmas.List.{length-take-le}
use Rattle.exif_segments.specs.Jpeg.{answer_from, first_answer, first_unit, unit_answer, unit_from_code, units_of, with_units}
use Rattle.exif_segments.proofs.JpegUnits.{answer-first_unit, unit-alone, unit-segment}
use Rattle.exif_segments.proofs.LawsJpeg.{after_marks-fill}
use Rattle.exif_inventory.specs.JpegPieces.{fill_len, free_len, given_len}
use Rattle.exif_parts.proofs.Pieces.{IsMarked, IsSized, marker_at, content_at, fill_short}

-- so many ffs, a marker and a body, which the reader reads back with all that follows
pub record IsMarkerSegment (span : List ℕ) (n marker : ℕ) (body : List ℕ) : Type 0 where
  pub some : 0 < n
  pub no_ff : marker ≢ 255
  pub bytes_are : span ≡ replicate n 255 ++ (marker ∷ body)
  pub brings : (ys : List ℕ) → unit_from_code (marker ∷ (body ++ ys)) ≡ Some (record { code = marker; body = body; rest = ys })

-- ---- bytes by their ffs

-- the ffs at the front, a marker and what follows
pub record Filled (bytes : List ℕ) (n : ℕ) : Type 0 where
  pub whole : bytes ≡ replicate n 255 ++ (slice_index bytes n ∷ drop (suc n) bytes)
  pub no_ff : slice_index bytes n ≢ 255

pub filled : (bytes : List ℕ) → fill_len bytes < length bytes → Filled bytes (fill_len bytes)
filled [] h = absurd (omega arith)
filled (b ∷ bytes) h = by (eqb b 255) refl h (λ l. filled bytes l)
  where
    by : (t : Bool) → eqb b 255 ≡ t → cond t (suc (fill_len bytes)) 0 < suc (length bytes) → (fill_len bytes < length bytes → Filled bytes (fill_len bytes))
        → Filled (b ∷ bytes) (cond t (suc (fill_len bytes)) 0)
    by true e h ih =
        let s = ih (omega arith) in
        record { whole = ap (λ c. c ∷ bytes) (eqb-true b 255 e) ∙ ap (λ t. 255 ∷ t) s.whole; no_ff = s.no_ff }
    by false e h ih = record { whole = refl; no_ff = eqb-false b 255 e }

-- a front of them
pub take_filled : (n k marker : ℕ) (tail : List ℕ) → take (n + 1 + k) (replicate n 255 ++ (marker ∷ tail)) ≡ replicate n 255 ++ (marker ∷ take k tail)
take_filled zero k marker tail = ap (λ m. take m (marker ∷ tail)) (one k)
  where
    one : (k : ℕ) → 0 + 1 + k ≡ suc k
    one k = omega arith
take_filled (suc n) k marker tail = ap (λ m. take m (255 ∷ (replicate n 255 ++ (marker ∷ tail)))) (one n k) ∙ ap (λ t. 255 ∷ t) (take_filled n k marker tail)
  where
    one : (n k : ℕ) → suc n + 1 + k ≡ suc (n + 1 + k)
    one n k = omega arith

-- how many they are
pub fill_filled : (n marker : ℕ) (tail : List ℕ) → marker ≢ 255 → fill_len (replicate n 255 ++ (marker ∷ tail)) ≡ n
fill_filled zero marker tail h = ap (λ t. cond t (suc (fill_len tail)) 0) (ne_eqb marker 255 h)
fill_filled (suc n) marker tail h = ap suc (fill_filled n marker tail h)

pub index_filled : (n marker : ℕ) (tail : List ℕ) → slice_index (replicate n 255 ++ (marker ∷ tail)) n ≡ marker
index_filled zero marker tail = refl
index_filled (suc n) marker tail = index_filled n marker tail

pub drop_filled : (n marker : ℕ) (tail : List ℕ) → drop (n + 1) (replicate n 255 ++ (marker ∷ tail)) ≡ tail
drop_filled zero marker tail = refl
drop_filled (suc n) marker tail = ap (λ m. drop m (255 ∷ (replicate n 255 ++ (marker ∷ tail)))) (one n) ∙ drop_filled n marker tail
  where
    one : (n : ℕ) → suc n + 1 ≡ suc (n + 1)
    one n = omega arith

pub prefix_filled : (n marker : ℕ) (tail : List ℕ) → take (n + 1) (replicate n 255 ++ (marker ∷ tail)) ≡ replicate n 255 ++ (marker ∷ [])
prefix_filled zero marker tail = refl
prefix_filled (suc n) marker tail = ap (λ m. take m (255 ∷ (replicate n 255 ++ (marker ∷ tail)))) (one n) ∙ ap (λ t. 255 ∷ t) (prefix_filled n marker tail)
  where
    one : (n : ℕ) → suc n + 1 ≡ suc (n + 1)
    one n = omega arith

pub length_filled : (n marker : ℕ) (tail : List ℕ) → n < length (replicate n 255 ++ (marker ∷ tail))
length_filled zero marker tail = omega arith
length_filled (suc n) marker tail = let h = length_filled n marker tail in omega arith

-- where no byte comes before the first ff, there is one
pub first_mark : (bytes : List ℕ) → 0 < length bytes → ltb 0 (free_len bytes) ≡ false → 0 < fill_len bytes
first_mark [] h e = absurd (omega arith)
first_mark (b ∷ bytes) h e = by (eqb b 255) e
  where
    by : (t : Bool) → ltb 0 (cond t 0 (suc (free_len bytes))) ≡ false → 0 < cond t (suc (fill_len bytes)) 0
    by true e = omega arith
    by false e = absurd (grind (arith, nat_tests))

-- ---- what the reader reads

-- a marker segment is read
pub answer_segment : (span : List ℕ) (n marker : ℕ) (body ys : List ℕ) → IsMarkerSegment span n marker body
    → answer_from (span ++ ys) ≡ unwrap_or (unit_answer (record { code = marker; body = body; rest = ys })) (answer_from ys)
answer_segment span zero marker body ys u = absurd (let some = u.some in omega arith)
answer_segment span (suc n) marker body ys u =
    answer-first_unit (span ++ ys) ∙ ap (λ o. first_answer (with_units o units_of)) first
  where
    first : first_unit (span ++ ys) ≡ Some (record { code = marker; body = body; rest = ys })
    first =
        ap (λ (t : List ℕ). first_unit (t ++ ys)) u.bytes_are
        ∙ ap first_unit (append_assoc (replicate (suc n) 255) (marker ∷ body) ys)
        ∙ ap unit_from_code (after_marks-fill (suc n) marker (body ++ ys) u.no_ff)
        ∙ u.brings ys

-- ---- the bytes of a marker and of a segment

-- a marker without a length
pub alone_segment : (bytes : List ℕ) → 0 < length bytes → IsMarked true bytes → (k : ℕ) → k ≡ fill_len bytes + 1 → IsMarkerSegment (take k bytes) (fill_len bytes) (marker_at bytes) []
alone_segment bytes h m k e =
    let more = m.more in
    let short = fill_short bytes in
    let less : fill_len bytes < length bytes = grind (arith, nat_tests) in
    let f = filled bytes less in
    let tail = drop (suc (fill_len bytes)) bytes in
    record {
      some = first_mark bytes h m.free;
      no_ff = f.no_ff;
      bytes_are = ap (λ j. take j bytes) (e ∙ zero_more (fill_len bytes)) ∙ ap (λ t. take (fill_len bytes + 1 + 0) t) f.whole ∙ take_filled (fill_len bytes) 0 (marker_at bytes) tail;
      brings = λ ys. unit-alone (marker_at bytes) ys m.is;
    }
  where
    zero_more : (n : ℕ) → n + 1 ≡ n + 1 + 0
    zero_more n = omega arith

-- the length of a segment and its content, behind a marker that is at this index
pub two_front : (n : ℕ) (bytes : List ℕ) → suc (suc n) < length bytes
    → drop (suc n) bytes ≡ slice_index bytes (suc n) ∷ slice_index bytes (suc (suc n)) ∷ drop (suc (suc (suc n))) bytes
two_front n [] h = absurd (omega arith)
two_front zero (a ∷ []) h = absurd (omega arith)
two_front zero (a ∷ b ∷ []) h = absurd (omega arith)
two_front zero (a ∷ b ∷ c ∷ bytes) h = refl
two_front (suc n) (a ∷ bytes) h = two_front n bytes (omega arith)

pub take_two : (len high low : ℕ) (tail : List ℕ) → 2 ≤ len → take len (high ∷ low ∷ tail) ≡ high ∷ low ∷ take (len - 2) tail
take_two zero high low tail h = absurd (omega arith)
take_two (suc zero) high low tail h = absurd (omega arith)
take_two (suc (suc len)) high low tail h = ap (λ k. high ∷ low ∷ take k tail) (two len)
  where
    two : (len : ℕ) → len ≡ suc (suc len) - 2
    two len = omega arith

one_on : (n : ℕ) → n + 1 ≡ suc n
one_on n = omega arith

two_on : (n : ℕ) → n + 2 ≡ suc (suc n)
two_on n = omega arith

three_on : (n : ℕ) → suc (suc (suc n)) ≡ n + 3
three_on n = omega arith

-- its content
pub content_is : (bytes : List ℕ) → IsSized bytes
    → content_at bytes ≡ drop 2 (take (given_len (fill_len bytes) bytes) (drop (suc (fill_len bytes)) bytes))
content_is bytes s =
    let size = s.size in
    let n = fill_len bytes in
    let len = given_len n bytes in
    let three : 3 ≤ length bytes - n = grind (arith, nat_tests) in
    let more = drop (suc (suc (suc n))) bytes in
    sym (ap (drop 2) (ap (take len) (two_front n bytes (omega arith)) ∙ take_two len (slice_index bytes (suc n)) (slice_index bytes (suc (suc n))) more (omega arith))
    ∙ ap (λ i. take (len - 2) (drop i bytes)) (three_on n))

-- a segment
pub sized_segment : (bytes : List ℕ) → 0 < length bytes → IsSized bytes → (k : ℕ) → k ≡ fill_len bytes + 1 + given_len (fill_len bytes) bytes
    → IsMarkerSegment (take k bytes) (fill_len bytes) (marker_at bytes) (take (given_len (fill_len bytes) bytes) (drop (suc (fill_len bytes)) bytes))
sized_segment bytes h s k e =
    let size = s.size in
    let whole = s.whole in
    let three : 3 ≤ length bytes - fill_len bytes = grind (arith, nat_tests) in
    let fits : given_len (fill_len bytes) bytes ≤ length bytes - fill_len bytes - 1 = grind (arith, nat_tests) in
    let less : fill_len bytes < length bytes = omega arith in
    let f = filled bytes less in
    let tail = drop (suc (fill_len bytes)) bytes in
    record {
      some = first_mark bytes h s.marked.free;
      no_ff = f.no_ff;
      bytes_are = ap (λ j. take j bytes) e ∙ ap (λ t. take (fill_len bytes + 1 + given_len (fill_len bytes) bytes) t) f.whole ∙ take_filled (fill_len bytes) (given_len (fill_len bytes) bytes) (marker_at bytes) tail;
      brings = λ ys. body_brings (fill_len bytes) three fits ys;
    }
  where
    body_brings : (n : ℕ) → 3 ≤ length bytes - n → given_len n bytes ≤ length bytes - n - 1 → (ys : List ℕ)
        → unit_from_code (marker_at bytes ∷ (take (given_len n bytes) (drop (suc n) bytes) ++ ys))
        ≡ Some (record { code = marker_at bytes; body = take (given_len n bytes) (drop (suc n) bytes); rest = ys })
    body_brings n three fits ys =
        let high = slice_index bytes (suc n) in
        let low = slice_index bytes (suc (suc n)) in
        let more = drop (suc (suc (suc n))) bytes in
        let len : given_len n bytes ≡ max 2 (256 * high + low) =
        ap (λ i. max 2 (256 * slice_index bytes i + slice_index bytes (n + 2))) (one_on n) ∙ ap (λ i. max 2 (256 * high + slice_index bytes i)) (two_on n) in
        let least : 2 ≤ given_len n bytes = omega arith in
        let content = take (given_len n bytes - 2) more in
        let left : length more ≡ length bytes - suc (suc (suc n)) = length-drop (suc (suc (suc n))) bytes in
        let long : length content ≡ given_len n bytes - 2 = length-take-le (given_len n bytes - 2) more (omega arith) in
        let body : take (given_len n bytes) (drop (suc n) bytes) ≡ high ∷ low ∷ content =
        ap (take (given_len n bytes)) (two_front n bytes (omega arith)) ∙ take_two (given_len n bytes) high low more least in
        let counted : max 2 (256 * high + low) ≡ 2 + length content = omega arith in
        ap (λ (b : List ℕ). unit_from_code (marker_at bytes ∷ (b ++ ys))) body
        ∙ unit-segment (marker_at bytes) high low content ys s.marked.is counted
        ∙ ap (λ (b : List ℕ). Some (record { code = marker_at bytes; body = b; rest = ys })) (sym body)
