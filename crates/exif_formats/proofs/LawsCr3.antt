-- The `moov` of a CR3 file is that of its tree, and all bytes have a tree.
use Rattle.std.proofs.Common.{◌≡◌, ℕ, ◌+◌, ◌-◌, ◌^◌, ◌<◌, ◌≤◌, Bool, true, false, cond, ◌&&◌, eqb, ltb, List, [], ◌++◌, length, take, drop, codes, None, Result, Ok, Err, ap, sym, ◌∙◌, refl, subst, arith, append_assoc, length-append}
use Rattle.std.specs.Str.{bytes_eq}
use Rattle.std.proofs.lemmas.Bool.{and_parts, eqb-false, eqb-true, le-ltb, lt-ltb, ltb-false, ltb-true}
use Rattle.std.proofs.lemmas.List.{drop_at, take-append-drop, length-take-le, drop-drop}
use Rattle.std.proofs.lemmas.Slice.Eq.{bytes_eq-Decides}
use Rattle.byteorder.specs.Endian.{big_number}
use Rattle.byteorder.specs.Numbers.{big_from-append}
use Rattle.exif_types.specs.Refusals.{Refusal, ◌>>=◌}
use Rattle.exif_formats.specs.Cr3.{broken_cr3, not_cr3, begins_cr3, behind_brand, boxes_of, first_held, held_by, held_in, required}
use Rattle.exif_formats.specs.Cr3Grammar.{print_boxes, Cr3File, boxes, to_end, small, cut, short, foreign, print_brand, HasNoBrand, FileIsAnswered, IsAFile}
use Rattle.exif_formats.proofs.Cr3Boxes.{within_enough}
use Rattle.exif_formats.proofs.Cr3Brand.{begins-append, behind-small, cr3-twelve, sized}
use Rattle.exif_formats.proofs.LawsBoxes.{are_the_boxes, boxes_are_answered}

-- ---- the limit of boxes

-- fewer than 2^64 bytes have no more boxes than are read
held-of-boxes : (bytes : List ℕ) → length bytes < 2 ^ 64 → held_in (codes "moov") [] bytes ≡ first_held (codes "moov") [] bytes
unfolding held_in
held-of-boxes bytes h = within_enough (held_by (codes "moov") []) (2 ^ 64 - 1) (length bytes) bytes (omega arith) (omega arith)

-- no bytes have no box
held-of-none : held_in (codes "moov") [] [] ≡ Ok None
held-of-none = held-of-boxes [] (omega arith)

-- the `moov` among the boxes of a file
abbrev movie_among : Result (List ℕ) Refusal → Result (List ℕ) Refusal
movie_among found = required (found >>= held_in (codes "moov") [])

-- ---- the first twelve bytes

brand-len : (size : List ℕ) → length size ≡ 4 → length (print_brand size) ≡ 12
brand-len size h = omega (arith, length-append size (codes "ftyp" ++ codes "crx "))

both : (a b : Bool) → a ≡ true → b ≡ true → (a && b) ≡ true
both a b h k = ap (λ t. t && b) h ∙ k

brand-begins : (size : List ℕ) → length size ≡ 4 → begins_cr3 (print_brand size) ≡ true
brand-begins size h =
    let type : drop 4 (print_brand size) ≡ codes "ftyp" ++ codes "crx " = drop_at size (codes "ftyp" ++ codes "crx ") 4 h in
    let behind : drop 8 (print_brand size) ≡ codes "crx " = sym (drop-drop 4 4 (print_brand size)) ∙ ap (drop 4) type in
    both (bytes_eq (take 4 (drop 4 (print_brand size))) (codes "ftyp")) (bytes_eq (take 4 (drop 8 (print_brand size))) (codes "crx "))
    ((bytes_eq-Decides (take 4 (drop 4 (print_brand size))) (codes "ftyp")).1 (ap (take 4) type))
    ((bytes_eq-Decides (take 4 (drop 8 (print_brand size))) (codes "crx ")).1 (ap (take 4) behind))

branded : (size rest : List ℕ) → length size ≡ 4 → boxes_of (print_brand size ++ rest) ≡ behind_brand (big_number 4 size) (print_brand size ++ rest)
branded size rest h =
    cr3-twelve (print_brand size) rest (brand-len size h)
    ∙ ap (λ t. cond t (behind_brand (big_number 4 (print_brand size)) (print_brand size ++ rest)) (Err not_cr3)) (brand-begins size h)
    ∙ ap (λ n. behind_brand n (print_brand size ++ rest)) (big_from-append 4 size (codes "ftyp" ++ codes "crx ") (omega arith))

-- ---- a file is answered as its tree says

brand-split : (bytes : List ℕ) → begins_cr3 bytes ≡ true → (size : List ℕ) × (rest : List ℕ) × (bytes ≡ print_brand size ++ rest) × (size ≡ take 4 bytes) × (rest ≡ drop 12 bytes)
brand-split bytes e =
    let parts = and_parts (bytes_eq (take 4 (drop 4 bytes)) (codes "ftyp")) (bytes_eq (take 4 (drop 8 bytes)) (codes "crx ")) e in
    let type : take 4 (drop 4 bytes) ≡ codes "ftyp" = (bytes_eq-Decides (take 4 (drop 4 bytes)) (codes "ftyp")).0 parts.0 in
    let brand : take 4 (drop 8 bytes) ≡ codes "crx " = (bytes_eq-Decides (take 4 (drop 8 bytes)) (codes "crx ")).0 parts.1 in
    let eight : take 4 (drop 8 bytes) ++ drop 12 bytes ≡ drop 8 bytes = ap (λ t. take 4 (drop 8 bytes) ++ t) (sym (drop-drop 4 8 bytes)) ∙ take-append-drop 4 (drop 8 bytes) in
    let four : take 4 (drop 4 bytes) ++ drop 8 bytes ≡ drop 4 bytes = ap (λ t. take 4 (drop 4 bytes) ++ t) (sym (drop-drop 4 4 bytes)) ∙ take-append-drop 4 (drop 4 bytes) in (
      take 4 bytes,
      drop 12 bytes,
      sym (append_assoc (take 4 bytes) (codes "ftyp" ++ codes "crx ") (drop 12 bytes)
          ∙ ap (λ t. take 4 bytes ++ t) (append_assoc (codes "ftyp") (codes "crx ") (drop 12 bytes))
          ∙ ap (λ t. take 4 bytes ++ (t ++ (codes "crx " ++ drop 12 bytes))) (sym type)
          ∙ ap (λ t. take 4 bytes ++ (take 4 (drop 4 bytes) ++ (t ++ drop 12 bytes))) (sym brand)
          ∙ ap (λ t. take 4 bytes ++ (take 4 (drop 4 bytes) ++ t)) eight
          ∙ ap (λ t. take 4 bytes ++ t) four
          ∙ take-append-drop 4 bytes),
      refl,
      refl,
    )

no-brand : (bytes : List ℕ) → 12 ≤ length bytes → HasNoBrand bytes → begins_cr3 bytes ≡ false
no-brand bytes l h = by (begins_cr3 bytes) refl
  where
    by : (t : Bool) → begins_cr3 bytes ≡ t → t ≡ false
    by true e =
        let b = brand-split bytes e in
        absurd (h b.0 b.1 (ap (λ (t : List ℕ). length t) b.3 ∙ length-take-le 4 bytes (omega arith)) b.2)
    by false e = refl

-- the `moov` of a file is that of its tree
pub cr3_file_is_answered : (f : Cr3File) → FileIsAnswered f
cr3_file_is_answered (boxes size brands bs) is few =
    let text : List ℕ = print_brand size ++ (brands ++ print_boxes bs) in
    let n : ℕ = big_number 4 size in
    let len = brand-len size is.0 in
    let front = length-append (print_brand size) brands in
    let at = is.1 in
    let total : length (print_brand size ++ (brands ++ print_boxes bs)) ≡ length (print_brand size) + (length brands + length (print_boxes bs)) =
    length-append (print_brand size) (brands ++ print_boxes bs) ∙ ap (λ t. length (print_brand size) + t) (length-append brands (print_boxes bs)) in
    ap movie_among
    (branded size (brands ++ print_boxes bs) is.0
    ∙ sized n text false (omega arith) (le-ltb (length (print_brand size ++ (brands ++ print_boxes bs))) (big_number 4 size) (omega arith))
    ∙ ap (λ t. Ok t) (ap (drop n) (sym (append_assoc (print_brand size) brands (print_boxes bs))) ∙ drop_at (print_brand size ++ brands) (print_boxes bs) n (sym is.1)))
    ∙ ap required (held-of-boxes (print_boxes bs) (omega arith) ∙ boxes_are_answered (codes "moov") [] bs is.2)
cr3_file_is_answered (to_end size rest) is few =
    ap movie_among (branded size rest is.0 ∙ ap (λ n. behind_brand n (print_brand size ++ rest)) is.1) ∙ ap required held-of-none
cr3_file_is_answered (small size rest) is few =
    ap movie_among (branded size rest is.0 ∙ behind-small (big_number 4 size) (print_brand size ++ rest) is.1 is.2)
cr3_file_is_answered (cut size rest) is few =
    ap movie_among
    (branded size rest is.0
    ∙ sized (big_number 4 size) (print_brand size ++ rest) true is.1 (lt-ltb (length (print_brand size ++ rest)) (big_number 4 size) is.2))
cr3_file_is_answered (short bytes) is few =
    ap movie_among (ap (λ t. cond t (Err broken_cr3) (cond (begins_cr3 bytes) (behind_brand (big_number 4 bytes) bytes) (Err not_cr3))) (lt-ltb (length bytes) 12 is))
cr3_file_is_answered (foreign bytes) is few =
    ap movie_among
    (ap (λ t. cond t (Err broken_cr3) (cond (begins_cr3 bytes) (behind_brand (big_number 4 bytes) bytes) (Err not_cr3))) (le-ltb (length bytes) 12 is.0)
    ∙ ap (λ t. cond t (behind_brand (big_number 4 bytes) bytes) (Err not_cr3)) (no-brand bytes is.0 is.1))

-- ---- all bytes have a tree

with-brand : (size rest : List ℕ) → length size ≡ 4 → IsAFile (print_brand size ++ rest)
with-brand size rest h = by-zero (eqb (big_number 4 size) 0) refl
  where
    by-whole : (t : Bool) → ltb (length (print_brand size ++ rest)) (big_number 4 size) ≡ t → 12 ≤ big_number 4 size → IsAFile (print_brand size ++ rest)
    by-whole true e l = (cut size rest, (h, l, ltb-true (length (print_brand size ++ rest)) (big_number 4 size) e), refl)
    by-whole false e l =
        let long = ltb-false (length (print_brand size ++ rest)) (big_number 4 size) e in
        let n = big_number 4 size - 12 in
        let len = brand-len size h in
        let total = length-append (print_brand size) rest in
        let front : length (take n rest) ≡ n = length-take-le n rest (omega arith) in
        let bs = are_the_boxes (codes "moov") [] (drop n rest) in (
          boxes size (take n rest) bs.0,
          (h, omega (arith, length-append (print_brand size) (take n rest)), bs.1),
          ap (λ t. print_brand size ++ (take n rest ++ t)) bs.2 ∙ ap (λ t. print_brand size ++ t) (take-append-drop n rest),
        )

    by-small : (t : Bool) → ltb (big_number 4 size) 12 ≡ t → 0 < big_number 4 size → IsAFile (print_brand size ++ rest)
    by-small true e z = (small size rest, (h, z, ltb-true (big_number 4 size) 12 e), refl)
    by-small false e z = by-whole (ltb (length (print_brand size ++ rest)) (big_number 4 size)) refl (ltb-false (big_number 4 size) 12 e)

    by-zero : (t : Bool) → eqb (big_number 4 size) 0 ≡ t → IsAFile (print_brand size ++ rest)
    by-zero true e = (to_end size rest, (h, eqb-true (big_number 4 size) 0 e), refl)
    by-zero false e = by-small (ltb (big_number 4 size) 12) refl (let z = eqb-false (big_number 4 size) 0 e in omega arith)

-- all bytes are those of a file
pub is_a_cr3_file : (bytes : List ℕ) → IsAFile bytes
is_a_cr3_file bytes = by-len (ltb (length bytes) 12) refl
  where
    none : begins_cr3 bytes ≡ false → HasNoBrand bytes
    none e size rest l is =
        let k : true ≡ false = sym (ap begins_cr3 is ∙ begins-append (print_brand size) rest (brand-len size l) ∙ brand-begins size l) ∙ e in
        cc

    by-brand : (t : Bool) → begins_cr3 bytes ≡ t → 12 ≤ length bytes → IsAFile bytes
    by-brand true e l =
        let b = brand-split bytes e in
        subst IsAFile (sym b.2) (with-brand b.0 b.1 (ap (λ (t : List ℕ). length t) b.3 ∙ length-take-le 4 bytes (omega arith)))
    by-brand false e l = (foreign bytes, (l, none e), refl)

    by-len : (t : Bool) → ltb (length bytes) 12 ≡ t → IsAFile bytes
    by-len true e = (short bytes, ltb-true (length bytes) 12 e, refl)
    by-len false e = by-brand (begins_cr3 bytes) refl (ltb-false (length bytes) 12 e)
