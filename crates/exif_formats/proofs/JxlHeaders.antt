-- The box of a JPEG XL file whose header these bytes are, whatever follows them.
use Rattle.std.proofs.Common.{◌≡◌, ◌∙◌, ℕ, ◌-◌, ◌<◌, ◌≤◌, Bool, true, false, cond, not, ◌&&◌, eqb, leb, ltb, List, [], ◌++◌, length, take, drop, Option, Some, None, IfSome, Result, Ok, Err, MatchOption, refl, ap, subst, arith, length-drop}
use Rattle.std.specs.Io.KnownBytes.{Consumes}
use Rattle.std.specs.List.{Contains}
use Rattle.std.proofs.lemmas.Bool.{eqb-true, le-leb, lt-ltb, ltb-false, ne_eqb}
use Rattle.std.proofs.lemmas.List.{drop_all}
use Rattle.byteorder.specs.Endian.{big_number}
use Rattle.exif_base.specs.Told.{WhereTold}
use Rattle.exif_types.specs.Failures.{Failure}
use Rattle.exif_types.specs.Refusals.{Refusal, refusal_of, Fails, IsInterrupted, Refuses, ◌>>=◌}
use Rattle.exif_isobmff.specs.Boxes.{box_size, header_len, sizes_itself}
use Rattle.exif_isobmff.proofs.SplitterBoxes.{eight}
use Rattle.exif_segments.specs.Answer.{IsNamed, IsShort}
use Rattle.exif_formats.specs.Headers.{file_header, payload_len}
use Rattle.exif_formats.specs.Jxl.{Box, box_at, broken_jxl, headed_box, invalid_size, jxl_refusals, large_box, last_of, named_box, no_exif_in_jxl, sized_box, whole_box}
use Rattle.exif_formats.specs.JxlSteps.{box_behind}
use Rattle.exif_formats.specs.declared.headers.FileHeader.{FileHeader}
use Rattle.exif_formats.proofs.Cr3Walk.{fails_with}
use Rattle.exif_formats.proofs.ReadSteps.{header-behind, large-behind}

-- the box that a header says, with what follows it
abbrev behind : List ℕ → Result FileHeader Refusal → Result Box Refusal
behind ys said = said >>= λ h. box_behind h.name h.len ys

-- a box of this size
sized : (front size : ℕ) (name ys : List ℕ)
    → sized_box front size name ys ≡ behind ys (cond (ltb size front) (Err invalid_size) (Ok (record { name = name; len = Some (size - front) })))
sized front size name ys = by (ltb size front)
  where
    by : (small : Bool) → (let box : Result Box Refusal = cond small (Err invalid_size) (whole_box name (size - front) ys) in box)
        ≡ behind ys (cond small (Err invalid_size) (Ok (record { name = name; len = Some (size - front) })))
    by true = refl
    by false = refl

boxed_by : (head ys : List ℕ) → length head ≡ header_len head → box_at (head ++ ys) ≡ behind ys (file_header invalid_size head)
boxed_by head ys e =
    let long : 8 ≤ header_len head = eight (eqb n 1) in
    header-behind head ys (omega arith) ∙ by (eqb n 0) (eqb n 1) (leb 4 (length head)) refl refl (le-leb 4 (length head) (omega arith)) e
  where
    n : ℕ
    n = big_number 4 head

    m : ℕ
    m = big_number 8 (drop 8 head)

    name : List ℕ
    name = take 4 (drop 4 head)

    rest : List ℕ
    rest = drop 8 head ++ ys

    none : length head ≡ 8 → rest ≡ ys
    none l = ap (λ t. t ++ ys) (drop_all 8 head (omega arith))

    said : Bool → Bool → Bool → Result FileHeader Refusal
    said zero one four =
        let size = cond zero (length head) (cond one m n) in
        cond ((four && not zero) && ltb size (cond one 16 8)) (Err invalid_size)
        (Ok (record { name = name; len = cond (four && not zero) (Some (size - cond one 16 8)) None }))

    by : (zero one four : Bool) → eqb n 0 ≡ zero → eqb n 1 ≡ one → four ≡ true → length head ≡ cond one 16 8
        → cond zero (last_of (named_box name rest [])) (cond one (large_box name rest) (sized_box 8 n name rest)) ≡ behind ys (said zero one four)
    by zero one false z o f l = absurd cc
    by true true true z o f l = absurd (omega (arith, eqb-true n 0 z, eqb-true n 1 o))
    by true false true z o f l = ap (λ t. last_of (named_box name t [])) (none l)
    by false true true z o f l = large-behind name (drop 8 head) ys (omega (arith, length-drop 8 head)) ∙ sized 16 m name ys
    by false false true z o f l = ap (sized_box 8 n name) (none l) ∙ sized 8 n name ys

-- a header that is cut off
cut_off : (xs : List ℕ) → 0 < length xs → length xs < header_len xs → box_at xs ≡ Err broken_jxl
cut_off xs some cut =
    ap (λ t. cond t (Err no_exif_in_jxl) (cond (ltb (length xs) 8) (Err broken_jxl) (headed_box n name (drop 8 xs)))) (ne_eqb (length xs) 0 (λ z. omega arith))
    ∙ by (ltb (length xs) 8) (eqb n 0) (eqb n 1) refl refl refl cut
  where
    n : ℕ
    n = big_number 4 xs

    name : List ℕ
    name = take 4 (drop 4 xs)

    by : (short zero one : Bool) → ltb (length xs) 8 ≡ short → eqb n 0 ≡ zero → eqb n 1 ≡ one → length xs < cond one 16 8
        → cond short (Err broken_jxl) (cond zero (last_of (named_box name (drop 8 xs) [])) (cond one (large_box name (drop 8 xs)) (sized_box 8 n name (drop 8 xs)))) ≡ Err broken_jxl
    by true zero one s z o c = refl
    by false true true s z o c = absurd (omega (arith, eqb-true n 0 z, eqb-true n 1 o))
    by false zero false s z o c = absurd (omega (arith, ltb-false (length xs) 8 s))
    by false false true s z o c =
        ap (λ t. cond t (Err broken_jxl) (sized_box 16 (big_number 8 (drop 8 xs)) name (drop 8 (drop 8 xs))))
        (lt-ltb (length (drop 8 xs)) 8 (omega (arith, length-drop 8 xs, ltb-false (length xs) 8 s)))

-- a header was read
pub header_says : (a b : Option (List ℕ)) (head : List ℕ) (h : FileHeader) → length head ≡ header_len head → Consumes a b head → file_header invalid_size head ≡ Ok h
    → WhereTold a b (λ xs ys. box_at xs ≡ box_behind h.name h.len ys)
header_says None b head h l k e = tt
header_says (Some xs) None head h l k e = absurd k
header_says (Some xs) (Some ys) head h l k e = ap box_at k ∙ boxed_by head ys l ∙ ap (behind ys) e

-- a header whose size is less than that of the header was read
pub header_refused : (a b : Option (List ℕ)) (head : List ℕ) (e : Failure) → length head ≡ header_len head → Consumes a b head → Refuses e (file_header invalid_size head)
    → IfSome a (λ xs. Fails e (box_at xs))
header_refused None b head e l k r = tt
header_refused (Some xs) None head e l k r = absurd k
header_refused (Some xs) (Some ys) head e l k r = by (refusal_of e) r
  where
    by : (o : Option Refusal) → MatchOption o ⊥ (λ r. file_header invalid_size head ≡ Err r) → MatchOption o (IsInterrupted e) (λ r. box_at xs ≡ Err r)
    by None r = absurd r
    by (Some d) r = ap box_at k ∙ boxed_by head ys l ∙ ap (behind ys) r

-- a header that is cut off was read
pub header_short : (e : Failure) (a : Option (List ℕ)) → IsShort broken_jxl e a (λ xs. (0 < length xs) × (length xs < header_len xs)) → IfSome a (λ xs. Fails e (box_at xs))
header_short e None h = tt
header_short e (Some xs) h = fails_with e broken_jxl (box_at xs) ((0 < length xs) × (length xs < header_len xs)) h (λ p. cut_off xs p.0 p.1)

-- no header is left
pub header_none : (a : Option (List ℕ)) → IfSome a (λ xs. xs ≡ []) → IfSome a (λ xs. box_at xs ≡ Err no_exif_in_jxl)
header_none None h = tt
header_none (Some xs) h = ap box_at h

-- why a header is refused is one of the reasons
pub header_named : (head : List ℕ) (e : Failure) → Refuses e (file_header invalid_size head) → IsNamed jxl_refusals e
header_named head e r = by (refusal_of e) (sizes_itself head && ltb (box_size head) (header_len head)) r
  where
    by : (o : Option Refusal) (wrong : Bool)
        → MatchOption o ⊥ (λ d. (let said : Result FileHeader Refusal = cond wrong (Err invalid_size) (Ok (record { name = take 4 (drop 4 head); len = payload_len head })) in said) ≡ Err d)
        → MatchOption o (IsInterrupted e) (Contains jxl_refusals)
    by None wrong r = absurd r
    by (Some d) false r = absurd cc
    by (Some d) true r = let same : invalid_size ≡ d = cc in subst (Contains jxl_refusals) same (2, omega arith, refl)
