-- How the answer of boxes follows from the first of them.
use Rattle.std.proofs.Common.{◌≡◌, ℕ, zero, suc, ◌-◌, ◌<◌, ◌≤◌, min, Bool, true, false, cond, eqb, ltb, List, [], length, take, drop, codes, Option, None, Some, Result, Ok, Err, IfSome, ap, sym, ◌∙◌, refl, subst, arith, length-drop}
use Rattle.std.specs.Str.{bytes_eq}
use Rattle.std.proofs.lemmas.Bool.{ltb-true, ltb-false}
use Rattle.byteorder.specs.Endian.{big_number}
use Rattle.exif_base.specs.Told.{WhereTold}
use Rattle.exif_types.specs.Failures.{Failure}
use Rattle.exif_types.specs.Refusals.{Refusal, Fails}
use Rattle.exif_types.proofs.Refusing.{fails_along}
use Rattle.exif_segments.specs.Answer.{Answer, found, refused, IsCollected as IsCollectedAnswer}
use Rattle.exif_formats.specs.Jxl.{Box, exif, other, broken_jxl, compressed_exif, invalid_size, no_exif_in_jxl, before_tiff, exif_box, brotli_box, named_box, whole_box, sized_box, large_box, last_of, headed_box, box_at, follow, answer_within, boxes_answer, jxl_answer}
use Rattle.exif_formats.specs.JxlSteps.{IsCollected}

-- ---- what is behind another box is shorter

exif-no_other : (body rest r : List ℕ) → exif_box body rest ≡ Ok (other r) → ⊥
exif-no_other body rest r e = go (ltb (length body) (before_tiff body)) e
  where
    go : (t : Bool) → cond t (Err broken_jxl) (Ok (exif (drop (before_tiff body) body) rest)) ≡ Ok (other r) → ⊥
    go true e = cc
    go false e = cc

brotli-rest : (body rest r : List ℕ) → brotli_box body rest ≡ Ok (other r) → rest ≡ r
brotli-rest body rest r e = go (ltb (length body) 4) (bytes_eq (take 4 body) (codes "Exif")) e
  where
    go : (s t : Bool) → cond s (Err broken_jxl) (cond t (Err compressed_exif) (Ok (other rest))) ≡ Ok (other r) → rest ≡ r
    go true t e = absurd (cc)
    go false true e = absurd (cc)
    go false false e = cc

pub named-rest : (name body rest r : List ℕ) → named_box name body rest ≡ Ok (other r) → rest ≡ r
named-rest name body rest r e = go (bytes_eq name (codes "Exif")) (bytes_eq name (codes "brob")) e
  where
    go : (s t : Bool) → cond s (exif_box body rest) (cond t (brotli_box body rest) (Ok (other rest))) ≡ Ok (other r) → rest ≡ r
    go true t e = absurd (exif-no_other body rest r e)
    go false true e = brotli-rest body rest r e
    go false false e = cc

whole-shorter : (name : List ℕ) (len : ℕ) (bytes r : List ℕ) → whole_box name len bytes ≡ Ok (other r) → length r ≤ length bytes
whole-shorter name len bytes r e = go (ltb (length bytes) len) e
  where
    go : (t : Bool) → cond t (Err broken_jxl) (named_box name (take len bytes) (drop len bytes)) ≡ Ok (other r) → length r ≤ length bytes
    go true e = absurd (cc)
    go false e =
        let same : drop len bytes ≡ r = named-rest name (take len bytes) (drop len bytes) r e in
        let l : length r ≡ length bytes - len = ap length (sym same) ∙ length-drop len bytes in omega arith

sized-shorter : (header size : ℕ) (name bytes r : List ℕ) → sized_box header size name bytes ≡ Ok (other r) → length r ≤ length bytes
sized-shorter header size name bytes r e = go (ltb size header) e
  where
    go : (t : Bool) → cond t (Err invalid_size) (whole_box name (size - header) bytes) ≡ Ok (other r) → length r ≤ length bytes
    go true e = absurd (cc)
    go false e = whole-shorter name (size - header) bytes r e

large-shorter : (name bytes r : List ℕ) → large_box name bytes ≡ Ok (other r) → length r ≤ length bytes
large-shorter name bytes r e = go (ltb (length bytes) 8) e
  where
    go : (t : Bool) → cond t (Err broken_jxl) (sized_box 16 (big_number 8 bytes) name (drop 8 bytes)) ≡ Ok (other r) → length r ≤ length bytes
    go true e = absurd (cc)
    go false e = let l = sized-shorter 16 (big_number 8 bytes) name (drop 8 bytes) r e in omega (arith, length-drop 8 bytes)

last-no_other : (x : Result Box Refusal) (r : List ℕ) → last_of x ≡ Ok (other r) → ⊥
last-no_other (Ok (exif tiff rest)) r e = cc
last-no_other (Ok (other rest)) r e = cc
last-no_other (Err x) r e = cc

headed-shorter : (size : ℕ) (name bytes r : List ℕ) → headed_box size name bytes ≡ Ok (other r) → length r ≤ length bytes
headed-shorter size name bytes r e = go (eqb size 0) (eqb size 1) e
  where
    go : (s t : Bool) → cond s (last_of (named_box name bytes [])) (cond t (large_box name bytes) (sized_box 8 size name bytes)) ≡ Ok (other r) → length r ≤ length bytes
    go true t e = absurd (last-no_other (named_box name bytes []) r e)
    go false true e = large-shorter name bytes r e
    go false false e = sized-shorter 8 size name bytes r e

-- a box has a byte
pub box-shorter : (bytes r : List ℕ) → box_at bytes ≡ Ok (other r) → length r < length bytes
box-shorter bytes r e = go (eqb (length bytes) 0) (ltb (length bytes) 8) refl e
  where
    go : (s t : Bool) → ltb (length bytes) 8 ≡ t → cond s (Err no_exif_in_jxl) (cond t (Err broken_jxl) (headed_box (big_number 4 bytes) (take 4 (drop 4 bytes)) (drop 8 bytes))) ≡ Ok (other r)
        → length r < length bytes
    go true t k e = absurd (cc)
    go false true k e = absurd (cc)
    go false false k e =
        let l = headed-shorter (big_number 4 bytes) (take 4 (drop 4 bytes)) (drop 8 bytes) r e in
        let long : 8 ≤ length bytes = ltb-false (length bytes) 8 k in
        omega (arith, length-drop 8 bytes)

-- ---- one box after another

-- as many boxes as there are bytes are enough
follow_enough : (n m : ℕ) (xs : List ℕ) (c : Result Box Refusal)
    → ((ys : List ℕ) → length ys < n → length ys < m → answer_within n ys ≡ answer_within m ys)
    → box_at xs ≡ c → length xs < suc n → length xs < suc m → follow c (answer_within n) ≡ follow c (answer_within m)
follow_enough n m xs (Ok (exif tiff rest)) ih e h k = refl
follow_enough n m xs (Ok (other rest)) ih e h k = let l = box-shorter xs rest e in ih rest (omega arith) (omega arith)
follow_enough n m xs (Err r) ih e h k = refl

answer_enough : (n m : ℕ) (xs : List ℕ) → length xs < n → length xs < m → answer_within n xs ≡ answer_within m xs
answer_enough zero m xs h k = absurd (omega arith)
answer_enough (suc n) zero xs h k = absurd (omega arith)
answer_enough (suc n) (suc m) xs h k = follow_enough n m xs (box_at xs) (answer_enough n m) refl h k

enough : (n : ℕ) (xs rest : List ℕ) → length rest < length xs → answer_within (min n (length xs)) rest ≡ boxes_answer n rest
enough n xs rest l = by (ltb (length rest) n) refl
  where
    by : (t : Bool) → ltb (length rest) n ≡ t → answer_within (min n (length xs)) rest ≡ boxes_answer n rest
    by true e =
        let m = ltb-true (length rest) n e in
        answer_enough (min n (length xs)) (min n (suc (length rest))) rest (omega arith) (omega arith)
    by false e =
        let m = ltb-false (length rest) n e in
        let same : min n (length xs) ≡ min n (suc (length rest)) = omega arith in ap (λ k. answer_within k rest) same

-- the answer is that of the first box, or of what follows it
pub boxes-first : (n : ℕ) (xs : List ℕ) → 0 < n → boxes_answer n xs ≡ follow (box_at xs) (answer_within (min (n - 1) (length xs)))
boxes-first n xs h =
    let same : min n (suc (length xs)) ≡ suc (min (n - 1) (length xs)) = omega arith in ap (λ k. answer_within k xs) same

pub boxes-other : (n : ℕ) (xs rest : List ℕ) → 0 < n → box_at xs ≡ Ok (other rest) → boxes_answer n xs ≡ boxes_answer (n - 1) rest
boxes-other n xs rest h e =
    boxes-first n xs h ∙ ap (λ c. follow c (answer_within (min (n - 1) (length xs)))) e ∙ enough (n - 1) xs rest (box-shorter xs rest e)

pub boxes-exif : (n : ℕ) (xs tiff rest : List ℕ) → 0 < n → box_at xs ≡ Ok (exif tiff rest) → boxes_answer n xs ≡ found tiff rest
boxes-exif n xs tiff rest h e = boxes-first n xs h ∙ ap (λ c. follow c (answer_within (min (n - 1) (length xs)))) e

pub boxes-refused : (n : ℕ) (xs : List ℕ) (r : Refusal) → 0 < n → box_at xs ≡ Err r → boxes_answer n xs ≡ refused r
boxes-refused n xs r h e = boxes-first n xs h ∙ ap (λ c. follow c (answer_within (min (n - 1) (length xs)))) e

pub boxes-none : (n : ℕ) (xs : List ℕ) → n ≡ 0 → boxes_answer n xs ≡ refused broken_jxl
boxes-none n xs z = let none : min n (suc (length xs)) ≡ 0 = omega arith in ap (λ k. answer_within k xs) none

-- ---- the loop over the boxes

pub jxl_passed : (a b c : Option (List ℕ)) (n : ℕ) → 0 < n → WhereTold a b (λ xs ys. jxl_answer xs ≡ boxes_answer n ys)
    → WhereTold b c (λ xs ys. box_at xs ≡ Ok (other ys)) → WhereTold a c (λ xs ys. jxl_answer xs ≡ boxes_answer (n - 1) ys)
jxl_passed None b c n l h k = tt
jxl_passed (Some xs) None c n l h k = absurd h
jxl_passed (Some xs) (Some ys) None n l h k = absurd k
jxl_passed (Some xs) (Some ys) (Some zs) n l h k = h ∙ boxes-other n ys zs l k

pub jxl_found : (tiff : List ℕ) (a b c : Option (List ℕ)) (n : ℕ) → 0 < n → WhereTold a b (λ xs ys. jxl_answer xs ≡ boxes_answer n ys)
    → WhereTold b c (λ xs ys. box_at xs ≡ Ok (exif tiff ys)) → WhereTold a c (λ xs ys. jxl_answer xs ≡ found tiff ys)
jxl_found tiff None b c n l h k = tt
jxl_found tiff (Some xs) None c n l h k = absurd h
jxl_found tiff (Some xs) (Some ys) None n l h k = absurd k
jxl_found tiff (Some xs) (Some ys) (Some zs) n l h k = h ∙ boxes-exif n ys tiff zs l k

-- a box that fails is the failure of the file
pub jxl_fails : (e : Failure) (a b : Option (List ℕ)) (n : ℕ) → 0 < n → WhereTold a b (λ xs ys. jxl_answer xs ≡ boxes_answer n ys)
    → IfSome b (λ ys. Fails e (box_at ys)) → IfSome a (λ xs. Fails e (jxl_answer xs))
jxl_fails e None b n l h k = tt
jxl_fails e (Some xs) None n l h k = absurd h
jxl_fails e (Some xs) (Some ys) n l h k =
    let P : Answer → Type 0 = λ t. Fails e t in
    subst P (sym (h ∙ boxes-first n ys l))
    (fails_along e (λ c. follow c (answer_within (min (n - 1) (length ys)))) (box_at ys) (λ r. refl) k)

tiff-collected : (c : Result Box Refusal) (next : List ℕ → Answer) → IsCollected c → IsCollectedAnswer broken_jxl (follow c next)
tiff-collected (Ok (exif tiff rest)) next h = tt
tiff-collected (Ok (other rest)) next h = absurd h
tiff-collected (Err r) next h = h

-- out of memory in a box: its TIFF data are collected
pub jxl_collects : (a b : Option (List ℕ)) (n : ℕ) → 0 < n → WhereTold a b (λ xs ys. jxl_answer xs ≡ boxes_answer n ys)
    → IfSome b (λ ys. IsCollected (box_at ys)) → IfSome a (λ xs. IsCollectedAnswer broken_jxl (jxl_answer xs))
jxl_collects None b n l h k = tt
jxl_collects (Some xs) None n l h k = absurd h
jxl_collects (Some xs) (Some ys) n l h k =
    let P : Answer → Type 0 = λ t. IsCollectedAnswer broken_jxl t in
    subst P (sym (h ∙ boxes-first n ys l)) (tiff-collected (box_at ys) (answer_within (min (n - 1) (length ys))) k)

-- no more boxes count
pub jxl_over : (a b : Option (List ℕ)) (n : ℕ) → n ≡ 0 → WhereTold a b (λ xs ys. jxl_answer xs ≡ boxes_answer n ys)
    → IfSome a (λ xs. jxl_answer xs ≡ refused broken_jxl)
jxl_over None b n z h = tt
jxl_over (Some xs) None n z h = absurd h
jxl_over (Some xs) (Some ys) n z h = h ∙ boxes-none n ys z
