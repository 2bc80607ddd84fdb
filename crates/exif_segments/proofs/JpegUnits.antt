-- How the answer of a JPEG stream follows from its first unit.
use Rattle.std.proofs.Common.{◌≡◌, ◌≢◌, unwrap_or, ℕ, zero, suc, ◌+◌, ◌-◌, ◌*◌, ◌<◌, ◌≤◌, max, Bool, true, false, cond, eqb, leb, List, [], ◌∷◌, ◌++◌, length, take, drop, Option, None, Some, ap, sym, ◌∙◌, refl, arith, length-drop, length-append}
use Rattle.std.specs.Option.{option_map}
use Rattle.std.proofs.lemmas.Bool.{le-leb}
use Rattle.std.proofs.lemmas.Bool.Decides.{nat_tests}
use Rattle.std.proofs.lemmas.List.{take_at, drop_at}
use Rattle.exif_segments.specs.Answer.{found, refused}
use Rattle.exif_segments.specs.Jpeg.{JpegUnit, broken_jpeg, two_bytes, from_mark, after_marks, code_onwards, stands_alone, exif_payload, body_len, unit_with_body, unit_from_code, first_unit, unit_answer, with_units, units, units_of, first_answer, answer_from, answer_at_code}

cond_length : (t : Bool) (a b : List ℕ) (n : ℕ) → length a ≤ n → length b ≤ n → length (cond t a b) ≤ n
cond_length true a b n h k = h
cond_length false a b n h k = k

length-from_mark : (xs : List ℕ) → length (from_mark xs) ≤ length xs
length-from_mark [] = omega arith
length-from_mark (x ∷ xs) = cond_length (eqb x 255) (x ∷ xs) (from_mark xs) (length (x ∷ xs)) (omega arith) (omega (arith, length-from_mark xs))

length-after_marks : (xs : List ℕ) → length (after_marks xs) ≤ length xs
length-after_marks [] = omega arith
length-after_marks (x ∷ xs) = cond_length (eqb x 255) (after_marks xs) (x ∷ xs) (length (x ∷ xs)) (omega (arith, length-after_marks xs)) (omega arith)

-- a unit with its body takes no more than there is
rest_with_body : (code : ℕ) (ys : List ℕ) (len : ℕ) (t : Bool) (u : JpegUnit)
    → cond t (Some (record { code = code; body = take len ys; rest = drop len ys })) None ≡ Some u → length u.rest ≤ length ys
rest_with_body code ys len true u e =
    let r : drop len ys ≡ u.rest = ap (λ o. unit_rest o) e in
    let l : length u.rest ≡ length ys - len = ap length (sym r) ∙ length-drop len ys in
    omega arith
  where
    unit_rest : Option JpegUnit → List ℕ
    unit_rest None = []
    unit_rest (Some v) = v.rest
rest_with_body code ys len false u e = absurd (cc)

rest-from_code : (xs : List ℕ) (u : JpegUnit) → unit_from_code xs ≡ Some u → length u.rest < length xs
rest-from_code [] u e = absurd (cc)
rest-from_code (code ∷ ys) u e =
    let h = rest_with_body code ys (body_len code ys) (leb (body_len code ys) (length ys)) u e in omega arith

-- a unit has a byte
pub rest-first_unit : (xs : List ℕ) (u : JpegUnit) → first_unit xs ≡ Some u → length u.rest < length xs
rest-first_unit xs u e =
    let h = rest-from_code (code_onwards xs) u e in
    omega (arith, length-after_marks (from_mark xs), length-from_mark xs)

-- as many units as there are bytes are enough
with_enough : (n m : ℕ) (xs : List ℕ) (o : Option JpegUnit)
    → ((ys : List ℕ) → length ys ≤ n → length ys ≤ m → units n ys ≡ units m ys)
    → first_unit xs ≡ o → length xs ≤ suc n → length xs ≤ suc m → with_units o (units n) ≡ with_units o (units m)
with_enough n m xs None ih e h k = refl
with_enough n m xs (Some u) ih e h k =
    let l = rest-first_unit xs u e in
    ap (λ us. u ∷ us) (ih u.rest (omega arith) (omega arith))

units_enough : (n m : ℕ) (xs : List ℕ) → length xs ≤ n → length xs ≤ m → units n xs ≡ units m xs
units_enough zero zero xs h k = refl
units_enough zero (suc m) [] h k = refl
units_enough zero (suc m) (x ∷ xs) h k = absurd (omega arith)
units_enough (suc n) zero [] h k = refl
units_enough (suc n) zero (x ∷ xs) h k = absurd (omega arith)
units_enough (suc n) (suc m) xs h k = with_enough n m xs (first_unit xs) (units_enough n m) refl h k

-- the answer is that of the first unit, or of what follows it
pub answer-first_unit : (xs : List ℕ) → answer_from xs ≡ first_answer (with_units (first_unit xs) units_of)
answer-first_unit xs =
    ap first_answer (units_enough (length xs) (suc (length xs)) xs (omega arith) (omega arith) ∙ after (first_unit xs) refl)
  where
    after : (o : Option JpegUnit) → first_unit xs ≡ o → with_units o (units (length xs)) ≡ with_units o units_of
    after None e = refl
    after (Some u) e = let l = rest-first_unit xs u e in ap (λ us. u ∷ us) (units_enough (length xs) (length u.rest) u.rest (omega arith) (omega arith))

-- the answer is that of the bytes from the first code on
pub answer-at_code : (xs ys : List ℕ) (code : ℕ) → code_onwards xs ≡ code ∷ ys → answer_from xs ≡ answer_at_code code ys
answer-at_code xs ys code e = answer-first_unit xs ∙ ap (λ t. first_answer (with_units (unit_from_code t) units_of)) e

-- bytes with no code are broken
pub answer-no_code : (xs : List ℕ) → code_onwards xs ≡ [] → answer_from xs ≡ refused broken_jpeg
answer-no_code xs e = answer-first_unit xs ∙ ap (λ t. first_answer (with_units (unit_from_code t) units_of)) e

-- a whole body
with_body-whole : (code len : ℕ) (body ys : List ℕ) → length body ≡ len → unit_with_body code (body ++ ys) len ≡ Some (record { code = code; body = body; rest = ys })
with_body-whole code len body ys e =
    ap (λ t. cond t (Some (record { code = code; body = take len (body ++ ys); rest = drop len (body ++ ys) })) None)
    (le-leb len (length (body ++ ys)) (omega (arith, length-append body ys)))
    ∙ ap (λ b. Some (record { code = code; body = b; rest = drop len (body ++ ys) })) (take_at body ys len e)
    ∙ ap (λ r. Some (record { code = code; body = body; rest = r })) (drop_at body ys len e)

with_body-short : (code len : ℕ) (ys : List ℕ) → length ys < len → unit_with_body code ys len ≡ None
with_body-short code len ys h = grind (arith, nat_tests)

-- the unit of a code that stands alone
pub unit-alone : (code : ℕ) (ys : List ℕ) → stands_alone code ≡ true → unit_from_code (code ∷ ys) ≡ Some (record { code = code; body = []; rest = ys })
unit-alone code ys e =
    ap (unit_with_body code ys) (ap (λ t. cond t 0 (max 2 (two_bytes ys))) e) ∙ with_body-whole code 0 [] ys refl

-- the unit of a code, a length and a body
pub unit-segment : (code high low : ℕ) (body ys : List ℕ) → stands_alone code ≡ false → max 2 (256 * high + low) ≡ 2 + length body
    → unit_from_code (code ∷ high ∷ low ∷ (body ++ ys)) ≡ Some (record { code = code; body = high ∷ low ∷ body; rest = ys })
unit-segment code high low body ys e len =
    ap (unit_with_body code (high ∷ low ∷ (body ++ ys))) (ap (λ t. cond t 0 (max 2 (256 * high + low))) e)
    ∙ with_body-whole code (max 2 (256 * high + low)) (high ∷ low ∷ body) ys (omega arith)

-- a body that is cut is broken
pub answer-short : (code : ℕ) (xs : List ℕ) → stands_alone code ≡ false → length xs < max 2 (two_bytes xs) → answer_at_code code xs ≡ refused broken_jpeg
answer-short code xs e h =
    ap (λ o. first_answer (with_units o units_of)) (ap (unit_with_body code xs) (ap (λ t. cond t 0 (max 2 (two_bytes xs))) e) ∙ with_body-short code (max 2 (two_bytes xs)) xs h)

-- the answer of a unit with a body
pub unit_answer_segment : (code high low : ℕ) (body ys : List ℕ) → stands_alone code ≡ false → 2 ≤ 256 * high + low
    → unit_answer (record { code = code; body = high ∷ low ∷ body; rest = ys }) ≡ cond (eqb code 225) (option_map (λ p. found p ys) (exif_payload body)) None
unit_answer_segment code high low body ys e h = grind (arith, nat_tests)

-- a unit with no body answers nothing, but for two codes
pub answer_alone : (code : ℕ) (ys : List ℕ) → stands_alone code ≡ true → code ≢ 216 → code ≢ 217 → answer_at_code code ys ≡ answer_from ys
answer_alone code ys e n m =
    ap (λ o. first_answer (with_units o units_of)) (unit-alone code ys e)
    ∙ ap (λ o. unwrap_or o (answer_from ys)) nothing
  where
    nothing : unit_answer (record { code = code; body = []; rest = ys }) ≡ None
    nothing = grind (arith, nat_tests)
