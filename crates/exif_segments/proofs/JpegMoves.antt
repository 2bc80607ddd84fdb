-- The steps of the JPEG reader, one after another.
use Rattle.std.proofs.Common.{◌≡◌, ℕ, ◌+◌, ◌-◌, ◌*◌, ◌<◌, ◌≤◌, ◌⊎◌, inl, inr, Bool, true, false, cond, eqb, not, ◌&&◌, List, [], ◌∷◌, ◌++◌, length, take, drop, Option, None, Some, IfSome, MatchOption, Err, unwrap_or, ◌≢◌, ap, sym, ◌∙◌, refl, arith, codes, append_assoc, length-append}
use Rattle.std.specs.Cmp.Lexicographic.{pointwise}
use Rattle.std.proofs.lemmas.List.{take_at, drop_at, take-append-drop, take-take, length-take, length-take-le}
use Rattle.std.proofs.Math.Bool.{and-true}
use Rattle.exif_base.specs.Told.{WhereTold}
use Rattle.exif_segments.specs.Within.{Moves}
use Rattle.std.specs.List.{Contains}
use Rattle.std.specs.Option.{option_map}
use Rattle.std.proofs.lemmas.Bool.{eq-eqb, ne_eqb, cases_lt}
use Rattle.std.proofs.lemmas.Bool.Decides.{nat_tests}
use Rattle.exif_types.specs.Failures.{Failure}
use Rattle.exif_types.specs.Refusals.{Refusal, refusal_of, IsInterrupted, Fails}
use Rattle.exif_segments.specs.Answer.{Answer, found, refused, IsCollected, IsShort, offset_before}
use Rattle.exif_segments.specs.Jpeg.{jpeg_refusals, answer_at_code, begins_exif, invalid_length, not_jpeg, unexpected_soi, no_exif_in_jpeg, broken_jpeg, JpegUnit, stands_alone, unit_from_code, unit_answer, code_onwards, answer_from, jpeg_answer, exif_payload, first_answer, with_units, units_of}
use Rattle.exif_segments.proofs.JpegUnits.{unit-segment, unit-alone, unit_answer_segment, answer-at_code, answer-short, answer-no_code, answer_alone}
use Rattle.exif_segments.proofs.LimitedMoves.{moves_then, moves_then_fact, moves_fact, moves_weaker}

-- bytes that begin with six, which are the identifier or not
payload-six : (id rest : List ℕ) → length id ≡ 6 → exif_payload (id ++ rest) ≡ cond (pointwise eqb id (codes "Exif\0\0")) (Some rest) None
payload-six id rest e =
    ap (λ t. cond (pointwise eqb t (codes "Exif\0\0")) (Some (drop 6 (id ++ rest))) None) (take_at id rest 6 e)
    ∙ ap (λ t. cond (pointwise eqb id (codes "Exif\0\0")) (Some t) None) (drop_at id rest 6 e)

at_not : (b : Bool) (xs : List ℕ) → false ≡ not b → cond b (Some xs) None ≡ Some xs
at_not true xs e = refl
at_not false xs e = absurd (cc)

at_not_none : (b : Bool) (xs : List ℕ) → true ≡ not b → cond b (Some xs) None ≡ None
at_not_none true xs e = absurd (cc)
at_not_none false xs e = refl

-- an identifier that is not that of Exif, and a skip: a body with no payload
pub payload_skipped : (a b c : Option (List ℕ)) (l m n len : ℕ) (id : List ℕ) → length id ≡ 6 → 6 ≤ len → true ≡ not (pointwise eqb id (codes "Exif\0\0"))
    → Moves a l b m (λ xs ys. xs ≡ id ++ ys)
    → Moves b m c n (λ xs ys. (bytes : List ℕ) × (length bytes ≡ len - 6) × (xs ≡ bytes ++ ys))
    → Moves a l c n (λ xs ys. (body : List ℕ) × (length body ≡ len) × (xs ≡ body ++ ys) × (exif_payload body ≡ None))
payload_skipped a b c l m n len id six space e h k =
    moves_then a b c l m n (λ xs ys. xs ≡ id ++ ys) (λ xs ys. (bytes : List ℕ) × (length bytes ≡ len - 6) × (xs ≡ bytes ++ ys))
    (λ xs ys. (body : List ℕ) × (length body ≡ len) × (xs ≡ body ++ ys) × (exif_payload body ≡ None))
    (λ x y z p q. (id ++ q.0, omega (arith, length-append id q.0), p ∙ ap (λ t. id ++ t) q.2 ∙ sym (append_assoc id q.0 z), payload-six id q.0 six ∙ at_not_none _ q.0 e))
    h k

-- the identifier of Exif, and a payload: a body with that payload
pub payload_found : (a b c : Option (List ℕ)) (l m n len : ℕ) (id payload : List ℕ) → length id ≡ 6 → 6 ≤ len → length payload ≡ len - 6 → false ≡ not (pointwise eqb id (codes "Exif\0\0"))
    → Moves a l b m (λ xs ys. xs ≡ id ++ ys)
    → Moves b m c n (λ xs ys. xs ≡ payload ++ ys)
    → Moves a l c n (λ xs ys. (body : List ℕ) × (length body ≡ len) × (xs ≡ body ++ ys) × (exif_payload body ≡ Some payload))
payload_found a b c l m n len id payload six space rest e h k =
    moves_then a b c l m n (λ xs ys. xs ≡ id ++ ys) (λ xs ys. xs ≡ payload ++ ys)
    (λ xs ys. (body : List ℕ) × (length body ≡ len) × (xs ≡ body ++ ys) × (exif_payload body ≡ Some payload))
    (λ x y z p q. (id ++ payload, omega (arith, length-append id payload), p ∙ ap (λ t. id ++ t) q ∙ sym (append_assoc id payload z), payload-six id payload six ∙ at_not _ payload e))
    h k

-- the length of a body and the body: a unit
option_map_twice : {X A : Type 0} (f : X → List ℕ) (g : List ℕ → A) (o : Option X) → option_map g (option_map f o) ≡ option_map (λ v. g (f v)) o
option_map_twice f g None = refl
option_map_twice f g (Some v) = refl

-- a length and a body that may have a payload: a segment that may answer
pub segment_exif : {X : Type 0} (items : X → List ℕ) (a b c : Option (List ℕ)) (l m n code size : ℕ) (payload : Option X)
    → stands_alone code ≡ false → code ≡ 225 → 2 ≤ size
    → Moves a l b m (λ xs ys. (high low : ℕ) × (xs ≡ high ∷ low ∷ ys) × (size ≡ 256 * high + low))
    → Moves b m c n (λ xs ys. (body : List ℕ) × (length body ≡ size - 2) × (xs ≡ body ++ ys) × (exif_payload body ≡ option_map items payload))
    → Moves a l c n (λ xs ys. (u : JpegUnit) × (unit_from_code (code ∷ xs) ≡ Some u) × (u.rest ≡ ys) × (unit_answer u ≡ option_map (λ v. found (items v) ys) payload))
segment_exif items a b c l m n code size payload e is space h k =
    moves_then a b c l m n (λ xs ys. (high low : ℕ) × (xs ≡ high ∷ low ∷ ys) × (size ≡ 256 * high + low))
    (λ xs ys. (body : List ℕ) × (length body ≡ size - 2) × (xs ≡ body ++ ys) × (exif_payload body ≡ option_map items payload))
    (λ xs ys. (u : JpegUnit) × (unit_from_code (code ∷ xs) ≡ Some u) × (u.rest ≡ ys) × (unit_answer u ≡ option_map (λ v. found (items v) ys) payload))
    (λ x y z p q. (
      record { code = code; body = p.0 ∷ p.1 ∷ q.0; rest = z },
      ap (λ t. unit_from_code (code ∷ t)) (p.2 ∙ ap (λ t. p.0 ∷ p.1 ∷ t) q.2) ∙ unit-segment code p.0 p.1 q.0 z e (omega arith),
      refl,
      unit_answer_segment code p.0 p.1 q.0 z e (omega arith)
          ∙ ap (λ t. cond t (option_map (λ payload. found payload z) (exif_payload q.0)) None) (eq-eqb code 225 is)
          ∙ ap (λ t. option_map (λ payload. found payload z) t) q.3
          ∙ option_map_twice items (λ payload. found payload z) payload,
    ))
    h k

-- a length and a skip: a segment that does not answer
pub segment_other : (a b c : Option (List ℕ)) (l m n code size : ℕ)
    → stands_alone code ≡ false → code ≢ 225 → 2 ≤ size
    → Moves a l b m (λ xs ys. (high low : ℕ) × (xs ≡ high ∷ low ∷ ys) × (size ≡ 256 * high + low))
    → Moves b m c n (λ xs ys. (bytes : List ℕ) × (length bytes ≡ size - 2) × (xs ≡ bytes ++ ys))
    → Moves a l c n (λ xs ys. (u : JpegUnit) × (unit_from_code (code ∷ xs) ≡ Some u) × (u.rest ≡ ys) × (unit_answer u ≡ None))
segment_other a b c l m n code size e is space h k =
    moves_then a b c l m n (λ xs ys. (high low : ℕ) × (xs ≡ high ∷ low ∷ ys) × (size ≡ 256 * high + low))
    (λ xs ys. (bytes : List ℕ) × (length bytes ≡ size - 2) × (xs ≡ bytes ++ ys))
    (λ xs ys. (u : JpegUnit) × (unit_from_code (code ∷ xs) ≡ Some u) × (u.rest ≡ ys) × (unit_answer u ≡ None))
    (λ x y z p q. (
      record { code = code; body = p.0 ∷ p.1 ∷ q.0; rest = z },
      ap (λ t. unit_from_code (code ∷ t)) (p.2 ∙ ap (λ t. p.0 ∷ p.1 ∷ t) q.2) ∙ unit-segment code p.0 p.1 q.0 z e (omega arith),
      refl,
      unit_answer_segment code p.0 p.1 q.0 z e (omega arith)
          ∙ ap (λ t. cond t (option_map (λ payload. found payload z) (exif_payload q.0)) None) (ne_eqb code 225 is),
    ))
    h k

-- the bytes ended early, and then the answer says so
fails_short : (e : Failure) (a : Option (List ℕ)) (l : ℕ) (P : List ℕ → Type 0) (f : List ℕ → Answer)
    → ((x : List ℕ) → P x → f x ≡ refused broken_jpeg) → IsShort broken_jpeg e a (λ xs. P (take l xs))
    → IfSome a (λ xs. Fails e (f (take l xs)))
fails_short e None l P f s h = tt
fails_short e (Some xs) l P f s h = go (refusal_of e) h
  where
    go : (r : Option Refusal) → MatchOption r (IsInterrupted e) (λ r. (r ≡ broken_jpeg) × P (take l xs)) → MatchOption r (IsInterrupted e) (λ r. f (take l xs) ≡ Err r)
    go None h = h
    go (Some r) h = s (take l xs) h.1 ∙ ap (λ t. refused t) (sym h.0)

-- a step, and what holds of the answer of what follows
holds_after : (Q : Answer → Type 0) (a b : Option (List ℕ)) (l m : ℕ) (P : List ℕ → List ℕ → Type 0) (f g : List ℕ → Answer)
    → ((x y : List ℕ) → P x y → f x ≡ g y) → Moves a l b m P
    → IfSome b (λ ys. Q (g (take m ys))) → IfSome a (λ xs. Q (f (take l xs)))
holds_after Q None b l m P f g s h k = tt
holds_after Q (Some xs) None l m P f g s h k = absurd h
holds_after Q (Some xs) (Some ys) l m P f g s h k = rw (s (take l xs) (take m ys) h.0) k

-- a refusal where no marker code follows
pub short_refuses : (e : Failure) (a : Option (List ℕ)) (l : ℕ) → IsShort broken_jpeg e a (λ xs. code_onwards (take l xs) ≡ [])
    → IfSome a (λ xs. Fails e (answer_from (take l xs)))
short_refuses e a l = fails_short e a l (λ xs. code_onwards xs ≡ []) answer_from answer-no_code

-- a code, and what holds of the answer of what follows
pub segment_holds : (Q : Answer → Type 0) (a b : Option (List ℕ)) (l m code : ℕ)
    → Moves a l b m (λ xs ys. code_onwards xs ≡ code ∷ ys) → IfSome b (λ ys. Q (answer_at_code code (take m ys)))
    → IfSome a (λ xs. Q (answer_from (take l xs)))
segment_holds Q a b l m code =
    holds_after Q a b l m (λ xs ys. code_onwards xs ≡ code ∷ ys) answer_from (answer_at_code code) (λ x y p. answer-at_code x y code p)

-- the payload of a segment with the identifier of Exif is collected, whole or cut
collected-exif : (high low : ℕ) (ys : List ℕ) → 8 ≤ 256 * high + low → begins_exif ys ≡ true → IsCollected broken_jpeg (answer_at_code 225 (high ∷ low ∷ ys))
collected-exif high low ys space is = by (cases_lt (length ys) (256 * high + low - 2))
  where
    n : ℕ
    n = 256 * high + low - 2

    same : (n : ℕ) → 6 ≤ n → begins_exif (take n ys) ≡ true
    same n le = ap (λ t. pointwise eqb t (codes "Exif\0\0")) (take-take 6 n ys le) ∙ is

    whole : (n : ℕ) → n ≡ 256 * high + low - 2 → n ≤ length ys → answer_at_code 225 (high ∷ low ∷ ys) ≡ found (drop 6 (take n ys)) (drop n ys)
    whole n e le =
        let len : length (take n ys) ≡ n = length-take-le n ys le in
        ap (λ t. answer_at_code 225 (high ∷ low ∷ t)) (sym (take-append-drop n ys))
        ∙ ap (λ o. first_answer (with_units o units_of)) (unit-segment 225 high low (take n ys) (drop n ys) refl (omega arith))
        ∙ ap (λ o. unwrap_or o (answer_from (drop n ys)))
        (unit_answer_segment 225 high low (take n ys) (drop n ys) refl (omega arith)
        ∙ ap (λ t. option_map (λ p. found p (drop n ys)) (cond t (Some (drop 6 (take n ys))) None)) (same n (omega arith)))

    by : (length ys < 256 * high + low - 2) ⊎ (256 * high + low - 2 ≤ length ys) → IsCollected broken_jpeg (answer_at_code 225 (high ∷ low ∷ ys))
    by (inl lt) = rw (answer-short 225 (high ∷ low ∷ ys) refl (omega arith)) refl
    by (inr le) = rw (whole (256 * high + low - 2) refl le) tt

-- a length that is too short is a named refusal
pub bad_length_named : Contains jpeg_refusals invalid_length
bad_length_named = (3, omega arith, refl)

-- out of memory in a segment: its payload is collected
pub segment_collects : (a b : Option (List ℕ)) (l m code size : ℕ) → code ≡ 225
    → Moves a l b m (λ xs ys. (high low : ℕ) × (xs ≡ high ∷ low ∷ ys) × (size ≡ 256 * high + low))
    → IfSome b (λ ys. (6 ≤ size - 2) × (begins_exif (take m ys) ≡ true))
    → IfSome a (λ xs. IsCollected broken_jpeg (answer_at_code code (take l xs)))
segment_collects a b l m code size is =
    moves_then_fact a b l m (λ xs ys. (high low : ℕ) × (xs ≡ high ∷ low ∷ ys) × (size ≡ 256 * high + low))
    (λ ys. (6 ≤ size - 2) × (begins_exif ys ≡ true)) (λ xs. IsCollected broken_jpeg (answer_at_code code xs))
    (λ x y p q. rw (is, p.2) (collected-exif p.0 p.1 y (let e = p.3 in let f = q.0 in omega arith) q.1))

-- an SOI is refused
pub unit_soi : (a b : Option (List ℕ)) (l m code : ℕ) → Moves a l b m (λ xs ys. code_onwards xs ≡ code ∷ ys) → code ≡ 216
    → IfSome a (λ xs. answer_from (take l xs) ≡ refused (unexpected_soi))
unit_soi a b l m code h e =
    moves_fact a b l m (λ xs ys. code_onwards xs ≡ code ∷ ys) (λ xs. answer_from xs ≡ refused (unexpected_soi))
    (λ x y p. answer-at_code x y code p ∙ ap (λ t. answer_at_code t y) e ∙ ap (λ o. first_answer (with_units o units_of)) (unit-alone 216 y refl)) h

-- an EOI ends the image
pub unit_eoi : (a b : Option (List ℕ)) (l m code : ℕ) → Moves a l b m (λ xs ys. code_onwards xs ≡ code ∷ ys) → code ≡ 217
    → IfSome a (λ xs. answer_from (take l xs) ≡ refused (no_exif_in_jpeg))
unit_eoi a b l m code h e =
    moves_fact a b l m (λ xs ys. code_onwards xs ≡ code ∷ ys) (λ xs. answer_from xs ≡ refused (no_exif_in_jpeg))
    (λ x y p. answer-at_code x y code p ∙ ap (λ t. answer_at_code t y) e ∙ ap (λ o. first_answer (with_units o units_of)) (unit-alone 217 y refl)) h

-- a code that stands alone answers nothing
pub unit_none : (a b : Option (List ℕ)) (l m code : ℕ) → stands_alone code ≡ true → code ≢ 216 → code ≢ 217
    → Moves a l b m (λ xs ys. code_onwards xs ≡ code ∷ ys) → Moves a l b m (λ xs ys. answer_from xs ≡ answer_from ys)
unit_none a b l m code e n k =
    moves_weaker a b l m (λ xs ys. code_onwards xs ≡ code ∷ ys) (λ xs ys. answer_from xs ≡ answer_from ys)
    (λ x y p. answer-at_code x y code p ∙ answer_alone code y e n k)

-- a code and its segment answer what the segment does
pub unit_segment : {X : Type 0} (items : X → List ℕ) (a b c : Option (List ℕ)) (l m n code : ℕ) (payload : Option X)
    → Moves a l b m (λ xs ys. code_onwards xs ≡ code ∷ ys)
    → Moves b m c n (λ xs ys. (u : JpegUnit) × (unit_from_code (code ∷ xs) ≡ Some u) × (u.rest ≡ ys) × (unit_answer u ≡ option_map (λ v. found (items v) ys) payload))
    → Moves a l c n (λ xs ys. MatchOption payload (answer_from xs ≡ answer_from ys) (λ v. answer_from xs ≡ found (items v) ys))
unit_segment {X = X} items a b c l m n code payload =
    moves_then a b c l m n (λ xs ys. code_onwards xs ≡ code ∷ ys)
    (λ xs ys. (u : JpegUnit) × (unit_from_code (code ∷ xs) ≡ Some u) × (u.rest ≡ ys) × (unit_answer u ≡ option_map (λ v. found (items v) ys) payload))
    (λ xs ys. MatchOption payload (answer_from xs ≡ answer_from ys) (λ v. answer_from xs ≡ found (items v) ys))
    (λ x y z p q. by_payload payload x z
    (answer-at_code x y code p ∙ ap (λ o. first_answer (with_units o units_of)) q.1
    ∙ ap (λ o. unwrap_or o (answer_from q.0.rest)) q.3
    ∙ ap (λ t. unwrap_or (option_map (λ v. found (items v) z) payload) (answer_from t)) q.2))
  where
    by_payload : (o : Option X) (x z : List ℕ) → answer_from x ≡ unwrap_or (option_map (λ v. found (items v) z) o) (answer_from z)
        → MatchOption o (answer_from x ≡ answer_from z) (λ v. answer_from x ≡ found (items v) z)
    by_payload None x z e = e
    by_payload (Some v) x z e = e

-- the two bytes at the front
jpeg-two : (signature ys : List ℕ) → length signature ≡ 2
    → jpeg_answer (signature ++ ys) ≡ cond (pointwise eqb signature (255 ∷ 216 ∷ [])) (answer_from ys) (refused (not_jpeg))
jpeg-two [] ys e = absurd (omega arith)
jpeg-two (a ∷ []) ys e = absurd (omega arith)
jpeg-two (a ∷ b ∷ []) ys e =
    ap (λ t. cond (eqb a 255 && t) (answer_from ys) (refused (not_jpeg))) (sym (and-true (eqb b 216)))
jpeg-two (a ∷ b ∷ c ∷ rest) ys e = absurd (omega arith)

-- a stream of fewer than two bytes is broken
pub jpeg-fewer : (xs : List ℕ) → length xs < 2 → jpeg_answer xs ≡ refused broken_jpeg
jpeg-fewer [] h = refl
jpeg-fewer (a ∷ []) h = refl
jpeg-fewer (a ∷ b ∷ xs) h = absurd (omega arith)

-- a stream of fewer than two bytes is broken
pub jpeg_short : (e : Failure) (a : Option (List ℕ)) (l : ℕ) → IsShort broken_jpeg e a (λ xs. length (take l xs) < 2)
    → IfSome a (λ xs. Fails e (jpeg_answer (take l xs)))
jpeg_short e a l = fails_short e a l (λ xs. length xs < 2) jpeg_answer jpeg-fewer

-- a choice by a test that was answered the other way round
pub choose_yes : {A : Type 0} (b : Bool) (x y : A) → false ≡ not b → cond b x y ≡ x
choose_yes true x y e = refl
choose_yes false x y e = absurd (cc)

-- the same of its other side
pub choose_no : {A : Type 0} (b : Bool) (x y : A) → true ≡ not b → cond b x y ≡ y
choose_no true x y e = absurd (cc)
choose_no false x y e = refl

-- a stream with another signature is refused
pub jpeg_other : (a b : Option (List ℕ)) (l m : ℕ) (signature : List ℕ) → length signature ≡ 2 → true ≡ not (pointwise eqb signature (255 ∷ 216 ∷ []))
    → Moves a l b m (λ xs ys. xs ≡ signature ++ ys) → IfSome a (λ xs. jpeg_answer (take l xs) ≡ refused (not_jpeg))
jpeg_other a b l m signature two e =
    moves_fact a b l m (λ xs ys. xs ≡ signature ++ ys) (λ xs. jpeg_answer xs ≡ refused (not_jpeg))
    (λ x y p. ap jpeg_answer p ∙ jpeg-two signature y two ∙ choose_no _ _ _ e)

-- what holds of the answer of the units left holds of the stream's
pub jpeg_holds : (Q : Answer → Type 0) (a b : Option (List ℕ)) (l m : ℕ) → Moves a l b m (λ xs ys. jpeg_answer xs ≡ answer_from ys)
    → IfSome b (λ ys. Q (answer_from (take m ys))) → IfSome a (λ xs. Q (jpeg_answer (take l xs)))
jpeg_holds Q a b l m = holds_after Q a b l m (λ xs ys. jpeg_answer xs ≡ answer_from ys) jpeg_answer answer_from (λ x y p. p)

-- bytes of which the first so many count, as many as were taken, and how many of them count
offset-same : (l n : ℕ) (x z : List ℕ) (k : ℕ) → length x + n ≡ length z + l → n ≤ l
    → l - n - k ≡ length (take l x) - length (take n z) - k
offset-same l n x z k e le =
    let a = length-take l x in let b = length-take n z in grind (arith, nat_tests)

-- the units left answer a payload, and so does the stream
pub jpeg_located : (payload : List ℕ) (a b c : Option (List ℕ)) (l m n : ℕ) → n ≤ l
    → Moves a l b m (λ xs ys. jpeg_answer xs ≡ answer_from ys) → Moves b m c n (λ xs ys. answer_from xs ≡ found payload ys)
    → WhereTold a c (λ xs ys. (rest : List ℕ) × (jpeg_answer (take l xs) ≡ found payload rest) × (ys ≡ rest ++ drop l xs)
    × (l - n - length payload ≡ offset_before (take l xs) payload rest))
jpeg_located payload None b c l m n le h k = tt
jpeg_located payload (Some x) None c l m n le h k = absurd h
jpeg_located payload (Some x) (Some y) None l m n le h k = absurd k
jpeg_located payload (Some x) (Some y) (Some z) l m n le h k = (
  take n z,
  h.0 ∙ k.0,
  sym (take-append-drop n z) ∙ ap (λ t. take n z ++ t) (sym (h.1 ∙ k.1)),
  (let p = h.2 in let q = k.2 in offset-same l n x z (length payload) (omega arith) le),
)
