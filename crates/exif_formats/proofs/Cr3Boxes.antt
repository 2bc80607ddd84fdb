-- The boxes in memory one after the other, by their types.
use Rattle.std.proofs.Common.{◌≡◌, ℕ, zero, suc, ◌<◌, ◌≤◌, leb, eqb, List, [], ◌∷◌, length, Option, Some, None, Result, Ok, Err, MatchOption, refl, ap, ◌∙◌, arith}
use Rattle.std.proofs.lemmas.Bool.{leb-true}
use Rattle.byteorder.specs.Endian.{big_number}
use Rattle.exif_types.specs.Failures.{Failure}
use Rattle.exif_types.specs.Refusals.{Refusal, refusal_of, Refuses, Front}
use Rattle.exif_isobmff.specs.HeifRefusals.{too_small}
use Rattle.exif_isobmff.specs.Boxes.{Part, header_len, box_at}
use Rattle.exif_isobmff.proofs.SplitterBoxes.{box_shorter, eight, when_ok}
use Rattle.exif_formats.specs.Cr3.{Box, broken_cr3, box_read, first_box, follow, held_or, held_by, first_within, first_held}

-- a box has a header
pub box_some : (text : List ℕ) (y : Part × List ℕ) → box_at text ≡ Ok y → 8 ≤ length text
unfolding box_at
box_some text y e =
    let w = when_ok (leb (header_len text) (length text)) _ too_small y e in
    let head : header_len text ≤ length text = leb-true _ _ w.0 in
    let long : 8 ≤ header_len text = eight (eqb (big_number 4 text) 1) in
    omega arith

-- what follows a box is shorter
box-shorter : (text : List ℕ) (r : Front Part) (b : Box) → box_at text ≡ r → box_read text r ≡ Ok b → length b.rest < length text
box-shorter text (Ok p) b e h =
    let same : p.1 ≡ b.rest = ap rest_of h in
    let lt = box_shorter text p.0 p.1 e in
    let len : length p.1 ≡ length b.rest = ap (λ (t : List ℕ). length t) same in omega arith
  where
    rest_of : Result Box Refusal → List ℕ
    rest_of (Ok x) = x.rest
    rest_of (Err r) = []
box-shorter text (Err r) b e h = absurd (let x = h in cc)

-- the same of the first box
pub first-shorter : (text : List ℕ) (b : Box) → first_box text ≡ Ok b → length b.rest < length text
first-shorter text b h = box-shorter text (box_at text) b refl h

held_same : (o : Option (List ℕ)) (f g : List ℕ → Result (Option (List ℕ)) Refusal) (rest : List ℕ) → f rest ≡ g rest → held_or o f rest ≡ held_or o g rest
held_same (Some p) f g rest h = refl
held_same None f g rest h = h

follow_same : (held : Box → Option (List ℕ)) (text : List ℕ) (r : Result Box Refusal) (f g : List ℕ → Result (Option (List ℕ)) Refusal)
    → first_box text ≡ r → ((rest : List ℕ) → length rest < length text → f rest ≡ g rest) → follow held r f ≡ follow held r g
follow_same held text (Ok b) f g e same = held_same (held b) f g b.rest (same b.rest (first-shorter text b e))
follow_same held text (Err r) f g e same = refl

-- as many boxes as there are bytes are enough
pub within_enough : (held : Box → Option (List ℕ)) (n m : ℕ) (text : List ℕ) → length text ≤ n → length text ≤ m → first_within held n text ≡ first_within held m text
within_enough held zero zero text h k = refl
within_enough held zero (suc m) [] h k = refl
within_enough held zero (suc m) (b ∷ text) h k = absurd (omega arith)
within_enough held (suc n) zero [] h k = refl
within_enough held (suc n) zero (b ∷ text) h k = absurd (omega arith)
within_enough held (suc n) (suc m) [] h k = refl
within_enough held (suc n) (suc m) (b ∷ text) h k =
    follow_same held (b ∷ text) (first_box (b ∷ text)) (first_within held n) (first_within held m) refl
    (λ rest lt. within_enough held n m rest (omega arith) (omega arith))

-- the first box, among one and more
pub within-more : (held : Box → Option (List ℕ)) (n : ℕ) (text : List ℕ) → 0 < length text
    → first_within held (suc n) text ≡ follow held (first_box text) (first_within held n)
within-more held n [] h = absurd (omega arith)
within-more held n (b ∷ text) h = refl

-- the first box, and those behind it
held-more : (name usertype text : List ℕ) (b : Box) → first_box text ≡ Ok b
    → first_held name usertype text ≡ held_or (held_by name usertype b) (first_held name usertype) b.rest
held-more name usertype [] b e = let lt = first-shorter [] b e in absurd (omega arith)
held-more name usertype (x ∷ text) b e =
    let lt = first-shorter (x ∷ text) b e in
    ap (λ r. follow (held_by name usertype) r (first_within (held_by name usertype) (length text))) e
    ∙ held_same (held_by name usertype b) (first_within (held_by name usertype) (length text)) (first_held name usertype) b.rest
    (within_enough (held_by name usertype) (length text) (length b.rest) b.rest (omega arith) (omega arith))

-- the box is of the type
pub held_found : (name usertype text payload : List ℕ) (b : Box) → first_box text ≡ Ok b → held_by name usertype b ≡ Some payload
    → first_held name usertype text ≡ Ok (Some payload)
held_found name usertype text payload b e h =
    held-more name usertype text b e ∙ ap (λ o. held_or o (first_held name usertype) b.rest) h

-- the box is of another type
pub held_behind : (name usertype text : List ℕ) (b : Box) → first_box text ≡ Ok b → held_by name usertype b ≡ None
    → first_held name usertype text ≡ first_held name usertype b.rest
held_behind name usertype text b e h =
    held-more name usertype text b e ∙ ap (λ o. held_or o (first_held name usertype) b.rest) h

-- bytes that are no box are refused
pub held_refused : (name usertype text : List ℕ) → 0 < length text → first_box text ≡ Err broken_cr3 → first_held name usertype text ≡ Err broken_cr3
held_refused name usertype [] some e = absurd (omega arith)
held_refused name usertype (b ∷ text) some e = ap (λ r. follow (held_by name usertype) r (first_within (held_by name usertype) (length text))) e

-- the same of an error
pub held_refuses : (e : Failure) (name usertype text : List ℕ) → 0 < length text → first_box text ≡ Err broken_cr3 → refusal_of e ≡ Some broken_cr3
    → Refuses e (first_held name usertype text)
held_refuses e name usertype text some h k = by (refusal_of e) k
  where
    by : (o : Option Refusal) → o ≡ Some broken_cr3 → MatchOption o ⊥ (λ r. first_held name usertype text ≡ Err r)
    by None k = absurd cc
    by (Some r) k = let same : broken_cr3 ≡ r = cc in held_refused name usertype text some h ∙ ap (λ t. Err t) same

-- no bytes hold nothing
pub held_none : (name usertype text : List ℕ) → length text ≡ 0 → first_held name usertype text ≡ Ok None
held_none name usertype [] h = refl
held_none name usertype (b ∷ text) h = absurd (omega arith)
