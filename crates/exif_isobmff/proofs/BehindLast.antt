-- What follows the last box of a type among boxes.
use Rattle.std.proofs.Common.{◌≡◌, ℕ, zero, suc, ◌<◌, ◌≤◌, cond, List, [], ◌∷◌, length, Option, None, Some, MatchOption, Ok, Err, ap, ◌∙◌, refl, arith}
use Rattle.exif_types.specs.Failures.{Failure}
use Rattle.exif_types.specs.Refusals.{Refusal, Refuses, Front, refusal_of}
use Rattle.exif_isobmff.specs.declared.kind.Kind.{Kind}
use Rattle.exif_isobmff.specs.Kinds.{same_kind}
use Rattle.exif_isobmff.specs.Boxes.{Part, box_at}
use Rattle.exif_isobmff.specs.Extents.{last_within, behind_last}
use Rattle.exif_isobmff.proofs.SplitterBoxes.{box_shorter}

-- the last of these boxes, or what followed one before
abbrev pub step-of : Kind → ℕ → List ℕ → Front Part → List ℕ
step-of k n found r =
    elim r [ Ok p ↦ last_within k n (cond (same_kind k p.0.kind) p.1 found) p.1 | Err e ↦ found ]

step-enough : (k : Kind) (n m : ℕ) (found text : List ℕ) (r : Front Part) → box_at text ≡ r
    → ((f rest : List ℕ) → length rest < length text → last_within k n f rest ≡ last_within k m f rest) → step-of k n found r ≡ step-of k m found r
step-enough k n m found text (Ok p) e same = same (cond (same_kind k p.0.kind) p.1 found) p.1 (box_shorter text p.0 p.1 e)
step-enough k n m found text (Err r) e same = refl

-- as many boxes as there are bytes are enough
pub last_enough : (k : Kind) (n m : ℕ) (found text : List ℕ) → length text ≤ n → length text ≤ m → last_within k n found text ≡ last_within k m found text
last_enough k zero zero found text h g = refl
last_enough k zero (suc m) found [] h g = refl
last_enough k (suc n) zero found [] h g = refl
last_enough k (suc n) (suc m) found [] h g = refl
last_enough k zero (suc m) found (b ∷ text) h g = absurd (omega arith)
last_enough k (suc n) zero found (b ∷ text) h g = absurd (omega arith)
last_enough k (suc n) (suc m) found (b ∷ text) h g =
    step-enough k n m found (b ∷ text) (box_at (b ∷ text)) refl (λ f rest lt. last_enough k n m f rest (omega arith) (omega arith))

-- the loop goes on behind a box
pub last_went_on : (k : Kind) (found text rest : List ℕ) (p : Part) → 0 < length text → box_at text ≡ Ok (p, rest)
    → behind_last k found text ≡ behind_last k (cond (same_kind k p.kind) rest found) rest
last_went_on k found [] rest p some e = absurd (omega arith)
last_went_on k found (b ∷ text) rest p some e =
    let lt : length rest < length (b ∷ text) = box_shorter (b ∷ text) p rest e in
    ap (λ r. step-of k (length text) found r) e
    ∙ last_enough k (length text) (length rest) (cond (same_kind k p.kind) rest found) rest (omega arith) (omega arith)

-- no more boxes
pub last_done : (k : Kind) (found text : List ℕ) → length text ≡ 0 → behind_last k found text ≡ found
last_done k found [] h = refl
last_done k found (b ∷ text) h = absurd (omega arith)

cut-step : (k : Kind) (n : ℕ) (e : Failure) (found : List ℕ) (r : Front Part) → Refuses e r → step-of k n found r ≡ found
cut-step k n e found (Err r) h = refl
cut-step k n e found (Ok p) h = absurd (no_refusal (refusal_of e) h)
  where
    no_refusal : (o : Option Refusal) → MatchOption o ⊥ (λ r. Ok p ≡ Err r) → ⊥
    no_refusal None h = h
    no_refusal (Some r) h = cc

-- bytes that are no box end the boxes
pub last_cut : (k : Kind) (e : Failure) (found text : List ℕ) → Refuses e (box_at text) → behind_last k found text ≡ found
last_cut k e found [] h = refl
last_cut k e found (b ∷ text) h = cut-step k (length text) e found (box_at (b ∷ text)) h
