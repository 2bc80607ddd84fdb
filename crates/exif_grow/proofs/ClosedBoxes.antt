-- Whether the boxes of a file are closed, one after the other.
use Rattle.std.proofs.Common.{◌≡◌, ℕ, ◌<◌, Bool, true, false, cond, List, length, Option, None, Some, Ok, Err, MatchOption, refl, ap, ◌∙◌}
use Rattle.exif_types.specs.Failures.{Failure}
use Rattle.exif_types.specs.Refusals.{Refusal, Front, Refuses, refusal_of}
use Rattle.exif_isobmff.specs.HeifRefusals.{broken_file}
use Rattle.exif_isobmff.specs.Boxes.{Part, all_boxes, and_then, box_at, sizes_itself}
use Rattle.exif_grow.specs.ItemFields.{are_closed, closed_box_at, is_none}
use Rattle.exif_isobmff.proofs.SplitterBoxes.{Shortens, all_boxes_end, all_boxes_more, box_shorter, when_ok}

closed_shorter : Shortens closed_box_at
closed_shorter text p rest e =
    box_shorter text p rest (when_ok (sizes_itself text) (box_at text) broken_file (p, rest) e).1

abbrev and_closed : Front Part → Bool
and_closed r = is_none (and_then r (all_boxes closed_box_at)).fault

one_more : (text : List ℕ) → 0 < length text → are_closed text ≡ and_closed (closed_box_at text)
unfolding are_closed
one_more text some =
    ap (λ ps. is_none ps.fault) (all_boxes_more closed_box_at closed_shorter text some)

-- no more boxes
pub closed_done : (text : List ℕ) → length text ≡ 0 → are_closed text ≡ true
unfolding are_closed
closed_done text h = ap (λ ps. is_none ps.fault) (all_boxes_end closed_box_at text h)

-- the loop goes on behind a box
pub closed_on : (text rest : List ℕ) (p : Part) → 0 < length text → sizes_itself text ≡ true
    → box_at text ≡ Ok (p, rest) → are_closed text ≡ are_closed rest
unfolding are_closed
closed_on text rest p some s e =
    one_more text some ∙ (ap (λ b. and_closed (cond b (box_at text) (Err broken_file))) s ∙ ap and_closed e)

-- a box that does not say its size
pub open_cut : (text : List ℕ) → 0 < length text → sizes_itself text ≡ false
    → are_closed text ≡ false
open_cut text some s =
    one_more text some ∙ ap (λ b. and_closed (cond b (box_at text) (Err broken_file))) s

cut : (e : Failure) (r : Front Part) → Refuses e r → and_closed r ≡ false
cut e (Err r) h = refl
cut e (Ok p) h = absurd (no_refusal (refusal_of e) h)
  where
    no_refusal : (o : Option Refusal) → MatchOption o ⊥ (λ r. ◌≡◌ {A = Front Part} (Ok p) (Err r)) → ⊥
    no_refusal None h = h
    no_refusal (Some r) h = cc

-- a box that is not whole
pub cut_cut : (e : Failure) (text : List ℕ) → 0 < length text → sizes_itself text ≡ true
    → Refuses e (box_at text) → are_closed text ≡ false
cut_cut e text some s h =
    one_more text some
    ∙ (ap (λ b. and_closed (cond b (box_at text) (Err broken_file))) s ∙ cut e (box_at text) h)
