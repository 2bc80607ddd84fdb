-- A count of boxes is read as its tree says, and all bytes have a tree.
use Rattle.std.proofs.Common.{◌≡◌, ◌⊎◌, inl, inr, subst, ℕ, zero, suc, ◌+◌, ◌-◌, List, [], ◌∷◌, ◌++◌, length, map, Option, None, Some, Err, ap, sym, ◌∙◌, refl, arith, append_assoc}
use Rattle.std.specs.List.{flat_map}
use Rattle.exif_types.specs.Refusals.{Refusal}
use Rattle.exif_isobmff.specs.HeifRefusals.{too_small}
use Rattle.exif_isobmff.specs.Boxes.{before, and_then, box_at, boxes}
use Rattle.exif_isobmff.specs.BoxGrammar.{BoxTree, print_box, IsBox, box_part, AreBoxes, print_no_box, no_box_refusal, Counted, all, cut_off, too_few, CountIsRead, IsACount}
use Rattle.exif_isobmff.proofs.LawsBoxes.{box_is_read, no_box_is_refused, box-cut, counted_more, Boxed, Unboxed, boxed_or_not}

counted-boxes : (bs : List BoxTree) (rest : List ℕ) (fault : Option Refusal) (n k : ℕ) → n ≡ length bs + k → AreBoxes bs rest
    → boxes k rest ≡ record { whole = []; fault = fault } → boxes n (flat_map print_box bs ++ rest) ≡ record { whole = map box_part bs; fault = fault }
counted-boxes [] rest fault n k e h end = let same : n ≡ k = omega arith in rw same end
counted-boxes (b ∷ bs) rest fault n k e h end =
    let same : n ≡ suc (length bs + k) = omega arith in
    ap (λ m. boxes m (flat_map print_box (b ∷ bs) ++ rest)) same
    ∙ ap (boxes (suc (length bs + k))) (append_assoc (print_box b) (flat_map print_box bs) rest)
    ∙ counted_more b (length bs + k) (print_box b ++ (flat_map print_box bs ++ rest)) (flat_map print_box bs ++ rest) (box_is_read b (flat_map print_box bs ++ rest) h.0)
    ∙ ap (before (box_part b)) (counted-boxes bs rest fault (length bs + k) k refl h.1 end)

no-count : (rest : List ℕ) → boxes 0 rest ≡ record { whole = []; fault = None }
unfolding boxes
no-count rest = refl

one-refused : (k : ℕ) (text : List ℕ) (r : Refusal) → box_at text ≡ Err r → boxes (suc k) text ≡ record { whole = []; fault = Some r }
unfolding boxes
one-refused k text r e = ap (λ b. and_then b (boxes k)) e

-- counted boxes are read as their tree says
pub count_is_read : (n : ℕ) (c : Counted) → CountIsRead n c
count_is_read n (all bs rest) h = counted-boxes bs rest None n 0 (omega (arith, h.0)) h.1 (no-count rest)
count_is_read n (cut_off bs end) h =
    counted-boxes bs (print_no_box end) (Some (no_box_refusal end)) n (suc (n - length bs - 1)) (omega (arith, h.0)) h.1
    (one-refused (n - length bs - 1) (print_no_box end) (no_box_refusal end) (no_box_is_refused end h.2))
count_is_read n (too_few bs) h =
    counted-boxes bs [] (Some too_small) n (suc (n - length bs - 1)) (omega (arith, h.0)) h.1 (one-refused (n - length bs - 1) [] too_small (box-cut [] (omega arith)))

count-boxed : (n : ℕ) (text : List ℕ) (b : Boxed text) → IsACount n b.rest → IsACount (suc n) text
count-boxed n text b (all bs rest, is, whole) = (
  all (b.tree ∷ bs) rest,
  (ap suc is.0, (subst (λ r. IsBox b.tree r) (sym whole) b.is, is.1)),
  append_assoc (print_box b.tree) (flat_map print_box bs) rest ∙ ap (λ r. print_box b.tree ++ r) whole ∙ b.whole,
)
count-boxed n text b (cut_off bs end, is, whole) = (
  cut_off (b.tree ∷ bs) end,
  (omega (arith, is.0), (subst (λ r. IsBox b.tree r) (sym whole) b.is, is.1), is.2),
  append_assoc (print_box b.tree) (flat_map print_box bs) (print_no_box end) ∙ ap (λ r. print_box b.tree ++ r) whole ∙ b.whole,
)
count-boxed n text b (too_few bs, is, whole) = (
  too_few (b.tree ∷ bs),
  (omega (arith, is.0), (subst (λ r. IsBox b.tree r) (sym whole) b.is, is.1)),
  append_assoc (print_box b.tree) (flat_map print_box bs) [] ∙ ap (λ r. print_box b.tree ++ r) whole ∙ b.whole,
)

-- all bytes are those of counted boxes
pub is_a_count : (n : ℕ) (bytes : List ℕ) → IsACount n bytes
is_a_count zero bytes = (all [] bytes, (refl, tt), refl)
is_a_count (suc n) [] = (too_few [], (omega arith, tt), refl)
is_a_count (suc n) (b ∷ bytes) = first (boxed_or_not (b ∷ bytes) (omega arith)) (is_a_count n)
  where
    first : Unboxed (b ∷ bytes) ⊎ Boxed (b ∷ bytes) → ((rest : List ℕ) → IsACount n rest) → IsACount (suc n) (b ∷ bytes)
    first (inl u) ih = (cut_off [] u.end, (omega arith, tt, u.is), u.whole)
    first (inr t) ih = count-boxed n (b ∷ bytes) t (ih t.rest)
