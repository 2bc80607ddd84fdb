-- A binary search in a table whose keys rise finds what a search from the front finds.
use Rattle.std.proofs.Common.{◌≡◌, ℕ, zero, suc, ◌+◌, ◌<◌, ◌≤◌, Bool, true, false, List, [], ◌∷◌, length, get_or, map, Some, None, Ok, Err, sym, ap, refl, arith, ◌==◌, cond, ⊎_elim}
use Rattle.std.specs.List.{find}
use Rattle.std.specs.Option.{option_map}
use Rattle.std.specs.List.Sorted.{IsBinarySearchResult, IsNonDecreasingBy}
use Rattle.std.specs.Ordering.{nat_cmp, ordering_index}
use Rattle.std.proofs.lemmas.Cmp.{ranked}
use Rattle.std.proofs.lemmas.List.{get_or_default}
use Rattle.std.proofs.lemmas.Bool.{cases_lt}
use Rattle.std.proofs.lemmas.Bool.Decides.{nat_tests}
use Rattle.exif_table.specs.Rising.{rises_from, is_rising}

module _ {X : Type 0} (key : X → ℕ) where
  -- the first key is at least low, and what follows rises from there
  rises_head : (low : ℕ) (x : X) (xs : List X) → rises_from key low (x ∷ xs) ≡ true → (low ≤ key x) × (rises_from key (key x + 1) xs ≡ true)
  rises_head low x xs h = (grind (arith, nat_tests), grind (arith, nat_tests))

  -- every key is at least low
  rises_above : (low : ℕ) (xs : List X) → rises_from key low xs ≡ true → (j : ℕ) (d : X) → j < length xs → low ≤ key (get_or xs j d)
  rises_above low [] h j d lt = absurd (omega arith)
  rises_above low (x ∷ xs) h zero d lt = (rises_head low x xs h).0
  rises_above low (x ∷ xs) h (suc j) d lt =
      let first = rises_head low x xs h in
      omega (arith, first.0, rises_above (key x + 1) xs first.1 j d (omega arith))

  -- keys rise with their positions
  pub rises_pairs : (low : ℕ) (xs : List X) → rises_from key low xs ≡ true → (i j : ℕ) (d : X) → i < j → j < length xs → key (get_or xs i d) < key (get_or xs j d)
  rises_pairs low [] h i j d lt within = absurd (omega arith)
  rises_pairs low (x ∷ xs) h i zero d lt within = absurd (omega arith)
  rises_pairs low (x ∷ xs) h zero (suc j) d lt within =
      let first = rises_head low x xs h in
      omega (arith, rises_above (key x + 1) xs first.1 j d (omega arith))
  rises_pairs low (x ∷ xs) h (suc i) (suc j) d lt within =
      let first = rises_head low x xs h in
      rises_pairs (key x + 1) xs first.1 i j d (omega arith) (omega arith)

  module _ (n : ℕ) where
    -- nothing is found where no key is n
    find_nowhere : (xs : List X) → ((k : ℕ) (d : X) → k < length xs → (key (get_or xs k d) ≡ n → ⊥)) → find (λ x. key x == n) xs ≡ None
    find_nowhere [] h = refl
    find_nowhere (x ∷ xs) h =
        let here : (key x == n) ≡ false = grind (arith, nat_tests, h zero x) in
        rw here (find_nowhere xs (λ k d lt. h (suc k) d (omega arith)))

    -- the element at the first position whose key is n is found
    find_somewhere : (xs : List X) (i : ℕ) (y : X) → i < length xs → ((d : X) → get_or xs i d ≡ y) → key y ≡ n → ((k : ℕ) (d : X) → k < i → (key (get_or xs k d) ≡ n → ⊥)) → find (λ x. key x == n) xs ≡ Some y
    find_somewhere [] i y within at same h = absurd (omega arith)
    find_somewhere (x ∷ xs) zero y within at same h =
        let here : (key x == n) ≡ true = grind (arith, nat_tests, ap key (at x)) in
        rw here (ap Some (at x))
    find_somewhere (x ∷ xs) (suc i) y within at same h =
        let here : (key x == n) ≡ false = grind (arith, nat_tests, h zero x) in
        rw here (find_somewhere xs i y (omega arith) at same (λ k d lt. h (suc k) d (omega arith)))

  module _ (xs : List X) (rising : is_rising key xs ≡ true) (n : ℕ) where
    -- the comparisons with n rise along the table, as a binary search needs
    comparisons_rise : IsNonDecreasingBy (λ x. ordering_index (nat_cmp (key x) n)) xs
    comparisons_rise i j d le within =
        let keys_rise : key (get_or xs i d) ≤ key (get_or xs j d) = grind (arith, rises_pairs zero xs rising i j d, λ (same : i ≡ j). ap (λ k. key (get_or xs k d)) same) in
        grind (arith, nat_tests)

    -- what a binary search found at a position
    pub searched_ok : (i : ℕ) → i < length xs → IsBinarySearchResult (λ x. nat_cmp (key x) n) xs (Ok i) → (d : X) → find (λ x. key x == n) xs ≡ Some (get_or xs i d)
    searched_ok i within found d =
        let same : key (get_or xs i d) ≡ n = ranked _ n _ (sym (found d)) in
        find_somewhere n xs i (get_or xs i d) within (λ e. get_or_default xs i e d within) same
        (λ k e lt is. omega (arith, is, same, ap key (get_or_default xs k e d (omega arith)), rises_pairs zero xs rising k i d lt within))

    -- where a binary search found nothing, no member has the key
    pub searched_err : (i : ℕ) → IsBinarySearchResult (λ x. nat_cmp (key x) n) xs (Err i) → find (λ x. key x == n) xs ≡ None
    searched_err i parted =
        let point = parted comparisons_rise in
        find_nowhere n xs (λ k d lt is. ⊎_elim
        (λ before. omega (arith, is, ranked _ n _ (sym (point.0 k d (omega arith) before))))
        (λ after. omega (arith, is, ranked _ n _ (sym (point.1 k d after lt)))) (cases_lt k i))

-- a search in a table of views
pub find-map : {X Y : Type 0} (f : X → Y) (key : X → ℕ) (view_key : Y → ℕ) → ((x : X) → view_key (f x) ≡ key x) → (n : ℕ) (xs : List X) → find (λ y. view_key y == n) (map f xs) ≡ option_map f (find (λ x. key x == n) xs)
find-map f key view_key same n [] = refl
find-map f key view_key same n (x ∷ xs) = rw same (find-map-step (key x == n) (find-map f key view_key same n xs))
  where
    find-map-step : (b : Bool) → find (λ y. view_key y == n) (map f xs) ≡ option_map f (find (λ x. key x == n) xs) → cond b (Some (f x)) (find (λ y. view_key y == n) (map f xs)) ≡ option_map f (cond b (Some x) (find (λ x. key x == n) xs))
    find-map-step true h = refl
    find-map-step false h = h
