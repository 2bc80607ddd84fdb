-- The bytes ahead of a cursor.
use Rattle.std.proofs.Common.{◌≡◌, ◌≢◌, ℕ, ◌+◌, ◌-◌, ◌<◌, ◌≤◌, min, List, ◌++◌, length, take, drop, slice_index, Option, None, Some, IfSome, ap, sym, ◌∙◌, arith, length-drop}
use Rattle.std.proofs.lemmas.List.{drop_min, drop-drop, length-take-le, take-append-drop, get_or-take, get_or-drop}
use Rattle.std.proofs.lemmas.Grind.{get_or_default_zero}
use Rattle.std.specs.List.{All}
use Rattle.std.specs.Option.{option_map}
use Rattle.std.specs.Io.KnownBytes.{Consumes}
use Rattle.exif_base.specs.Told.{IsFetchedOnto, PassesOthers}

length_ahead : (all : List ℕ) (start n : ℕ) → n ≤ length all - start → length (take n (drop start all)) ≡ n
length_ahead all start n some = length-take-le n (drop start all) (omega (arith, length-drop start all))

-- the bytes from an offset on were taken, which starts at the end where it is behind it
taken_ahead : (known : Option (List ℕ)) (all : List ℕ) (offset start n : ℕ) → IfSome known (λ xs. all ≡ xs) → start ≡ min offset (length all)
    → Consumes (option_map (drop offset) known) (option_map (drop (offset + n)) known) (take n (drop start all))
taken_ahead None all offset start n is e = tt
taken_ahead (Some xs) all offset start n is e =
    let same : drop start all ≡ drop offset xs = ap (λ s. drop s all) e ∙ drop_min offset all ∙ ap (drop offset) is in
    sym (take-append-drop n (drop offset xs)) ∙ ap (λ t. take n t ++ drop n (drop offset xs)) (sym same)
    ∙ ap (λ t. take n (drop start all) ++ t) (drop-drop n offset xs)

-- the cursor moved behind them
moved_ahead : (known after : Option (List ℕ)) (all : List ℕ) (offset next start n : ℕ) → IfSome known (λ xs. all ≡ xs) → start ≡ min offset (length all)
    → after ≡ known → next ≡ offset + n → Consumes (option_map (drop offset) known) (option_map (drop next) after) (take n (drop start all))
moved_ahead known after all offset next start n is e same moved = rw same (rw moved (taken_ahead known all offset start n is e))

-- they were put at the end of a list
pub fetched_ahead : (known after : Option (List ℕ)) (all old new : List ℕ) (offset next start n : ℕ) → IfSome known (λ xs. all ≡ xs)
    → start ≡ min offset (length all) → n ≤ length all - start → after ≡ known → next ≡ offset + n → new ≡ old ++ take n (drop start all)
    → IsFetchedOnto (option_map (drop offset) known) (option_map (drop next) after) old new n
fetched_ahead known after all old new offset next start n is e some same moved put =
    (take n (drop start all), moved_ahead known after all offset next start n is e same moved, length_ahead all start n some, put)

others_ahead : (all : List ℕ) (start n stop : ℕ) → n ≤ length all - start → ((k : ℕ) → k < n → slice_index all (start + k) ≢ stop)
    → All (λ b. b ≢ stop) (take n (drop start all))
others_ahead all start n stop some others = λ k d lt is.
    let below : k < n = omega (arith, length_ahead all start n some) in
    let inside : start + k < length all = omega arith in
    others k below (sym (get_or_default_zero all (start + k) d inside) ∙ sym (get_or-drop start all k d) ∙ sym (get_or-take n (drop start all) k d below) ∙ is)

-- they were skipped
pub passed_ahead : (known after : Option (List ℕ)) (all : List ℕ) (offset next start n stop : ℕ) → IfSome known (λ xs. all ≡ xs)
    → start ≡ min offset (length all) → n ≤ length all - start → after ≡ known → next ≡ offset + n
    → ((k : ℕ) → k < n → slice_index all (start + k) ≢ stop)
    → PassesOthers (option_map (drop offset) known) (option_map (drop next) after) stop n
passed_ahead known after all offset next start n stop is e some same moved others = (
  take n (drop start all),
  moved_ahead known after all offset next start n is e same moved,
  length_ahead all start n some,
  others_ahead all start n stop some others,
)
