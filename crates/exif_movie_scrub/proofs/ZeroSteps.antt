-- Bytes with zeros are as many as before.
use Rattle.std.proofs.Common.{◌≡◌, ◌≤◌, ◌+◌, ◌-◌, ℕ, Bool, true, false, List, [], ◌∷◌, ◌++◌, ◌&&◌, ◌==◌, eqb, length, take, drop, replicate, min, Option, Some, None, refl, ap, sym, ◌∙◌, arith, length-drop}
use Rattle.std.proofs.lemmas.Bool.Decides.{nat_tests}
use Rattle.std.proofs.lemmas.Grind.{common_steps}
use Rattle.std.proofs.lemmas.List.{drop-drop, length-take-le, take-append-drop}
use Rattle.std.specs.List.{list_all}
use Rattle.exif_inventory.proofs.BoxHeads.{HeadIn, head_in}
use Rattle.exif_inventory.specs.BoxHeaders.{head_of}
use Rattle.exif_inventory.specs.declared.boxes.Head.{Head}
use Rattle.exif_movie_scrub.specs.Zeros.{dates_end, dates_len, dates_start, freed, is_done, renamed, undated, undated_by, with_zeros, zeroed_by, zeros_in}
use Rattle.exif_movie_scrub.specs.declared.zeros.Zeroed.{Zeroed}
use Rattle.exif_movie_scrub.specs.declared.zeros.Zeroed.TheVariants as zeroed

zeros_in_long : (from end : ℕ) (bytes : List ℕ) → from ≤ end → end ≤ length bytes → length (zeros_in from end bytes) ≡ length bytes
zeros_in_long from end bytes h w = grind (arith, common_steps)

renamed_long : (bytes : List ℕ) → 8 ≤ length bytes → length (renamed bytes) ≡ length bytes
renamed_long bytes h = grind (arith, common_steps)

freed_long : (front : ℕ) (bytes : List ℕ) → 8 ≤ front → front ≤ length bytes → length (freed front bytes) ≡ length bytes
freed_long front bytes least within =
    let r = renamed_long bytes (omega arith) in
    zeros_in_long front (length bytes) (renamed bytes) within (omega arith) ∙ r

-- the dates are within the header
record DatesIn (front : ℕ) (bytes : List ℕ) : Type 0 where
  ordered : dates_start front bytes ≤ dates_end front bytes
  within : dates_end front bytes ≤ length bytes

span_in : (long front n : ℕ) → (min long (front + 4) ≤ min long (front + 4 + n)) × (min long (front + 4 + n) ≤ long)
span_in long front n = (grind (arith, common_steps), grind (arith, common_steps))

dates_inside : (front : ℕ) (bytes : List ℕ) → DatesIn front bytes
dates_inside front bytes =
    let s = span_in (length bytes) front (dates_len front bytes) in
    record { ordered = s.0; within = s.1 }

undated_long : (front : ℕ) (bytes : List ℕ) → length (undated front bytes) ≡ length bytes
undated_long front bytes =
    let d = dates_inside front bytes in
    zeros_in_long (dates_start front bytes) (dates_end front bytes) bytes d.ordered d.within

by_long : (what : Zeroed) (bytes : List ℕ) (head : Option Head) → HeadIn (length bytes) head → length (zeroed_by what head bytes) ≡ length bytes
by_long what bytes None h = refl
by_long zeroed.Nothing bytes (Some head) h = refl
by_long zeroed.Content bytes (Some head) h =
    let front : head.front ≤ head.len = h.1 in
    let within : head.len ≤ length bytes = h.2 in
    freed_long head.front bytes h.0 (omega arith)
by_long zeroed.Dates bytes (Some head) h = undated_long head.front bytes

-- a part with zeros is as long
pub with_zeros_long : (what : Zeroed) (bytes : List ℕ) → length (with_zeros what bytes) ≡ length bytes
unfolding with_zeros
with_zeros_long what bytes = by_long what bytes (head_of bytes) (head_in bytes)

nothing_by : (head : Option Head) (bytes : List ℕ) → zeroed_by zeroed.Nothing head bytes ≡ bytes
nothing_by None bytes = refl
nothing_by (Some head) bytes = refl

-- where nothing becomes zeros, the bytes stay
pub nothing_stays : (bytes : List ℕ) → with_zeros zeroed.Nothing bytes ≡ bytes
unfolding with_zeros
nothing_stays bytes = nothing_by (head_of bytes) bytes

-- ---- parts of which nothing is left to become zeros

first_zero : (t : Bool) (b : ℕ) (bytes : List ℕ) → eqb b 0 ≡ t → (list_all (λ b. b == 0) bytes ≡ true → replicate (length bytes) 0 ≡ bytes)
    → (t && list_all (λ b. b == 0) bytes) ≡ true → replicate (length (b ∷ bytes)) 0 ≡ b ∷ bytes
first_zero true b bytes e rest h =
    let zero_is : 0 ≡ b = grind (arith, nat_tests) in
    ap (λ k. k ∷ replicate (length bytes) 0) zero_is ∙ ap (λ bs. b ∷ bs) (rest h)
first_zero false b bytes e rest h = absurd (cc)

-- bytes that are zeros are so many zeros
zeros_are : (bytes : List ℕ) → list_all (λ b. b == 0) bytes ≡ true → replicate (length bytes) 0 ≡ bytes
zeros_are [] h = refl
zeros_are (b ∷ bytes) h = first_zero (eqb b 0) b bytes refl (zeros_are bytes) h

-- zeros over zeros
zeros_same : (from end : ℕ) (bytes : List ℕ) → from ≤ end → end ≤ length bytes → list_all (λ b. b == 0) (take (end - from) (drop from bytes)) ≡ true
    → zeros_in from end bytes ≡ bytes
zeros_same from end bytes h w z =
    let n = end - from in
    let back : length (drop from bytes) ≡ length bytes - from = length-drop from bytes in
    let long : length (take n (drop from bytes)) ≡ n = length-take-le n (drop from bytes) (omega arith) in
    let zeros : replicate n 0 ≡ take n (drop from bytes) = ap (λ k. replicate k 0) (sym long) ∙ zeros_are (take n (drop from bytes)) z in
    let sum : end ≡ from + n = omega arith in
    let rest : drop end bytes ≡ drop n (drop from bytes) = ap (λ k. drop k bytes) sum ∙ sym (drop-drop n from bytes) in
    ap (λ (bs : List ℕ). take from bytes ++ (bs ++ drop end bytes)) zeros
    ∙ ap (λ (bs : List ℕ). take from bytes ++ (take n (drop from bytes) ++ bs)) rest
    ∙ ap (λ (bs : List ℕ). take from bytes ++ bs) (take-append-drop n (drop from bytes))
    ∙ take-append-drop from bytes

undated_same : (head : Option Head) (bytes : List ℕ) → undated_by head bytes ≡ true → zeroed_by zeroed.Dates head bytes ≡ bytes
undated_same None bytes h = refl
undated_same (Some head) bytes h =
    let d = dates_inside head.front bytes in
    zeros_same (dates_start head.front bytes) (dates_end head.front bytes) bytes d.ordered d.within h

-- they stay
pub done_stays : (what : Zeroed) (bytes : List ℕ) → is_done what bytes ≡ true → with_zeros what bytes ≡ bytes
unfolding with_zeros
done_stays zeroed.Nothing bytes h = nothing_by (head_of bytes) bytes
done_stays zeroed.Content bytes h = absurd (cc)
done_stays zeroed.Dates bytes h = undated_same (head_of bytes) bytes h
