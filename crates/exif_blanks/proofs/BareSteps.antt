-- Bytes without their metadata, step after step.
use Rattle.std.proofs.Common.{◌≡◌, ◌<◌, ◌≤◌, ◌+◌, ◌-◌, ℕ, zero, suc, List, [], ◌∷◌, ◌++◌, length, take, drop, replicate, refl, ap, sym, ◌∙◌, subst, arith, length-append, length-drop}
use Rattle.std.proofs.lemmas.List.{append_assoc, drop-drop, drop-take, drop_all, drop_at, length-replicate, length-take-le, take-append-drop, take-take, take_at}
use Rattle.exif_blanks.specs.Steps.{bared_from, fitted_len, place_step, step_of}
use Rattle.exif_blanks.specs.declared.steps.Place.{Place}
use Rattle.exif_blanks.specs.declared.steps.Step.{Step}

-- what follows the first byte is shorter by that
shorter : (m n : ℕ) (bytes : List ℕ) → length bytes ≤ n → length (drop m bytes) ≤ n
shorter m n bytes h = let e : length (drop m bytes) ≡ length bytes - m = length-drop m bytes in omega arith

-- any bound that is large enough serves
bared_any : (n k : ℕ) (s : Place) (bytes : List ℕ) → length bytes ≤ n → length bytes ≤ k
    → bared_from n s bytes ≡ bared_from k s bytes
unfolding bared_from
bared_any zero zero s [] h l = refl
bared_any zero (suc k) s [] h l = refl
bared_any (suc n) zero s [] h l = refl
bared_any (suc n) (suc k) s [] h l = refl
bared_any zero k s (b ∷ bytes) h l = absurd (omega arith)
bared_any (suc n) zero s (b ∷ bytes) h l = absurd (omega arith)
bared_any (suc n) (suc k) s (b ∷ bytes) h l =
    let step = step_of s (b ∷ bytes) in
    ap (λ (bs : List ℕ). take step.kept (b ∷ bytes) ++ (replicate (step.len - step.kept) step.fill ++ bs))
    (bared_any n k step.next (drop (step.len - 1) bytes) (shorter (step.len - 1) n bytes (omega arith)) (shorter (step.len - 1) k bytes (omega arith)))

behind_step : (b : ℕ) (bytes : List ℕ) (len : ℕ) → 0 < len → drop (len - 1) bytes ≡ drop len (b ∷ bytes)
behind_step b bytes zero h = absurd (omega arith)
behind_step b bytes (suc n) h = ap (λ k. drop k bytes) (omega arith)

-- one step
pub bared_on : (s : Place) (bytes : List ℕ) → 0 < length bytes → 0 < (step_of s bytes).len
    → let step = step_of s bytes in
    bared_from (length bytes) s bytes
    ≡ take step.kept bytes ++ (replicate (step.len - step.kept) step.fill
    ++ bared_from (length (drop step.len bytes)) step.next (drop step.len bytes))
unfolding bared_from
bared_on s [] h p = absurd (omega arith)
bared_on s (b ∷ bytes) h p =
    let step = step_of s (b ∷ bytes) in
    let rest = drop (step.len - 1) bytes in
    let same : rest ≡ drop step.len (b ∷ bytes) = behind_step b bytes step.len p in
    ap (λ (bs : List ℕ). take step.kept (b ∷ bytes) ++ (replicate (step.len - step.kept) step.fill ++ bs))
    (bared_any (length bytes) (length rest) step.next rest (shorter (step.len - 1) (length bytes) bytes (omega arith)) (omega arith)
    ∙ ap (λ (bs : List ℕ). bared_from (length bs) step.next bs) same)

-- the end
pub bared_over : (n : ℕ) (s : Place) (bytes : List ℕ) → length bytes ≡ 0 → bared_from n s bytes ≡ []
unfolding bared_from
bared_over zero s [] h = refl
bared_over (suc n) s [] h = refl
bared_over n s (b ∷ bytes) h = absurd (omega arith)

-- bytes up to one behind an offset
split_take : (at k : ℕ) (bytes : List ℕ) → take (at + k) bytes ≡ take at bytes ++ take k (drop at bytes)
split_take at k bytes =
    let front : take at (take (at + k) bytes) ≡ take at bytes = take-take at (at + k) bytes (omega arith) in
    sym (take-append-drop at (take (at + k) bytes))
    ∙ ap (λ (bs : List ℕ). bs ++ drop at (take (at + k) bytes)) front
    ∙ ap (λ (bs : List ℕ). take at bytes ++ bs) (drop-take at k bytes)

-- the bytes with one step made are what they become: so many at the front, then as before
pub step_made : (at : ℕ) (s : Place) (bytes new : List ℕ) (step : Step) → at < length bytes → step ≡ step_of s (drop at bytes)
    → 0 < step.len → step.kept ≤ step.len → at + step.len ≤ length bytes
    → new ≡ take (at + step.kept) bytes ++ (replicate (at + step.len - (at + step.kept)) step.fill ++ drop (at + step.len) bytes)
    → take (at + step.len) new ++ bared_from (length (drop (at + step.len) new)) step.next (drop (at + step.len) new)
    ≡ take at bytes ++ bared_from (length (drop at bytes)) s (drop at bytes)
step_made at s bytes new step h is some kept within made =
    let rest = drop at bytes in
    let front = take at bytes in
    let zeros : List ℕ = replicate (step.len - step.kept) step.fill in
    let behind = drop (at + step.len) bytes in
    let tail : List ℕ → List ℕ = λ bs. bared_from (length bs) step.next bs in
    let head : List ℕ = front ++ take step.kept rest ++ zeros in
    let rest_long : length rest ≡ length bytes - at = length-drop at bytes in
    let front_long : length front ≡ at = length-take-le at bytes (omega arith) in
    let kept_long : length (take step.kept rest) ≡ step.kept = length-take-le step.kept rest (omega arith) in
    let zeros_long : length zeros ≡ step.len - step.kept = length-replicate (step.len - step.kept) step.fill in
    let outer : length head ≡ length (front ++ take step.kept rest) + length zeros = length-append (front ++ take step.kept rest) zeros in
    let inner : length (front ++ take step.kept rest) ≡ length front + length (take step.kept rest) = length-append front (take step.kept rest) in
    let head_long : length head ≡ at + step.len = omega arith in
    let count : at + step.len - (at + step.kept) ≡ step.len - step.kept = omega arith in
    let new_is : new ≡ head ++ behind =
    made ∙ ap (λ n. take (at + step.kept) bytes ++ (replicate n step.fill ++ behind)) count
    ∙ ap (λ (bs : List ℕ). bs ++ (zeros ++ behind)) (split_take at step.kept bytes)
    ∙ sym (append_assoc (front ++ take step.kept rest) zeros behind) in
    let new_front : take (at + step.len) new ≡ head = ap (take (at + step.len)) new_is ∙ take_at head behind (at + step.len) head_long in
    let new_rest : drop (at + step.len) new ≡ drop step.len rest =
    ap (drop (at + step.len)) new_is ∙ drop_at head behind (at + step.len) head_long ∙ sym (drop-drop step.len at bytes) in
    let positive : 0 < (step_of s rest).len = subst (λ (t : Step). 0 < t.len) is some in
    let one : bared_from (length rest) s rest ≡ take step.kept rest ++ (zeros ++ tail (drop step.len rest)) =
    subst (λ (t : Step). bared_from (length rest) s rest ≡ take t.kept rest ++ (replicate (t.len - t.kept) t.fill ++ bared_from (length (drop t.len rest)) t.next (drop t.len rest)))
    (sym is) (bared_on s rest (omega arith) positive) in
    ap (λ (bs : List ℕ). bs ++ tail (drop (at + step.len) new)) new_front
    ∙ ap (λ (bs : List ℕ). head ++ tail bs) new_rest
    ∙ append_assoc (front ++ take step.kept rest) zeros (tail (drop step.len rest))
    ∙ append_assoc front (take step.kept rest) (zeros ++ tail (drop step.len rest))
    ∙ ap (λ (bs : List ℕ). front ++ bs) (sym one)

-- all steps are made
pub steps_over : (at n : ℕ) (s : Place) (bytes : List ℕ) → length bytes ≤ at → take at bytes ++ bared_from n s (drop at bytes) ≡ bytes
steps_over at n s bytes h =
    let none : length (drop at bytes) ≡ length bytes - at = length-drop at bytes in
    ap (λ (bs : List ℕ). take at bytes ++ bs) (bared_over n s (drop at bytes) (omega arith) ∙ sym (drop_all at bytes h))
    ∙ take-append-drop at bytes

-- bytes of which some become others are as many
pub cleared_long : (from end fill : ℕ) (bytes new : List ℕ) → from ≤ end → end ≤ length bytes
    → new ≡ take from bytes ++ (replicate (end - from) fill ++ drop end bytes) → length new ≡ length bytes
cleared_long from end fill bytes new ordered within made =
    let zeros : List ℕ = replicate (end - from) fill in
    let front_long : length (take from bytes) ≡ from = length-take-le from bytes (omega arith) in
    let zeros_long : length zeros ≡ end - from = length-replicate (end - from) fill in
    let behind_long : length (drop end bytes) ≡ length bytes - end = length-drop end bytes in
    let outer : length (take from bytes ++ (zeros ++ drop end bytes)) ≡ length (take from bytes) + length (zeros ++ drop end bytes) = length-append (take from bytes) (zeros ++ drop end bytes) in
    let inner : length (zeros ++ drop end bytes) ≡ length zeros + length (drop end bytes) = length-append zeros (drop end bytes) in
    ap length made ∙ outer ∙ omega arith

-- a step takes a byte at least, and no more than there are
fitted_within : (len all : ℕ) → 0 < all → (0 < fitted_len len all) × (fitted_len len all ≤ all)
fitted_within len all h = (omega arith, omega arith)

-- what bytes become is as long as they are
pub bared_long : (n : ℕ) (s : Place) (bytes : List ℕ) → length (bared_from n s bytes) ≡ length bytes
unfolding bared_from
bared_long zero s [] = refl
bared_long (suc n) s [] = refl
bared_long zero s (b ∷ bytes) = refl
bared_long (suc n) s (b ∷ bytes) =
    let step = step_of s (b ∷ bytes) in
    let rest = drop (step.len - 1) bytes in
    let fits = fitted_within (place_step s (b ∷ bytes)).len (length (b ∷ bytes)) (omega arith) in
    let some : 0 < step.len = fits.0 in
    let within : step.len ≤ length (b ∷ bytes) = fits.1 in
    let kept : step.kept ≤ step.len = omega arith in
    let zeros : List ℕ = replicate (step.len - step.kept) step.fill in
    let front_long : length (take step.kept (b ∷ bytes)) ≡ step.kept = length-take-le step.kept (b ∷ bytes) (omega arith) in
    let zeros_long : length zeros ≡ step.len - step.kept = length-replicate (step.len - step.kept) step.fill in
    let rest_long : length rest ≡ length bytes - (step.len - 1) = length-drop (step.len - 1) bytes in
    let tail = bared_from n step.next rest in
    let tail_long : length tail ≡ length rest = bared_long n step.next rest in
    let outer : length (take step.kept (b ∷ bytes) ++ (zeros ++ tail)) ≡ length (take step.kept (b ∷ bytes)) + length (zeros ++ tail) = length-append (take step.kept (b ∷ bytes)) (zeros ++ tail) in
    let inner : length (zeros ++ tail) ≡ length zeros + length tail = length-append zeros tail in
    outer ∙ omega arith
