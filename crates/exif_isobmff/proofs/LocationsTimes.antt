-- Values one after the other, as a loop reads them.
use Rattle.std.proofs.Common.{◌≡◌, ℕ, suc, ◌+◌, ◌-◌, ◌<◌, ◌≤◌, List, [], ◌∷◌, ◌++◌, Option, Some, None, Result, Ok, Err, refl, sym, ap, ◌∙◌, append_assoc, arith}
use Rattle.std.specs.List.{flat_map, last_or}
use Rattle.std.specs.Option.{option_map, option_or, option_to_list}
use Rattle.std.proofs.lemmas.List.{append-nil}
use Rattle.exif_types.specs.Failures.{Failure}
use Rattle.exif_types.specs.Refusals.{Refusal, ◌>>=◌, Fails, last_read, Front}
use Rattle.exif_isobmff.specs.Boxes.{times, times_joined}
use Rattle.exif_isobmff.proofs.ItemsBoxes.{last_or-append}
use Rattle.exif_types.proofs.Refusing.{fails_along}

-- those read before and those still read
abbrev pub with_front : {A : Type 0} → List A → Front (List A) → Front (List A)
with_front front read = read >>= λ x. Ok (front ++ x.0, x.1)

-- n values more
abbrev pub times_more : {A : Type 0} → (List ℕ → Front A) → List A → ℕ → List ℕ → Front (List A)
times_more value front n text = with_front front (times n value text)

regroup : {A : Type 0} (front : List A) (x : A) (read : Front (List A)) → with_front front (read >>= λ xs. Ok (x ∷ xs.0, xs.1)) ≡ with_front (front ++ x ∷ []) read
regroup {A = A} front x (Ok xs) = ap (λ (ys : List A). Ok (ys, xs.1)) (sym (append_assoc front (x ∷ []) xs.0))
regroup front x (Err r) = refl

one_by : {A : Type 0} (value : List ℕ → Front A) (front : List A) (n : ℕ) (first : Front A)
    → with_front front (first >>= λ x. times n value x.1 >>= λ xs. Ok (x.0 ∷ xs.0, xs.1)) ≡ (first >>= λ x. times_more value (front ++ x.0 ∷ []) n x.1)
one_by value front n (Ok x) = regroup front x.0 (times n value x.1)
one_by value front n (Err r) = refl

one : {A : Type 0} (value : List ℕ → Front A) (front : List A) (count i : ℕ) (text : List ℕ) → i < count
    → times_more value front (count - i) text ≡ (value text >>= λ x. times_more value (front ++ x.0 ∷ []) (count - (i + 1)) x.1)
unfolding times
one value front count i text lt =
    let k : count - i ≡ suc (count - (i + 1)) = omega arith in
    rw k (one_by value front (count - (i + 1)) (value text))

-- the loop goes on behind a value
pub times_went_on : {A : Type 0} (value : List ℕ → Front A) (front : List A) (count i : ℕ) (text : List ℕ) (x : A) (rest : List ℕ) (total : Front (List A))
    → i < count → value text ≡ Ok (x, rest) → times_more value front (count - i) text ≡ total → times_more value (front ++ x ∷ []) (count - (i + 1)) rest ≡ total
times_went_on value front count i text x rest total lt h so_far =
    sym (one value front count i text lt ∙ ap (λ r. r >>= λ y. times_more value (front ++ y.0 ∷ []) (count - (i + 1)) y.1) h) ∙ so_far

-- a value that fails is the failure of all
pub times_failed : {A : Type 0} (e : Failure) (value : List ℕ → Front A) (front : List A) (count i : ℕ) (text : List ℕ)
    → i < count → Fails e (value text) → Fails e (times_more value front (count - i) text)
times_failed e value front count i text lt h =
    rw (one value front count i text lt) (fails_along e (λ r. r >>= λ x. times_more value (front ++ x.0 ∷ []) (count - (i + 1)) x.1) (value text) (λ r. refl) h)

-- no more values are counted
pub times_done : {A : Type 0} (value : List ℕ → Front A) (front : List A) (count i : ℕ) (text : List ℕ) → count ≤ i → times_more value front (count - i) text ≡ Ok (front, text)
unfolding times
times_done {A = A} value front count i text le =
    let k : count - i ≡ 0 = omega arith in
    rw k (ap (λ (ys : List A). Ok (ys, text)) (append-nil front))

whole : {A : Type 0} (read : Front (List A)) → with_front [] read ≡ read
whole (Ok x) = refl
whole (Err r) = refl

-- ---- the last of what they give

abbrev put_first : {A : Type 0} → A → Front (List A) → Front (List A)
put_first x rest = rest >>= λ xs. Ok (x ∷ xs.0, xs.1)

abbrev all_joined : {A : Type 0} → Front (List (List A)) → Result (List A) Refusal
all_joined rest = rest >>= λ all. Ok (flat_map (λ ys. ys) all.0)

last_joined : {A : Type 0} (found : Option A) (ys : List A) (rest : Front (List (List A))) → last_read found (all_joined (put_first ys rest)) ≡ last_read (last_or found ys) (all_joined rest)
last_joined found ys (Ok xs) = ap (λ o. Ok o) (last_or-append found ys (flat_map (λ zs. zs) xs.0))
last_joined found ys (Err r) = refl

one_joined : {A : Type 0} (value : List ℕ → Front (List A)) (found : Option A) (n : ℕ) (first : Front (List A))
    → last_read found (all_joined (first >>= λ x. put_first x.0 (times n value x.1))) ≡ (first >>= λ x. last_read (last_or found x.0) (times_joined n value x.1))
one_joined value found n (Ok x) = last_joined found x.0 (times n value x.1)
one_joined value found n (Err r) = refl

last_more : {A : Type 0} (value : List ℕ → Front (List A)) (found : Option A) (count i : ℕ) (text : List ℕ) → i < count
    → last_read found (times_joined (count - i) value text) ≡ (value text >>= λ x. last_read (last_or found x.0) (times_joined (count - (i + 1)) value x.1))
unfolding times
last_more value found count i text lt =
    let k : count - i ≡ suc (count - (i + 1)) = omega arith in
    rw k (one_joined value found (count - (i + 1)) (value text))

-- the next value gave at most one
pub last_went_on : {A B : Type 0} (view : B → A) (value : List ℕ → Front (List A)) (found one : Option B) (count i : ℕ) (text rest : List ℕ) (total : Result (Option A) Refusal)
    → i < count → value text ≡ Ok (option_to_list (option_map view one), rest)
    → last_read (option_map view found) (times_joined (count - i) value text) ≡ total → last_read (option_map view (option_or one found)) (times_joined (count - (i + 1)) value rest) ≡ total
last_went_on view value found None count i text rest total lt h so_far =
    sym (last_more value (option_map view found) count i text lt ∙ ap (λ r. r >>= λ x. last_read (last_or (option_map view found) x.0) (times_joined (count - (i + 1)) value x.1)) h) ∙ so_far
last_went_on view value found (Some l) count i text rest total lt h so_far =
    sym (last_more value (option_map view found) count i text lt ∙ ap (λ r. r >>= λ x. last_read (last_or (option_map view found) x.0) (times_joined (count - (i + 1)) value x.1)) h) ∙ so_far

-- a value that fails is the failure of the last
pub last_failed : {A : Type 0} (e : Failure) (value : List ℕ → Front (List A)) (found : Option A) (count i : ℕ) (text : List ℕ)
    → i < count → Fails e (value text) → Fails e (last_read found (times_joined (count - i) value text))
last_failed e value found count i text lt h =
    rw (last_more value found count i text lt) (fails_along e (λ r. r >>= λ x. last_read (last_or found x.0) (times_joined (count - (i + 1)) value x.1)) (value text) (λ r. refl) h)

-- no more values are counted, and the last stays
pub last_done : {A : Type 0} (value : List ℕ → Front (List A)) (found : Option A) (count i : ℕ) (text : List ℕ) → count ≤ i → last_read found (times_joined (count - i) value text) ≡ Ok found
unfolding times
last_done value found count i text le = let k : count - i ≡ 0 = omega arith in rw k refl
