-- The steps of following pointers to directories.
use Rattle.std.proofs.Common.{◌≡◌, ◌≤◌, ◌<◌, ◌+◌, ◌-◌, ◌*◌, ◌/◌, ◌==◌, ℕ, zero, suc, Bool, true, false, if◌then◌else◌, List, [], ◌∷◌, ◌++◌, length, take, map, append_assoc, refl, sym, ap, ◌∙◌, arith}
use Rattle.std.specs.Prelude.{◌&&◌, nat_lt, slice_index}
use Rattle.std.specs.List.{flat_map}
use Rattle.std.proofs.lemmas.Bool.Decides.{nat_tests}
use Rattle.std.proofs.lemmas.List.{append-nil}
use Rattle.std.proofs.Math.Bool.{and-false}
use Rattle.exif_base.specs.Bytes.{Reading, number_at, spaced}
use Rattle.exif_tiff.proofs.ParserRuns.{spaced_step}
use Rattle.exif_edit_base.specs.GpsOffsets.{all_noted, chain_from, children_from, fitting, is_new, is_offset_type, max_pointers, next_offset, offset_len, offsets_in, pointers, pointers_in, points_to, type_at}
use Rattle.exif_edit_base.specs.declared.offsets.Target.{Target}
use Rattle.exif_edit_base.specs.declared.offsets.Target.TheVariants.{Child}

-- ---- lists cut at a length

-- what is taken of a list and more
pub take_again : (n : ℕ) (xs ys : List ℕ) → take n (take n xs ++ ys) ≡ take n (xs ++ ys)
take_again zero xs ys = refl
take_again (suc n) [] ys = refl
take_again (suc n) (x ∷ xs) ys = ap (λ zs. x ∷ zs) (take_again n xs ys)

-- a list that is as long already is all that is taken
pub take_full : (n : ℕ) (xs ys : List ℕ) → length xs ≤ n → n ≤ length xs → take n (xs ++ ys) ≡ xs
take_full zero [] ys h k = refl
take_full zero (x ∷ xs) ys h k = absurd (omega arith)
take_full (suc n) [] ys h k = absurd (omega arith)
take_full (suc n) (x ∷ xs) ys h k =
    ap (λ zs. x ∷ zs) (take_full n xs ys (omega arith) (omega arith))

-- a list that is not longer is taken whole
pub take_whole : (n : ℕ) (xs : List ℕ) → length xs ≤ n → take n xs ≡ xs
take_whole zero [] h = refl
take_whole zero (x ∷ xs) h = absurd (omega arith)
take_whole (suc n) [] h = refl
take_whole (suc n) (x ∷ xs) h = ap (λ zs. x ∷ zs) (take_whole n xs (omega arith))

pub take_short : (n : ℕ) (xs : List ℕ) → length (take n xs) ≤ n
take_short zero xs = omega arith
take_short (suc n) [] = omega arith
take_short (suc n) (x ∷ xs) = let h = take_short n xs in omega arith

-- nothing more
pub take_same : (n : ℕ) (xs : List ℕ) → length xs ≤ n → xs ≡ take n (xs ++ [])
take_same n xs h = sym (ap (λ ys. take n ys) (append-nil xs) ∙ take_whole n xs h)

-- ---- the offsets of an entry

-- this many of them are in the data
pub offsets_near : (t n l at' : ℕ) → n ≤ fitting t (l - at') → 0 < n → at' + offset_len t * n ≤ l
offsets_near t n l at' h k = by_test (t == 3) h
  where
    by_test : (b : Bool) → n ≤ (if b then (l - at') / 2 else (l - at') / 4)
        → at' + (if b then 2 else 4) * n ≤ l
    by_test true h = omega arith
    by_test false h = omega arith

-- there is space for those behind the one at hand
pub offsets_behind : (t n i l at' : ℕ) → i < n → at' + offset_len t * (n - i) ≤ l
    → at' + offset_len t + offset_len t * (n - (i + 1)) ≤ l
offsets_behind t n i l at' h k = by_test (t == 3) k
  where
    by_test : (b : Bool) → at' + (if b then 2 else 4) * (n - i) ≤ l
        → at' + (if b then 2 else 4) + (if b then 2 else 4) * (n - (i + 1)) ≤ l
    by_test true k = omega arith
    by_test false k = omega arith

-- no offsets are left
pub none_left : (n i at' len : ℕ) → n ≤ i → spaced at' len (n - i) ≡ []
none_left n i at' len h = let z : n - i ≡ 0 = omega arith in rw z refl

-- what was taken is all where nothing is left
pub all_taken : (m : ℕ) (out rest all : List ℕ) → length out ≤ m → rest ≡ []
    → take m (out ++ rest) ≡ all → out ≡ all
all_taken m out rest all h e k =
    take_same m out h ∙ (ap (λ xs. take m (out ++ xs)) (sym e) ∙ k)

-- one of the offsets that are left
pub offset_on : (m n i at' len : ℕ) (read : ℕ → ℕ) (out new all : List ℕ) → i < n
    → new ≡ out ++ read at' ∷ []
    → take m (out ++ map read (spaced at' len (n - i))) ≡ all
    → take m (new ++ map read (spaced (at' + len) len (n - (i + 1)))) ≡ all
offset_on m n i at' len read out new all h e f =
    let g : take m (out ++ map read (at' ∷ spaced (at' + len) len (n - (i + 1)))) ≡ all =
    rw (spaced_step n i at' len h) at f in
    ap (λ xs. take m (xs ++ map read (spaced (at' + len) len (n - (i + 1))))) e
    ∙ (ap (λ xs. take m xs)
    (append_assoc out (read at' ∷ []) (map read (spaced (at' + len) len (n - (i + 1))))) ∙ g)

-- no more of them once there are enough
pub offset_full : (m : ℕ) (out rest all : List ℕ) → length out ≤ m → m ≤ length out
    → take m (out ++ rest) ≡ all → out ≡ all
offset_full m out rest all h k e = sym (take_full m out rest h k) ∙ e

-- ---- the entries of a directory

-- one of the entries that are left
pub entry_on : (m n i at' : ℕ) (f : ℕ → List ℕ) (out new all : List ℕ) → i < n
    → new ≡ take m (out ++ f at')
    → take m (out ++ flat_map f (spaced at' 12 (n - i))) ≡ all
    → take m (new ++ flat_map f (spaced (at' + 12) 12 (n - (i + 1)))) ≡ all
entry_on m n i at' f out new all h e g =
    let rest = flat_map f (spaced (at' + 12) 12 (n - (i + 1))) in
    let k : take m (out ++ flat_map f (at' ∷ spaced (at' + 12) 12 (n - (i + 1)))) ≡ all =
    rw (spaced_step n i at' 12 h) at g in
    ap (λ xs. take m (xs ++ rest)) e
    ∙ (take_again m (out ++ f at') rest
    ∙ (ap (λ xs. take m xs) (append_assoc out (f at') rest) ∙ k))

-- an entry of another tag adds none
pub other_tag : (target : Target) (number : Reading) (bytes xs : List ℕ) (e n : ℕ)
    → length xs ≤ 256 → n ≡ number_at number 2 bytes e → points_to target n ≡ false
    → xs ≡ take max_pointers (xs ++ pointers_in target number bytes e)
other_tag target number bytes xs e n h k t =
    let p : points_to target (number_at number 2 bytes e) ≡ false =
    ap (λ m. points_to target m) (sym k) ∙ t in
    take_same 256 xs h
    ∙ ap (λ b. take 256 (xs ++ (if b && is_offset_type (type_at number bytes e)
    then offsets_in number bytes e else []))) (sym p)

-- nor does one of another type
pub other_type : (target : Target) (number : Reading) (bytes xs : List ℕ) (e t : ℕ)
    → length xs ≤ 256 → t ≡ type_at number bytes e → is_offset_type t ≡ false
    → xs ≡ take max_pointers (xs ++ pointers_in target number bytes e)
other_type target number bytes xs e t h k f =
    let points = points_to target (number_at number 2 bytes e) in
    let q : is_offset_type (type_at number bytes e) ≡ false = ap is_offset_type (sym k) ∙ f in
    let none : (points && is_offset_type (type_at number bytes e)) ≡ false =
    ap (λ b. points && b) q ∙ and-false points in
    take_same 256 xs h
    ∙ ap (λ b. take 256 (xs ++ (if b then offsets_in number bytes e else []))) (sym none)

-- ---- the chain

-- a directory that is not new ends it
pub chain_stops : (n : ℕ) (number : Reading) (bytes found : List ℕ) (p : ℕ)
    → is_new bytes found p ≡ false → chain_from n number bytes found p ≡ found
unfolding chain_from
chain_stops zero number bytes found p h = refl
chain_stops (suc n) number bytes found p h =
    ap (λ b. elim b as (λ _. List ℕ) [
      | false ↦ found
      | true ↦ chain_from n number bytes (found ++ p ∷ []) (next_offset number bytes p)
    ]) h

chain_step : (n : ℕ) (number : Reading) (bytes found : List ℕ) (p : ℕ)
    → is_new bytes found p ≡ true → chain_from (suc n) number bytes found p
    ≡ chain_from n number bytes (found ++ p ∷ []) (next_offset number bytes p)
unfolding chain_from
chain_step n number bytes found p h =
    ap (λ b. elim b as (λ _. List ℕ) [
      | false ↦ found
      | true ↦ chain_from n number bytes (found ++ p ∷ []) (next_offset number bytes p)
    ]) h

-- one that is new goes on to the next
pub chain_on : (m i : ℕ) (number : Reading) (bytes found new all : List ℕ) (p q : ℕ) → i < m
    → is_new bytes found p ≡ true → new ≡ found ++ p ∷ [] → q ≡ next_offset number bytes p
    → chain_from (m - i) number bytes found p ≡ all
    → chain_from (m - (i + 1)) number bytes new q ≡ all
chain_on m i number bytes found new all p q h t e g k =
    let s : m - i ≡ suc (m - (i + 1)) = omega arith in
    ap (λ xs. chain_from (m - (i + 1)) number bytes xs q) e
    ∙ (ap (λ r. chain_from (m - (i + 1)) number bytes (found ++ p ∷ []) r) g
    ∙ (sym (chain_step (m - (i + 1)) number bytes found p t)
    ∙ (ap (λ n. chain_from n number bytes found p) (sym s) ∙ k)))

-- this many directories are enough
pub chain_ends : (m i : ℕ) (number : Reading) (bytes found all : List ℕ) (p : ℕ) → m ≤ i
    → chain_from (m - i) number bytes found p ≡ all → found ≡ all
unfolding chain_from
chain_ends m i number bytes found all p h k =
    let z : m - i ≡ 0 = omega arith in
    ap (λ n. chain_from n number bytes found p) (sym z) ∙ k

-- ---- the directories to which others point

pub children_stop : (n : ℕ) (number : Reading) (bytes : List ℕ) (i : ℕ) (found : List ℕ)
    → length found ≤ i → children_from n number bytes i found ≡ found
unfolding children_from
children_stop zero number bytes i found h = refl
children_stop (suc n) number bytes i found h =
    let t : nat_lt i (length found) ≡ false = grind (arith, nat_tests) in
    ap (λ b. elim b as (λ _. List ℕ) [
      | false ↦ found
      | true ↦ children_from n number bytes (i + 1)
          (all_noted bytes found (pointers Child number bytes (slice_index found i)))
    ]) t

children_step : (n : ℕ) (number : Reading) (bytes : List ℕ) (i : ℕ) (found : List ℕ)
    → i < length found → children_from (suc n) number bytes i found
    ≡ children_from n number bytes (i + 1)
    (all_noted bytes found (pointers Child number bytes (slice_index found i)))
unfolding children_from
children_step n number bytes i found h =
    let t : nat_lt i (length found) ≡ true = grind (arith, nat_tests) in
    ap (λ b. elim b as (λ _. List ℕ) [
      | false ↦ found
      | true ↦ children_from n number bytes (i + 1)
          (all_noted bytes found (pointers Child number bytes (slice_index found i)))
    ]) t

-- the next one
pub children_on : (m i : ℕ) (number : Reading) (bytes found new all : List ℕ) → i < m
    → i < length found
    → new ≡ all_noted bytes found (pointers Child number bytes (slice_index found i))
    → children_from (m - i) number bytes i found ≡ all
    → children_from (m - (i + 1)) number bytes (i + 1) new ≡ all
children_on m i number bytes found new all h l e k =
    let s : m - i ≡ suc (m - (i + 1)) = omega arith in
    ap (λ xs. children_from (m - (i + 1)) number bytes (i + 1) xs) e
    ∙ (sym (children_step (m - (i + 1)) number bytes i found l)
    ∙ (ap (λ n. children_from n number bytes i found) (sym s) ∙ k))

-- this many directories are enough
pub children_end : (m i : ℕ) (number : Reading) (bytes found all : List ℕ) → m ≤ i
    → children_from (m - i) number bytes i found ≡ all → found ≡ all
unfolding children_from
children_end m i number bytes found all h k =
    let z : m - i ≡ 0 = omega arith in
    ap (λ n. children_from n number bytes i found) (sym z) ∙ k

-- ---- what is noted begins with what was found

-- what holds of what is noted holds of what was found
pub noted_holds : (P : List ℕ → Type 0) (bytes : List ℕ)
    → ((xs ys : List ℕ) → P (xs ++ ys) → P xs) → (found ps : List ℕ)
    → P (all_noted bytes found ps) → P found
noted_holds P bytes left found [] h = h
noted_holds P bytes left found (p ∷ ps) h =
    by_test (is_new bytes found p) (λ xs. noted_holds P bytes left xs ps) h
  where
    by_test : (b : Bool) → ((xs : List ℕ) → P (all_noted bytes xs ps) → P xs)
        → P (all_noted bytes (if b then found ++ p ∷ [] else found) ps) → P found
    by_test true rest h = left found (p ∷ []) (rest (found ++ p ∷ []) h)
    by_test false rest h = rest found h
