-- The steps of looking for directories and entries.
use Rattle.std.proofs.Common.{◌≡◌, ◌≢◌, ◌≤◌, ◌<◌, ◌+◌, ◌-◌, ◌*◌, ℕ, zero, suc, Bool, true, false, if◌then◌else◌, List, length, Option, Some, None, refl, sym, arith}
use Rattle.std.specs.Prelude.{◌==◌, ◌&&◌, not, nat_le, nat_lt}
use Rattle.std.proofs.lemmas.Bool.Decides.{nat_tests}
use Rattle.exif_base.specs.Bytes.{Reading, number_at}
use Rattle.exif_grow.specs.Directories.{chain_from, directory_at, leading, next_slot, tag_slot}
use Rattle.exif_grow.specs.declared.directories.Directory.{Directory}

-- one directory further on
pub chain_step : (number : Reading) (bytes : List ℕ) (k : ℕ) (d : Directory) → 0 < k
    → chain_from number bytes k (Some d)
    ≡ chain_from number bytes (k - 1) (directory_at number bytes (next_slot d))
chain_step number bytes zero d h = absurd (omega arith)
chain_step number bytes (suc k) d h =
    let e : suc k - 1 ≡ k = omega arith in rw e refl

-- the entry at hand has the tag
pub slot_here : (number : Reading) (bytes : List ℕ) (n left e : ℕ) → 0 < left
    → number_at number 2 bytes e ≡ n → tag_slot number bytes n left e ≡ Some (e + 8)
slot_here number bytes n zero e h g = absurd (omega arith)
slot_here number bytes n (suc left) e h g =
    let t : (number_at number 2 bytes e == n) ≡ true = grind (arith, nat_tests) in rw t refl

-- it has another one
pub slot_on : (number : Reading) (bytes : List ℕ) (n left e : ℕ) → 0 < left
    → (number_at number 2 bytes e == n) ≡ false
    → tag_slot number bytes n left e ≡ tag_slot number bytes n (left - 1) (e + 12)
slot_on number bytes n zero e h g = absurd (omega arith)
slot_on number bytes n (suc left) e h g =
    let l : suc left - 1 ≡ left = omega arith in rw (g, l) refl

-- the entry at hand has a larger tag
pub leading_here : (number : Reading) (bytes : List ℕ) (n left e : ℕ)
    → n < number_at number 2 bytes e → leading number bytes n left e ≡ 0
leading_here number bytes n zero e g = refl
leading_here number bytes n (suc left) e g =
    let t : nat_lt n (number_at number 2 bytes e) ≡ true = grind (arith, nat_tests) in rw t refl

-- it has none
pub leading_on : (number : Reading) (bytes : List ℕ) (n left e : ℕ) → 0 < left
    → number_at number 2 bytes e ≤ n
    → leading number bytes n left e ≡ leading number bytes n (left - 1) (e + 12) + 1
leading_on number bytes n zero e h g = absurd (omega arith)
leading_on number bytes n (suc left) e h g =
    let t : nat_lt n (number_at number 2 bytes e) ≡ false = grind (arith, nat_tests) in
    let l : suc left - 1 ≡ left = omega arith in rw (t, l) refl

-- the same, with the entries counted that were passed
pub leading_next : (number : Reading) (bytes : List ℕ) (n count passed e total : ℕ)
    → passed < count → number_at number 2 bytes e ≤ n
    → leading number bytes n (count - passed) e + passed ≡ total
    → leading number bytes n (count - (passed + 1)) (e + 12) + (passed + 1) ≡ total
leading_next number bytes n count passed e total h g inv =
    let l : count - passed - 1 ≡ count - (passed + 1) = omega arith in
    let s : leading number bytes n (count - passed) e
    ≡ leading number bytes n (count - (passed + 1)) (e + 12) + 1 =
    rw l at (leading_on number bytes n (count - passed) e (omega arith) g) in
    omega (arith, s, inv)

-- ---- a directory

-- no directory stands at 0
pub none_at_zero : (number : Reading) (bytes : List ℕ) (s : ℕ) → number_at number 4 bytes s ≡ 0
    → None ≡ directory_at number bytes s
unfolding directory_at
none_at_zero number bytes s h =
    let t : (number_at number 4 bytes s == 0) ≡ true = grind (arith, nat_tests) in rw t refl

-- none that does not lie whole in the data
pub none_cut : (number : Reading) (bytes : List ℕ) (s p n : ℕ) → p ≡ number_at number 4 bytes s
    → n ≡ number_at number 2 bytes p
    → length bytes < p + 12 * n + 6 → None ≡ directory_at number bytes s
unfolding directory_at
none_cut number bytes s p n e f h = rw (sym e, sym f) (by_test (not (p == 0)))
  where
    by_test : (b : Bool)
        → ◌≡◌ {A = Option Directory} None (if b && nat_le (p + 12 * n + 6) (length bytes)
        then Some (record { slot = s; offset = p; count = n }) else None)
    by_test false = refl
    by_test true =
        let t : nat_le (p + 12 * n + 6) (length bytes) ≡ false = grind (arith, nat_tests) in
        rw t refl

-- any other
pub some_whole : (number : Reading) (bytes : List ℕ) (s p n : ℕ) → p ≡ number_at number 4 bytes s
    → n ≡ number_at number 2 bytes p → p ≢ 0
    → p + 12 * n + 6 ≤ length bytes
    → Some (record { slot = s; offset = p; count = n }) ≡ directory_at number bytes s
unfolding directory_at
some_whole number bytes s p n e f z h =
    let a : (p == 0) ≡ false = grind (arith, nat_tests) in
    let t : nat_le (p + 12 * n + 6) (length bytes) ≡ true = grind (arith, nat_tests) in
    rw (sym e, sym f, a, t) refl

-- the entry at hand has another tag, and there is space for those that are left
pub slot_next : (number : Reading) (bytes : List ℕ) (n left e m : ℕ) → 0 < left
    → m ≡ number_at number 2 bytes e → m ≢ n
    → tag_slot number bytes n left e ≡ tag_slot number bytes n (left - 1) (e + 12)
slot_next number bytes n left e m h f g =
    let t : (number_at number 2 bytes e == n) ≡ false = grind (arith, nat_tests) in
    slot_on number bytes n left e h t
