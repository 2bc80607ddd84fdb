-- How many of some stretches have a byte: where no two of them overlap, one at most.
use Rattle.std.proofs.Common.{◌≡◌, ◌≤◌, ◌<◌, ◌+◌, max, ℕ, Bool, true, false, if◌then◌else◌, List, [], ◌∷◌, ◌++◌, inl, inr, refl, sym, ◌∙◌, arith}
use Rattle.std.specs.Prelude.{◌&&◌, nat_le, nat_lt, not}
use Rattle.std.specs.List.{AllByRecursion, list_any}
use Rattle.std.proofs.lemmas.Bool.{false≢true, and_parts, not-true, or_parts}
use Rattle.std.proofs.lemmas.Bool.Decides.{nat_tests}
use Rattle.exif_tiff.specs.Apart.{are_apart, overlap}
use Rattle.exif_tiff.specs.Footprint.{Stretch}
use Rattle.exif_tiff.proofs.ApartLists.{IsApart}
use Rattle.exif_edit_base.specs.declared.patch.Span.{Span}
use Rattle.exif_edit.specs.Sharing.{overlaps}

-- one where a stretch has the byte at i, else none
pub has : ℕ → Stretch → ℕ
has i s = if nat_le s.offset i && nat_lt i (s.offset + s.len) then 1 else 0

-- how many of some stretches have it
pub holders : ℕ → List Stretch → ℕ
holders i [] = 0
holders i (s ∷ ss) = has i s + holders i ss

-- of no stretches none has the byte
pub holders_none : (i : ℕ) → holders i [] ≡ 0
unfolding holders
holders_none i = refl

-- one more stretch counts if it has the byte
pub holders_more : (i : ℕ) (s : Stretch) (ss : List Stretch)
    → holders i (s ∷ ss) ≡ has i s + holders i ss
unfolding holders
holders_more i s ss = refl

-- as many of two joined lists have the byte as of both together
pub holders-append : (i : ℕ) (ss ts : List Stretch)
    → holders i (ss ++ ts) ≡ holders i ss + holders i ts
holders-append i [] ts = omega (arith, holders_none i)
holders-append i (s ∷ ss) ts =
    let rest = holders-append i ss ts in
    let more = holders_more i s (ss ++ ts) in
    let here = holders_more i s ss in
    omega arith

-- ---- one stretch

module _ (i : ℕ) (s : Stretch) where
  -- a stretch counts one at most for a byte
  pub has_most : has i s ≤ 1
  unfolding has
  has_most = by_test (nat_le s.offset i && nat_lt i (s.offset + s.len))
    where
      by_test : (t : Bool) → (if t then 1 else 0) ≤ 1
      by_test true = omega arith
      by_test false = omega arith

  -- it counts one for a byte from its offset on and before its end
  pub has_inside : s.offset ≤ i → i < s.offset + s.len → has i s ≡ 1
  unfolding has
  has_inside low high =
      let a : nat_le s.offset i ≡ true = grind (arith, nat_tests) in
      let b : nat_lt i (s.offset + s.len) ≡ true = grind (arith, nat_tests) in
      rw (a, b) refl

  -- it counts none for a byte before it
  pub has_before : i < s.offset → has i s ≡ 0
  unfolding has
  has_before low = let a : nat_le s.offset i ≡ false = grind (arith, nat_tests) in rw a refl

  -- it counts none for a byte behind it
  pub has_behind : s.offset + s.len ≤ i → has i s ≡ 0
  unfolding has
  has_behind high =
      by_test (nat_le s.offset i) (nat_lt i (s.offset + s.len)) (grind (arith, nat_tests))
    where
      by_test : (a b : Bool) → b ≡ false → ◌≡◌ {A = ℕ} (if a && b then 1 else 0) 0
      by_test true b h = rw h refl
      by_test false b h = refl

  -- it has the byte, or it is before or behind it
  pub data Where : Type 0 where
    inside : s.offset ≤ i → i < s.offset + s.len → Where
    before : i < s.offset → Where
    behind : s.offset + s.len ≤ i → Where

  -- each byte is inside the stretch, before it or behind it
  pub stands : Where
  stands = by_tests (nat_le s.offset i) (nat_lt i (s.offset + s.len)) refl refl
    where
      by_tests : (a b : Bool) → nat_le s.offset i ≡ a → nat_lt i (s.offset + s.len) ≡ b → Where
      by_tests false b p q = before (grind (arith, nat_tests))
      by_tests true false p q = behind (grind (arith, nat_tests))
      by_tests true true p q = inside (grind (arith, nat_tests)) (grind (arith, nat_tests))

-- a stretch in two parts
pub has_parts : (i p m n : ℕ)
    → has i (record { offset = p; len = m + n })
    ≡ has i (record { offset = p; len = m }) + has i (record { offset = p + m; len = n })
has_parts i p m n = by_offset (stands i (record { offset = p; len = m }))
  where
    by_offset : Where i (record { offset = p; len = m })
        → has i (record { offset = p; len = m + n })
        ≡ has i (record { offset = p; len = m }) + has i (record { offset = p + m; len = n })
    by_offset (inside low high) =
        let a = has_inside i (record { offset = p; len = m + n }) low (omega arith) in
        let b = has_inside i (record { offset = p; len = m }) low high in
        let c = has_before i (record { offset = p + m; len = n }) high in
        omega arith
    by_offset (before low) =
        let a = has_before i (record { offset = p; len = m + n }) low in
        let b = has_before i (record { offset = p; len = m }) low in
        let c = has_before i (record { offset = p + m; len = n }) (omega arith) in
        omega arith
    by_offset (behind high) = by_rest (stands i (record { offset = p + m; len = n }))
      where
        by_rest : Where i (record { offset = p + m; len = n })
            → has i (record { offset = p; len = m + n })
            ≡ has i (record { offset = p; len = m }) + has i (record { offset = p + m; len = n })
        by_rest (inside low far) =
            let a = has_inside i (record { offset = p; len = m + n }) (omega arith) (omega arith) in
            let b = has_behind i (record { offset = p; len = m }) high in
            let c = has_inside i (record { offset = p + m; len = n }) low far in
            omega arith
        by_rest (before low) = absurd (omega arith)
        by_rest (behind far) =
            let a = has_behind i (record { offset = p; len = m + n }) (omega arith) in
            let b = has_behind i (record { offset = p; len = m }) high in
            let c = has_behind i (record { offset = p + m; len = n }) far in
            omega arith

-- ---- stretches of which no two overlap

-- two that have one byte overlap
alone : (i : ℕ) (s t : Stretch) → s.offset ≤ i → i < s.offset + s.len → overlap s t ≡ false
    → has i t ≡ 0
alone i s t low high h = by_offset (stands i t)
  where
    by_offset : Where i t → has i t ≡ 0
    by_offset (inside near far) =
        let a : nat_lt t.offset (s.offset + s.len) ≡ true = grind (arith, nat_tests) in
        let b : nat_lt s.offset (t.offset + t.len) ≡ true = grind (arith, nat_tests) in
        let c : overlap s t ≡ true = rw (a, b) refl in
        absurd (false≢true (sym h ∙ c))
    by_offset (before near) = has_before i t near
    by_offset (behind far) = has_behind i t far

none_else : (i : ℕ) (s : Stretch) (ts : List Stretch) → s.offset ≤ i → i < s.offset + s.len
    → list_any (overlap s) ts ≡ false → holders i ts ≡ 0
none_else i s [] low high h = holders_none i
none_else i s (t ∷ ts) low high h =
    let a = or_parts (overlap s t) (list_any (overlap s) ts) h in
    let here = alone i s t low high a.0 in
    let rest = none_else i s ts low high a.1 in
    let more = holders_more i t ts in
    omega arith

-- of stretches of which no two overlap, one at most has a byte
pub apart_holders : (i : ℕ) (ts : List Stretch) → are_apart ts ≡ true → holders i ts ≤ 1
apart_holders i [] h = omega (arith, holders_none i)
apart_holders i (t ∷ ts) h =
    let a = and_parts (not (list_any (overlap t) ts)) (are_apart ts) h in
    let rest = apart_holders i ts a.1 in
    let more = holders_more i t ts in
    by_offset (stands i t) more rest (not-true (list_any (overlap t) ts) a.0)
  where
    by_offset : Where i t → holders i (t ∷ ts) ≡ has i t + holders i ts → holders i ts ≤ 1
        → list_any (overlap t) ts ≡ false → holders i (t ∷ ts) ≤ 1
    by_offset (inside low high) more rest none =
        let others = none_else i t ts low high none in
        let most = has_most i t in
        omega arith
    by_offset (before low) more rest none = let here = has_before i t low in omega arith
    by_offset (behind high) more rest none = let here = has_behind i t high in omega arith

-- ---- stretches without a byte in common

-- each of them has bytes
abbrev pub HaveBytes : List Stretch → Type 0
HaveBytes ts = AllByRecursion (λ (t : Stretch). 0 < t.len) ts

-- a stretch of bytes that some do not have
abbrev pub Lacks : Stretch → List Stretch → Type 0
Lacks s ts = (i : ℕ) → s.offset ≤ i → i < s.offset + s.len → holders i ts ≡ 0

lacks_first : (s t : Stretch) (ts : List Stretch) → Lacks s (t ∷ ts)
    → (i : ℕ) → s.offset ≤ i → i < s.offset + s.len → has i t ≡ 0
lacks_first s t ts h i low high =
    let none = h i low high in
    let more = holders_more i t ts in
    omega arith

lacks_rest : (s t : Stretch) (ts : List Stretch) → Lacks s (t ∷ ts) → Lacks s ts
lacks_rest s t ts h i low high =
    let none = h i low high in
    let more = holders_more i t ts in
    omega arith

-- two stretches without a common byte
pub apart_of : (s t : Stretch) → 0 < s.len → 0 < t.len
    → ((i : ℕ) → s.offset ≤ i → i < s.offset + s.len → has i t ≡ 0) → IsApart s t
apart_of s t some other h =
    by_tests (nat_lt t.offset (s.offset + s.len)) (nat_lt s.offset (t.offset + t.len)) refl refl
  where
    by_tests : (a b : Bool) → nat_lt t.offset (s.offset + s.len) ≡ a
        → nat_lt s.offset (t.offset + t.len) ≡ b → IsApart s t
    by_tests false b p q = inl (grind (arith, nat_tests))
    by_tests true false p q = inr (grind (arith, nat_tests))
    by_tests true true p q =
        let x : t.offset < s.offset + s.len = grind (arith, nat_tests) in
        let y : s.offset < t.offset + t.len = grind (arith, nat_tests) in
        let i : ℕ = max s.offset t.offset in
        let none = h i (omega arith) (omega arith) in
        let one = has_inside i t (omega arith) (omega arith) in
        absurd (omega arith)

-- a stretch whose bytes none of some others has is apart from each, where all have bytes
pub all_apart : (s : Stretch) (ts : List Stretch) → 0 < s.len → HaveBytes ts → Lacks s ts
    → AllByRecursion (IsApart s) ts
all_apart s [] some others h = tt
all_apart s (t ∷ ts) some others h = (
  apart_of s t some others.0 (lacks_first s t ts h),
  all_apart s ts some others.1 (lacks_rest s t ts h),
)

-- a span that is apart from a stretch does not meet it
pub apart_misses : (s : Span) (t : Stretch) → IsApart (record { offset = s.offset; len = s.len }) t
    → overlaps s t ≡ false
apart_misses s t h =
    by_tests (nat_lt t.offset (s.offset + s.len)) (nat_lt s.offset (t.offset + t.len)) refl refl h
  where
    by_tests : (a b : Bool) → nat_lt t.offset (s.offset + s.len) ≡ a
        → nat_lt s.offset (t.offset + t.len) ≡ b
        → IsApart (record { offset = s.offset; len = s.len }) t → (a && b) ≡ false
    by_tests false b p q h = refl
    by_tests true false p q h = refl
    by_tests true true p q (inl h) = absurd (grind (arith, nat_tests))
    by_tests true true p q (inr h) = absurd (grind (arith, nat_tests))
