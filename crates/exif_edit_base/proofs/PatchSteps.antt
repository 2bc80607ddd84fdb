-- Bytes put over others: which stay, and which are new.
use Rattle.std.proofs.Common.{◌≡◌, ◌-◌, ◌≤◌, ◌<◌, ◌+◌, ℕ, Bool, true, false, if◌then◌else◌, List, [], ◌∷◌, length, get_or, inl, inr, ◌⊎◌, map, replicate, All, refl, sym, ap, subst, ◌∙◌, arith}
use Rattle.std.specs.Prelude.{◌&&◌, ◌||◌, nat_lt, nat_le}
use Rattle.std.specs.List.{list_any}
use Rattle.std.proofs.lemmas.Bool.{false≢true, and_parts}
use Rattle.std.proofs.lemmas.Bool.Decides.{nat_tests}
use Rattle.std.proofs.lemmas.Grind.{common_steps}
use Rattle.std.proofs.lemmas.List.{length-replicate}
use Rattle.std.proofs.lemmas.List.Elements.{All-head, All-tail}
use Rattle.exif_edit_base.specs.Patches.{FitsIn, inside, patched, put_at, zeros_over}
use Rattle.exif_edit_base.specs.declared.patch.Patch.{Patch}
use Rattle.exif_edit_base.specs.declared.patch.Span.{Span}

-- ---- one patch

-- a byte before it, or behind it, stays
pub put_before : (offset : ℕ) (encoded bytes : List ℕ) (i : ℕ) → offset + length encoded ≤ length bytes
    → i < offset → get_or (put_at offset encoded bytes) i 0 ≡ get_or bytes i 0
put_before offset encoded bytes i h l = grind (arith, common_steps)

-- a byte behind a encoded that was put is as it was
pub put_behind : (offset : ℕ) (encoded bytes : List ℕ) (i : ℕ) → offset + length encoded ≤ length bytes
    → offset + length encoded ≤ i → get_or (put_at offset encoded bytes) i 0 ≡ get_or bytes i 0
put_behind offset encoded bytes i h l = grind (arith, common_steps)

-- a byte that zeros were put over is zero
pub put_zero : (offset len : ℕ) (bytes : List ℕ) (i : ℕ) → offset + len ≤ length bytes → offset ≤ i
    → i < offset + len → get_or (put_at offset (replicate len 0) bytes) i 0 ≡ 0
put_zero offset len bytes i h l m = grind (arith, common_steps)

-- a byte of it is there
pub put_on : (offset : ℕ) (encoded bytes : List ℕ) (i : ℕ) → offset + length encoded ≤ length bytes
    → offset ≤ i
    → i < offset + length encoded → get_or (put_at offset encoded bytes) i 0 ≡ get_or encoded (i - offset) 0
put_on offset encoded bytes i h l m = grind (arith, common_steps)

-- a encoded that is put within bytes leaves them as long as they were
pub length-put_at : (offset : ℕ) (encoded bytes : List ℕ) → offset + length encoded ≤ length bytes
    → length (put_at offset encoded bytes) ≡ length bytes
length-put_at offset encoded bytes h = grind (arith, common_steps)

-- ---- patches

-- the lengths of the bytes may be given otherwise
pub fit_in : (m n : ℕ) (ps : List Patch) → m ≡ n → All (FitsIn m) ps → All (FitsIn n) ps
fit_in m n ps e h = subst (λ x. All (FitsIn x) ps) e h

-- the patches behind the first fit after it
pub fit_behind : (p : Patch) (ps : List Patch) (bytes : List ℕ)
    → All (FitsIn (length bytes)) (p ∷ ps)
    → All (FitsIn (length (put_at p.offset p.bytes bytes))) ps
fit_behind p ps bytes h =
    fit_in (length bytes) (length (put_at p.offset p.bytes bytes)) ps
    (sym (length-put_at p.offset p.bytes bytes (All-head (FitsIn (length bytes)) p ps h)))
    (All-tail (FitsIn (length bytes)) p ps h)

-- patches that lie in bytes leave them as long as they were
pub length-patched : (ps : List Patch) (bytes : List ℕ) → All (FitsIn (length bytes)) ps
    → length (patched ps bytes) ≡ length bytes
length-patched [] bytes h = refl
length-patched (p ∷ ps) bytes h =
    length-patched ps (put_at p.offset p.bytes bytes) (fit_behind p ps bytes h)
    ∙ length-put_at p.offset p.bytes bytes (All-head (FitsIn (length bytes)) p ps h)

-- a patch does not touch the byte at i
abbrev pub Misses : ℕ → Patch → Type 0
Misses i p = (i < p.offset) ⊎ (p.offset + length p.bytes ≤ i)

-- a byte that no patch touches stays
pub patched_outside : (ps : List Patch) (bytes : List ℕ) (i : ℕ) → All (FitsIn (length bytes)) ps
    → All (Misses i) ps → get_or (patched ps bytes) i 0 ≡ get_or bytes i 0
patched_outside [] bytes i h m = refl
patched_outside (p ∷ ps) bytes i h m =
    let fits = All-head (FitsIn (length bytes)) p ps h in
    patched_outside ps (put_at p.offset p.bytes bytes) i (fit_behind p ps bytes h)
    (All-tail (Misses i) p ps m)
    ∙ (elim (All-head (Misses i) p ps m)
    as (λ x. get_or (put_at p.offset p.bytes bytes) i 0 ≡ get_or bytes i 0) [
      | inl a ↦ put_before p.offset p.bytes bytes i fits a
      | inr a ↦ put_behind p.offset p.bytes bytes i fits a
    ])

-- ---- zeros in spans

bools : (a b : Bool) (x : ℕ) → (if b then 0 else (if a then 0 else x)) ≡ (if (a || b) then 0 else x)
bools true true x = refl
bools true false x = refl
bools false true x = refl
bools false false x = refl

inside_offset : (i : ℕ) (s : Span) → inside i s ≡ true → (s.offset ≤ i) × (i < s.offset + s.len)
inside_offset i s e =
    let p = and_parts (nat_le s.offset i) (nat_lt i (s.offset + s.len)) e in
    let a = p.0 in
    let b = p.1 in
    (grind (arith, nat_tests), grind (arith, nat_tests))

-- an offset that is not one of a span is before it or behind it
pub outside_offset : (i : ℕ) (s : Span) → inside i s ≡ false → (i < s.offset) ⊎ (s.offset + s.len ≤ i)
outside_offset i s e = by_tests (nat_le s.offset i) (nat_lt i (s.offset + s.len)) refl refl e
  where
    by_tests : (a b : Bool) → nat_le s.offset i ≡ a → nat_lt i (s.offset + s.len) ≡ b
        → (a && b) ≡ false → (i < s.offset) ⊎ (s.offset + s.len ≤ i)
    by_tests true true p q e = absurd (false≢true (sym e))
    by_tests true false p q e = inr (grind (arith, nat_tests))
    by_tests false b p q e = inl (grind (arith, nat_tests))

one_zeroed : (s : Span) (bytes : List ℕ) (i : ℕ) → s.offset + s.len ≤ length bytes
    → get_or (put_at s.offset (replicate s.len 0) bytes) i 0
    ≡ (if inside i s then 0 else get_or bytes i 0)
one_zeroed s bytes i h = by_test (inside i s) refl
  where
    by_test : (b : Bool) → inside i s ≡ b
        → get_or (put_at s.offset (replicate s.len 0) bytes) i 0
        ≡ (if b then 0 else get_or bytes i 0)
    by_test true e = let p = inside_offset i s e in put_zero s.offset s.len bytes i h p.0 p.1
    by_test false e =
        let l : length (replicate {A = ℕ} s.len 0) ≡ s.len = length-replicate s.len 0 in
        elim (outside_offset i s e) [
          | inl a ↦ put_before s.offset (replicate s.len 0) bytes i (omega (arith, l)) a
          | inr a ↦ put_behind s.offset (replicate s.len 0) bytes i (omega (arith, l))
              (omega (arith, l))
        ]

-- all the spans lie in data of a length
abbrev pub AllWithin : ℕ → List Span → Type 0
AllWithin total [] = Unit {0}
AllWithin total (s ∷ ss) = (s.offset + s.len ≤ total) × AllWithin total ss

-- with zeros over spans in the data, each byte of a span is zero and every other is as it was
pub zeroed_at : (ss : List Span) (bytes : List ℕ) (i : ℕ) → AllWithin (length bytes) ss
    → get_or (patched (map zeros_over ss) bytes) i 0
    ≡ (if list_any (inside i) ss then 0 else get_or bytes i 0)
zeroed_at [] bytes i h = refl
zeroed_at (s ∷ ss) bytes i h =
    let l : length (replicate {A = ℕ} s.len 0) ≡ s.len = length-replicate s.len 0 in
    let e : length (put_at s.offset (replicate s.len 0) bytes) ≡ length bytes =
    length-put_at s.offset (replicate s.len 0) bytes (let a = h.0 in omega (arith, l)) in
    zeroed_at ss (put_at s.offset (replicate s.len 0) bytes) i
    (subst (λ n. AllWithin n ss) (sym e) h.1)
    ∙ (ap (λ x. if list_any (inside i) ss then 0 else x) (one_zeroed s bytes i h.0)
    ∙ bools (inside i s) (list_any (inside i) ss) (get_or bytes i 0))
