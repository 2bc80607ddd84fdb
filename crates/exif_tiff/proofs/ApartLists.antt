-- Stretches that are apart: lists of them, joined, and what lies between two offsets.
use Rattle.std.proofs.Common.{◌≡◌, ◌≤◌, ◌+◌, ◌⊎◌, inl, inr, Bool, true, false, List, [], ◌∷◌, ◌++◌, refl, arith}
use Rattle.std.specs.Prelude.{◌&&◌, nat_lt}
use Rattle.std.specs.List.{AllByRecursion, list_any}
use Rattle.std.proofs.lemmas.Bool.Decides.{nat_tests}
use Rattle.exif_tiff.specs.Apart.{are_apart, overlap}
use Rattle.exif_tiff.specs.Footprint.{Stretch}
use Rattle.exif_tiff.proofs.Members.{all_append}

-- one ends before the other begins
abbrev pub IsApart : Stretch → Stretch → Type 0
IsApart s t = (s.offset + s.len ≤ t.offset) ⊎ (t.offset + t.len ≤ s.offset)

-- each two stretches of a list are apart
abbrev pub AreApart : List Stretch → Type 0
AreApart [] = Unit {0}
AreApart (s ∷ ts) = AllByRecursion (IsApart s) ts × AreApart ts

-- each of some is apart from each of others
abbrev pub EachApart : List Stretch → List Stretch → Type 0
EachApart ss ts = AllByRecursion (λ s. AllByRecursion (IsApart s) ts) ss

-- if one stretch is apart from another, the other is apart from the one
pub apart_turned : (s t : Stretch) → IsApart s t → IsApart t s
apart_turned s t (inl h) = inr h
apart_turned s t (inr h) = inl h

-- two lists that are apart, and each apart from the other, are apart when joined
pub apart_append : (ss ts : List Stretch) → AreApart ss → AreApart ts → EachApart ss ts → AreApart (ss ++ ts)
apart_append [] ts h k e = k
apart_append (s ∷ ss) ts h k e =
    (all_append (IsApart s) ss ts h.0 e.0, apart_append ss ts h.1 k e.1)

-- what follows for members of either list follows for all
pub each_apart : (P Q : Stretch → Type 0) → ((s t : Stretch) → P s → Q t → IsApart s t)
    → (ss ts : List Stretch) → AllByRecursion P ss → AllByRecursion Q ts → EachApart ss ts
each_apart P Q h [] ts p q = tt
each_apart P Q h (s ∷ ss) ts p q = (one ts q, each_apart P Q h ss ts p.1 q)
  where
    one : (ts : List Stretch) → AllByRecursion Q ts → AllByRecursion (IsApart s) ts
    one [] q = tt
    one (t ∷ ts) q = (h s t p.0 q.0, one ts q.1)

-- where one property gives another, stretches that all have the one all have the other
pub all_weaker : (P Q : Stretch → Type 0) → ((s : Stretch) → P s → Q s) → (ss : List Stretch)
    → AllByRecursion P ss → AllByRecursion Q ss
all_weaker P Q h [] p = tt
all_weaker P Q h (s ∷ ss) p = (h s p.0, all_weaker P Q h ss p.1)

-- ---- the test

no_overlap : (s t : Stretch) → IsApart s t → overlap s t ≡ false
no_overlap s t h = by_tests (nat_lt t.offset (s.offset + s.len)) (nat_lt s.offset (t.offset + t.len)) refl refl h
  where
    by_tests : (a b : Bool) → nat_lt t.offset (s.offset + s.len) ≡ a → nat_lt s.offset (t.offset + t.len) ≡ b
        → IsApart s t → (a && b) ≡ false
    by_tests false b p q h = refl
    by_tests true false p q h = refl
    by_tests true true p q (inl h) = absurd (grind (arith, nat_tests))
    by_tests true true p q (inr h) = absurd (grind (arith, nat_tests))

none_overlap : (s : Stretch) (ts : List Stretch) → AllByRecursion (IsApart s) ts → list_any (overlap s) ts ≡ false
none_overlap s [] h = refl
none_overlap s (t ∷ ts) h = rw (no_overlap s t h.0, none_overlap s ts h.1) refl

-- the test whether stretches are apart says yes where they are
pub apart_computes : (ts : List Stretch) → AreApart ts → are_apart ts ≡ true
apart_computes [] h = refl
apart_computes (t ∷ ts) h = rw (none_overlap t ts h.0, apart_computes ts h.1) refl
