-- Where a text that begins as a form says may be cut.
use Rattle.std.proofs.Common.{◌≡◌, ℕ, zero, suc, ◌<◌, ◌≤◌, List, [], ◌∷◌, length, Bool, true, false, ◌&&◌, nat_lt, refl, arith}
use Rattle.std.proofs.lemmas.Grind.{common_steps}
use Rattle.std.specs.List.{list_all}
use Rattle.std.specs.Str.{IsCharBoundary}
use Rattle.exif_page.specs.Dates.{fits, fits_byte}

front : (a b : Bool) → (a && b) ≡ true → a ≡ true
front true b h = refl
front false b h = h

back : (a b : Bool) → (a && b) ≡ true → b ≡ true
back true b h = h
back false b h = cc

-- a form of ASCII
abbrev is_ascii_form : List ℕ → Bool
is_ascii_form forms = list_all (λ form. nat_lt form 128) forms

-- a byte that fits a form of ASCII is ASCII
small : (form byte : ℕ) → nat_lt form 128 ≡ true → fits_byte form byte ≡ true → byte < 128
small form byte h k = grind (arith, common_steps)

-- each place up to the end of the form is one between two characters
pub boundary : (forms text : List ℕ) (i : ℕ) → is_ascii_form forms ≡ true
    → fits forms text ≡ true → i ≤ length forms → IsCharBoundary text i
boundary [] [] i a h k = (k, λ below big. absurd (omega arith))
boundary [] (byte ∷ text) zero a h k =
    let s : byte < 128 = grind (arith, common_steps) in
    (omega arith, λ below big. omega arith)
boundary [] (byte ∷ text) (suc i) a h k = absurd (omega arith)
boundary (form ∷ forms) [] i a h k = cc
boundary (form ∷ forms) (byte ∷ text) zero a h k =
    let s : byte < 128 =
    small form byte (front (nat_lt form 128) (is_ascii_form forms) a)
    (front (fits_byte form byte) (fits forms text) h) in
    (omega arith, λ below big. omega arith)
boundary (form ∷ forms) (byte ∷ text) (suc i) a h k =
    let rest : IsCharBoundary text i =
    boundary forms text i (back (nat_lt form 128) (is_ascii_form forms) a)
    (back (fits_byte form byte) (fits forms text) h) (omega arith) in
    (omega (arith, rest.0), λ below big. rest.1 (omega arith) big)
