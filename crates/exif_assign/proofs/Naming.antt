-- Rows that are looked up by their name, and numbers without their minus.
use Rattle.std.proofs.Common.{◌≡◌, ◌≢◌, ◌<◌, ◌+◌, ◌==◌, ◌∙◌, ℕ, suc, Bool, true, false, List, [], ◌∷◌, length, get_or, drop, drop-cons, map, Option, Some, None, MatchOption, Bor, if◌then◌else◌, refl, sym, ap, arith}
use Rattle.std.specs.List.{find}
use Rattle.std.specs.Str.{bytes_eq}
use Rattle.exif_table.specs.View.{row_view}
use Rattle.exif_table.specs.declared.row.Row.{Row}
use Rattle.std.specs.Option.{option_map}
use Rattle.std.proofs.lemmas.Bool.Decides.{nat_tests}
use Rattle.exif_assign.specs.Assigning.{has_name, without_minus}

-- the rows that are left, by their first
rows_at : (rows : List Row) (i : ℕ) (d : Row) → i < length rows → drop i rows ≡ get_or rows i d ∷ drop (i + 1) rows
rows_at rows i d h =
    let next : i + 1 ≡ suc i = omega arith in
    rw next (drop-cons rows i d h)

pub row_found : (name : List ℕ) (rows : List Row) (i : ℕ) (d : Row) → i < length rows
    → bytes_eq (get_or rows i d).name.now name ≡ true
    → Some (row_view (get_or rows i d)) ≡ find (has_name name) (map row_view (drop i rows))
row_found name rows i d h e =
    sym (ap (λ those. find (has_name name) (map row_view those)) (rows_at rows i d h)
    ∙ ap (λ b. if b then Some (row_view (get_or rows i d)) else find (has_name name) (map row_view (drop (i + 1) rows))) e)

pub row_passed : (name : List ℕ) (rows : List Row) (i : ℕ) (d : Row) → i < length rows
    → bytes_eq (get_or rows i d).name.now name ≡ false
    → find (has_name name) (map row_view (drop (i + 1) rows)) ≡ find (has_name name) (map row_view (drop i rows))
row_passed name rows i d h e =
    sym (ap (λ those. find (has_name name) (map row_view those)) (rows_at rows i d h)
    ∙ ap (λ b. if b then Some (row_view (get_or rows i d)) else find (has_name name) (map row_view (drop (i + 1) rows))) e)

-- a byte and the bytes behind it
cut_at_minus : (byte : ℕ) (bytes : List ℕ) (is_minus : Bool) → (byte == 45) ≡ is_minus
    → ((rest : List ℕ) → byte ∷ bytes ≢ 45 ∷ rest) → None ≡ without_minus (byte ∷ bytes)
cut_at_minus byte bytes true e h = absurd (h bytes (ap (λ n. n ∷ bytes) (grind (arith, nat_tests))))
cut_at_minus byte bytes false e h = rw e

-- the clause of `strip_prefix` at a minus
pub minus_stripped : (text : List ℕ) (found : Option (Bor (List ℕ)))
    → MatchOption found ((rest : List ℕ) → text ≢ 45 ∷ rest) (λ rest. text ≡ 45 ∷ rest.now)
    → option_map (λ rest. rest.now) found ≡ without_minus text
minus_stripped [] None h = refl
minus_stripped [] (Some rest) h = cc
minus_stripped (byte ∷ bytes) None h = cut_at_minus byte bytes (byte == 45) refl h
minus_stripped (byte ∷ bytes) (Some rest) h = sym (ap without_minus h)
