-- Names that are looked up one after the other.
use Rattle.std.proofs.Common.{◌≡◌, ◌<◌, ◌+◌, ◌∙◌, ℕ, suc, Bool, true, false, List, ◌∷◌, length, get_or, drop, drop-cons, map, Some, if◌then◌else◌, sym, ap, arith}
use Rattle.std.proofs.lemmas.Bool.{false_from_ne_true}
use Rattle.std.proofs.lemmas.Slice.Eq.{bytes_eq-Decides}
use Rattle.std.specs.Char.{to_ascii_lowercase}
use Rattle.std.specs.List.{find}
use Rattle.std.specs.Str.{str_eq_ignore_ascii_case, str_to_ascii_lowercase}
use Rattle.exif_iptc.specs.RowViews.{row_view}
use Rattle.exif_iptc.specs.declared.names.Row.{Row}
use Rattle.exif_iptc.specs.Named.{has_name}

-- names that differ in nothing but case
pub same_name : (xs ys : List ℕ) → map to_ascii_lowercase xs ≡ map to_ascii_lowercase ys → str_eq_ignore_ascii_case xs ys ≡ true
same_name xs ys same = (bytes_eq-Decides (str_to_ascii_lowercase xs) (str_to_ascii_lowercase ys)).1 same

true_is_not_false : (let b : Bool = false in b ≡ true) → ⊥
true_is_not_false e = cc

-- and names that differ in more
pub other_name : (xs ys : List ℕ) → (map to_ascii_lowercase xs ≡ map to_ascii_lowercase ys → (let b : Bool = false in b ≡ true)) → str_eq_ignore_ascii_case xs ys ≡ false
other_name xs ys other =
    false_from_ne_true (str_eq_ignore_ascii_case xs ys) (λ e. true_is_not_false (other ((bytes_eq-Decides (str_to_ascii_lowercase xs) (str_to_ascii_lowercase ys)).0 e)))

-- what is left of a list, by its first
left_at : {X : Type 0} (xs : List X) (i : ℕ) (d : X) → i < length xs → drop i xs ≡ get_or xs i d ∷ drop (i + 1) xs
left_at xs i d h =
    let next : i + 1 ≡ suc i = omega arith in
    rw next (drop-cons xs i d h)

-- the row that has the name
pub row_found : (name : List ℕ) (rows : List Row) (i : ℕ) (d : Row) → i < length rows
    → str_eq_ignore_ascii_case (get_or rows i d).name.now name ≡ true
    → Some (row_view (get_or rows i d)) ≡ find (has_name name) (map row_view (drop i rows))
row_found name rows i d h e =
    sym (ap (λ those. find (has_name name) (map row_view those)) (left_at rows i d h)
    ∙ ap (λ b. if b then Some (row_view (get_or rows i d)) else find (has_name name) (map row_view (drop (i + 1) rows))) e)

-- a row that does not
pub row_passed : (name : List ℕ) (rows : List Row) (i : ℕ) (d : Row) → i < length rows
    → str_eq_ignore_ascii_case (get_or rows i d).name.now name ≡ false
    → find (has_name name) (map row_view (drop (i + 1) rows)) ≡ find (has_name name) (map row_view (drop i rows))
row_passed name rows i d h e =
    sym (ap (λ those. find (has_name name) (map row_view those)) (left_at rows i d h)
    ∙ ap (λ b. if b then Some (row_view (get_or rows i d)) else find (has_name name) (map row_view (drop (i + 1) rows))) e)
