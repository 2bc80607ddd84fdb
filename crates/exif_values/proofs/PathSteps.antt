-- The items of an array, where no property has its path.
use Rattle.std.proofs.Common.{◌≡◌, ◌==◌, ◌∙◌, ℕ, Bool, true, List, [], ◌∷◌, length, map, take, refl, sym, ap, arith}
use Rattle.std.proofs.lemmas.Bool.Decides.{nat_tests}
use Rattle.std.proofs.lemmas.List.{take-map}
use Rattle.exif_values.specs.Paths.{first_or, from_path, item_path, items_of, properties_at, run_len}
use Rattle.exif_xmp.specs.Properties.{property_view}
use Rattle.exif_xmp.specs.declared.property.Property.{Property}

-- nothing is in a list that is empty by its test
pub nothing_left : (xs : List Property) (b : Bool) → b ≡ (length xs == 0) → b ≡ true → xs ≡ []
nothing_left [] b is same = refl
nothing_left (x ∷ xs) b is same = absurd (grind (arith, nat_tests))

pub chosen_items : (path first : List ℕ) (ps from items : List Property) (len : ℕ)
    → from ≡ [] → map property_view from ≡ from_path path (map property_view ps)
    → first ≡ item_path path 1 → map property_view items ≡ from_path first (map property_view ps)
    → len ≡ run_len path 1 (map property_view items)
    → map property_view (take len items) ≡ properties_at path (map property_view ps)
chosen_items path first ps from items len none is named start counted =
    let nothing : from_path path (map property_view ps) ≡ [] = sym is ∙ ap (map property_view) none in
    let there : map property_view items ≡ from_path (item_path path 1) (map property_view ps) = start ∙ ap (λ name. from_path name (map property_view ps)) named in
    let taken : map property_view (take len items) ≡ items_of path (from_path (item_path path 1) (map property_view ps)) =
    sym (take-map property_view len items) ∙ (ap (λ n. take n (map property_view items)) counted ∙ ap (λ xs. take (run_len path 1 xs) xs) there) in
    taken ∙ sym (ap (λ xs. first_or xs (items_of path (from_path (item_path path 1) (map property_view ps)))) nothing)
