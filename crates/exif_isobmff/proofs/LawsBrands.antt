-- The brands of an `ftyp` are checked as their tree says, and all bytes have a tree.
use Rattle.std.proofs.Common.{◌≡◌, ◌≢◌, ◌⊎◌, inl, inr, subst, ℕ, zero, suc, ◌<◌, ◌≤◌, Bool, true, false, cond, ◌||◌, List, [], ◌∷◌, ◌++◌, length, take, drop, codes, Result, Ok, Err, ap, sym, ◌∙◌, refl, arith, append_assoc, length-append, length-drop}
use Rattle.std.specs.List.{All, list_any}
use Rattle.std.proofs.lemmas.List.Elements.{All-nil, All-cons, All-head, All-tail}
use Rattle.std.specs.Str.{bytes_eq}
use Rattle.std.proofs.lemmas.Slice.Eq.{bytes_eq-Decides}
use Rattle.std.proofs.lemmas.Bool.{cases_lt, lt-ltb, le-ltb}
use Rattle.std.proofs.lemmas.List.{take_at, drop_at, take-append-drop, length-take-le}
use Rattle.exif_types.specs.Refusals.{Refusal}
use Rattle.exif_isobmff.specs.HeifRefusals.{too_small, no_brand}
use Rattle.exif_isobmff.specs.HeifFile.{fours, is_heif_brand, has_heif_brand, brand_checked}
use Rattle.exif_isobmff.specs.FileGrammar.{BrandsTree, known, unknown, short, print_list, IsHeifBrand, IsForeign, BrandsSay, BrandsAreChecked, IsABrands}
use Rattle.exif_isobmff.proofs.FileBoxes.{any_more, any_none}

-- texts that differ are not equal
pub is-not : (name word : List ℕ) → name ≢ word → bytes_eq name word ≡ false
is-not name word h = by (bytes_eq name word) refl
  where
    by : (t : Bool) → bytes_eq name word ≡ t → t ≡ false
    by true e = absurd (h ((bytes_eq-Decides name word).0 e))
    by false e = refl

any-first : (f : List ℕ → Bool) (brand rest : List ℕ) → length brand ≡ 4 → list_any f (fours (brand ++ rest)) ≡ (f brand || list_any f (fours rest))
any-first f brand rest four =
    any_more f (brand ++ rest) (omega (arith, length-append brand rest))
    ∙ ap (λ t. f t || list_any f (fours (drop 4 (brand ++ rest)))) (take_at brand rest 4 four)
    ∙ ap (λ t. f brand || list_any f (fours t)) (drop_at brand rest 4 four)

foreign-brand : (brand : List ℕ) → (IsHeifBrand brand → ⊥) → is_heif_brand brand ≡ false
foreign-brand brand h =
    ap (λ t. t || bytes_eq brand (codes "msf1")) (is-not brand (codes "mif1") (λ e. h (inl e))) ∙ is-not brand (codes "msf1") (λ e. h (inr e))

any-foreign : (brands : List (List ℕ)) (rest : List ℕ) → All IsForeign brands
    → list_any is_heif_brand (fours (print_list brands ++ rest)) ≡ list_any is_heif_brand (fours rest)
any-foreign [] rest h = refl
any-foreign (b ∷ bs) rest h =
    let is = All-head IsForeign b bs h in
    ap (λ t. list_any is_heif_brand (fours t)) (append_assoc b (print_list bs) rest)
    ∙ any-first is_heif_brand b (print_list bs ++ rest) is.four
    ∙ ap (λ t. t || list_any is_heif_brand (fours (print_list bs ++ rest))) (foreign-brand b is.foreign)
    ∙ any-foreign bs rest (All-tail IsForeign b bs h)

heif-four : (brand : List ℕ) → IsHeifBrand brand → (length brand ≡ 4) × (is_heif_brand brand ≡ true)
heif-four brand (inl e) = (ap (λ (t : List ℕ). length t) e, ap is_heif_brand e)
heif-four brand (inr e) = (ap (λ (t : List ℕ). length t) e, ap is_heif_brand e)

brands-checked : (front rest : List ℕ) (t : Bool) → length front ≡ 8 → list_any is_heif_brand (fours rest) ≡ t → brand_checked (front ++ rest) ≡ cond t (Ok tt) (Err no_brand)
brands-checked front rest t eight e =
    ap (λ b. cond b (Err too_small) (cond (has_heif_brand (front ++ rest)) (Ok tt) (Err no_brand))) (le-ltb (length (front ++ rest)) 8 (omega (arith, length-append front rest)))
    ∙ ap (λ r. by_brand (list_any is_heif_brand (fours r))) (drop_at front rest 8 eight)
    ∙ ap by_brand e
  where
    by_brand : Bool → Result (Unit {0}) Refusal
    by_brand t = cond t (Ok tt) (Err no_brand)

-- brands are checked as their tree says
pub brands_are_checked : (t : BrandsTree) → BrandsAreChecked t
brands_are_checked (known front brands brand rest) h =
    let is = heif-four brand h.2 in
    brands-checked front (print_list brands ++ (brand ++ rest)) true h.0
    (any-foreign brands (brand ++ rest) h.1 ∙ any-first is_heif_brand brand rest is.0 ∙ ap (λ t. t || list_any is_heif_brand (fours rest)) is.1)
brands_are_checked (unknown front brands rest) h =
    brands-checked front (print_list brands ++ rest) false h.0 (any-foreign brands rest h.1 ∙ any_none is_heif_brand rest h.2)
brands_are_checked (short bytes) h = ap (λ b. cond b (Err too_small) (cond (has_heif_brand bytes) (Ok tt) (Err no_brand))) (lt-ltb (length bytes) 8 h)

-- brands, and what ends them, behind eight bytes
abbrev Listed : List ℕ → List ℕ → Type 0
Listed front text =
    ((brands : List (List ℕ)) × (brand rest : List ℕ) × All IsForeign brands × IsHeifBrand brand × (print_list brands ++ (brand ++ rest) ≡ text))
    ⊎ ((brands : List (List ℕ)) × (rest : List ℕ) × All IsForeign brands × (length rest < 4) × (print_list brands ++ rest ≡ text))

listed-more : (front brand text : List ℕ) → IsForeign brand → Listed front text → Listed front (brand ++ text)
listed-more front brand text is (inl k) =
    inl (brand ∷ k.0, k.1, k.2, All-cons IsForeign brand k.0 is k.3, k.4, append_assoc brand (print_list k.0) (k.1 ++ k.2) ∙ ap (λ r. brand ++ r) k.5)
listed-more front brand text is (inr k) =
    inr (brand ∷ k.0, k.1, All-cons IsForeign brand k.0 is k.2, k.3, append_assoc brand (print_list k.0) k.1 ∙ ap (λ r. brand ++ r) k.4)

heif-or : (brand : List ℕ) → IsHeifBrand brand ⊎ (IsHeifBrand brand → ⊥)
heif-or brand = by (bytes_eq brand (codes "mif1")) (bytes_eq brand (codes "msf1")) refl refl
  where
    unlike : (word : List ℕ) → bytes_eq brand word ≡ false → brand ≢ word
    unlike word e k = let c : true ≡ false = sym ((bytes_eq-Decides brand word).1 k) ∙ e in cc

    neither : brand ≢ codes "mif1" → brand ≢ codes "msf1" → IsHeifBrand brand → ⊥
    neither n m (inl e) = n e
    neither n m (inr e) = m e

    by : (a b : Bool) → bytes_eq brand (codes "mif1") ≡ a → bytes_eq brand (codes "msf1") ≡ b → IsHeifBrand brand ⊎ (IsHeifBrand brand → ⊥)
    by true b p q = inl (inl ((bytes_eq-Decides brand (codes "mif1")).0 p))
    by false true p q = inl (inr ((bytes_eq-Decides brand (codes "msf1")).0 q))
    by false false p q = inr (neither (unlike (codes "mif1") p) (unlike (codes "msf1") q))

listed-within : (n : ℕ) (front text : List ℕ) → length text < n → Listed front text
listed-within zero front text h = absurd (omega arith)
listed-within (suc n) front text h = by (cases_lt (length text) 4) (listed-within n front (drop 4 text))
  where
    whole : take 4 text ++ drop 4 text ≡ text
    whole = take-append-drop 4 text

    first : IsHeifBrand (take 4 text) ⊎ (IsHeifBrand (take 4 text) → ⊥) → 4 ≤ length text → (length (drop 4 text) < n → Listed front (drop 4 text)) → Listed front text
    first (inl is) le ih = inl ([], take 4 text, drop 4 text, All-nil IsForeign, is, take-append-drop 4 text)
    first (inr no_heif) le ih =
        subst (λ t. Listed front t) (take-append-drop 4 text)
        (listed-more front (take 4 text) (drop 4 text) (record { four = length-take-le 4 text le; foreign = no_heif }) (ih (omega (arith, length-drop 4 text))))

    by : (length text < 4) ⊎ (4 ≤ length text) → (length (drop 4 text) < n → Listed front (drop 4 text)) → Listed front text
    by (inl lt) ih = inr ([], text, All-nil IsForeign, lt, refl)
    by (inr le) ih = first (heif-or (take 4 text)) le ih

-- all bytes are those of a tree of brands
pub is_a_brands : (bytes : List ℕ) → IsABrands bytes
is_a_brands bytes = by (cases_lt (length bytes) 8)
  where
    of : 8 ≤ length bytes → Listed (take 8 bytes) (drop 8 bytes) → IsABrands bytes
    of le (inl k) = (
      known (take 8 bytes) k.0 k.1 k.2,
      (length-take-le 8 bytes le, k.3, k.4),
      ap (λ t. take 8 bytes ++ t) k.5 ∙ take-append-drop 8 bytes,
    )
    of le (inr k) = (
      unknown (take 8 bytes) k.0 k.1,
      (length-take-le 8 bytes le, k.2, k.3),
      ap (λ t. take 8 bytes ++ t) k.4 ∙ take-append-drop 8 bytes,
    )

    by : (length bytes < 8) ⊎ (8 ≤ length bytes) → IsABrands bytes
    by (inl lt) = (short bytes, lt, refl)
    by (inr le) = of le (listed-within (suc (length (drop 8 bytes))) (take 8 bytes) (drop 8 bytes) (omega arith))

-- what the tree says is what is checked
pub said-checked : (body : List ℕ) (r : Result (Unit {0}) Refusal) → BrandsSay body r → brand_checked body ≡ r
said-checked body r t = ap brand_checked (sym t.2) ∙ brands_are_checked t.0 t.1 ∙ t.3

-- what a check answers is what a tree says
pub checked-said : (body : List ℕ) (r : Result (Unit {0}) Refusal) → brand_checked body ≡ r → BrandsSay body r
checked-said body r e = let t = is_a_brands body in (t.0, t.1, t.2, sym (brands_are_checked t.0 t.1) ∙ ap brand_checked t.2 ∙ e)
