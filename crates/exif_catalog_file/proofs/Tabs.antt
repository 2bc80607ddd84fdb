-- Values with tabs between them.
use Rattle.std.proofs.Common.{◌≡◌, ◌∙◌, ap, sym, refl, ℕ, suc, List, [], ◌∷◌, ◌++◌, ◌<◌, ◌+◌, length, take, get_or, map, arith, append_assoc}
use Rattle.std.proofs.lemmas.Bool.Decides.{nat_tests}
use Rattle.std.proofs.lemmas.List.{length-take, length-map, map-append, take_more}
use Rattle.std.specs.List.{join_with_byte}
use Rattle.exif_catalog_file.specs.Cells.{gap_before, names_line, tsv_field}

-- what is before a value that is not the first
later_gap : (n : ℕ) → gap_before (suc n) ≡ 9 ∷ []
later_gap n = grind (arith, nat_tests)

-- one value behind others
pub join_behind : (fs : List (List ℕ)) (f : List ℕ)
    → (join_with_byte 9 fs ++ gap_before (length fs)) ++ f ≡ join_with_byte 9 (fs ++ f ∷ [])
join_behind [] f = refl
join_behind (x ∷ []) f = append_assoc x (9 ∷ []) f
join_behind (x ∷ y ∷ fs) f =
    let rest = join_with_byte 9 (y ∷ fs) in
    let gap = gap_before (suc (length fs)) in
    ap (λ g. ((x ++ (9 ∷ rest)) ++ g) ++ f) (later_gap (suc (length fs)) ∙ sym (later_gap (length fs)))
    ∙ (ap (λ t. t ++ f) (append_assoc x (9 ∷ rest) gap)
    ∙ (append_assoc x ((9 ∷ rest) ++ gap) f
    ∙ ap (λ t. x ++ (9 ∷ t)) (join_behind (y ∷ fs) f)))

-- one name more
pub names_more : (names : List (List ℕ)) (i : ℕ) (d : List ℕ) → i < length names
    → (join_with_byte 9 (map tsv_field (take i names)) ++ gap_before i) ++ tsv_field (get_or names i d)
    ≡ join_with_byte 9 (map tsv_field (take (i + 1) names))
names_more names i d within =
    let counted : length (map tsv_field (take i names)) ≡ i =
    omega (arith, length-take i names, length-map (take i names) tsv_field) in
    ap (λ n. (join_with_byte 9 (map tsv_field (take i names)) ++ gap_before n) ++ tsv_field (get_or names i d)) (sym counted)
    ∙ (join_behind (map tsv_field (take i names)) (tsv_field (get_or names i d))
    ∙ (ap (join_with_byte 9) (sym (map-append tsv_field (take i names) (get_or names i d ∷ [])))
    ∙ ap (λ t. join_with_byte 9 (map tsv_field t)) (sym (take_more names i d within))))

-- a line with one name more
pub line_more : (names : List (List ℕ)) (i : ℕ) (old line gapped new name : List ℕ) → i < length names
    → line ≡ old ++ names_line (take i names) → gapped ≡ line ++ gap_before i
    → new ≡ gapped ++ tsv_field name → name ≡ get_or names i name
    → new ≡ old ++ names_line (take (i + 1) names)
line_more names i old line gapped new name within line_is gapped_is new_is name_is =
    let before = names_line (take i names) in
    let gap = gap_before i in
    let field = tsv_field name in
    new_is ∙ (ap (λ t. t ++ field) (gapped_is ∙ ap (λ t. t ++ gap) line_is)
    ∙ (ap (λ t. t ++ field) (append_assoc old before gap)
    ∙ (append_assoc old (before ++ gap) field
    ∙ (ap (λ t. old ++ ((before ++ gap) ++ tsv_field t)) name_is
    ∙ ap (λ t. old ++ t) (names_more names i name within)))))
