-- Items that are each that of the value at its place in a row.
use Rattle.std.proofs.Common.{◌≡◌, ◌∙◌, ap, sym, subst, refl, ℕ, suc, List, [], ◌∷◌, ◌++◌, ◌<◌, ◌+◌, length, take, arith, append_assoc}
use Rattle.std.proofs.lemmas.List.{length-take, take_more}
use Rattle.std.specs.List.{join_with_byte}
use Rattle.sqlite_value.specs.Order.{Row, column}
use Rattle.sqlite_value.specs.declared.value.Value.{Value}
use Rattle.sqlite_value.specs.declared.value.Value.TheVariants as value
use Rattle.sqlite_value.specs.declared.value.ValueRef.{ValueRef}
use Rattle.sqlite_value.specs.declared.value.ValueRef.TheVariants as ref
use Rattle.sqlite_value.specs.Value.{owned}
use Rattle.std.specs.Prelude.{Option}
use Rattle.exif_catalog_file.specs.Cells.{gap_before}
use Rattle.exif_catalog_file.specs.Shown.{AddsCell, AllOf, IsField, IsShown, Shows}
use Rattle.exif_catalog_file.proofs.Tabs.{join_behind}

-- one more
all_behind : {A : Type 0} (Is : Value → A → Type 0) (vs : Row) (xs : List A) (v : Value) (x : A)
    → AllOf Is vs xs → Is v x → AllOf Is (vs ++ v ∷ []) (xs ++ x ∷ [])
all_behind Is [] [] v x all is = (is, tt)
all_behind Is [] (y ∷ xs) v x all is = absurd all
all_behind Is (w ∷ vs) [] v x all is = absurd all
all_behind Is (w ∷ vs) (y ∷ xs) v x all is = (all.0, all_behind Is vs xs v x all.1 is)

-- the same of the first values of a row
pub all_more : {A : Type 0} (Is : Value → A → Type 0) (row : Row) (i : ℕ) (xs : List A) (x : A)
    → i < length row → AllOf Is (take i row) xs → Is (column row i) x
    → AllOf Is (take (i + 1) row) (xs ++ x ∷ [])
all_more Is row i xs x within all is =
    subst (λ vs. AllOf Is vs (xs ++ x ∷ [])) (sym (take_more row i value.Null within))
    (all_behind Is (take i row) xs (column row i) x all is)

-- there are as many
pub all_count : {A : Type 0} (Is : Value → A → Type 0) (vs : Row) (xs : List A) → AllOf Is vs xs
    → length xs ≡ length vs
all_count Is [] [] all = refl
all_count Is [] (x ∷ xs) all = absurd all
all_count Is (v ∷ vs) [] all = absurd all
all_count Is (v ∷ vs) (x ∷ xs) all = ap suc (all_count Is vs xs all.1)

-- a line with one value more
pub cell_more : (row : Row) (i : ℕ) (old line new : List ℕ) (fields : List (List ℕ))
    → i < length row → AllOf IsField (take i row) fields
    → line ≡ old ++ join_with_byte 9 fields → AddsCell row i line new
    → (more : List (List ℕ)) × AllOf IsField (take (i + 1) row) more
    × (new ≡ old ++ join_with_byte 9 more)
cell_more row i old line new fields within all is cell =
    let f = cell.0 in
    let counted : length fields ≡ i =
    omega (arith, length-take i row, all_count IsField (take i row) fields all) in
    let joined = join_behind fields f in (
      fields ++ f ∷ [],
      all_more IsField row i fields f within all cell.1,
      cell.2 ∙ (ap (λ t. (t ++ gap_before i) ++ f) is
          ∙ (ap (λ n. ((old ++ join_with_byte 9 fields) ++ gap_before n) ++ f) (sym counted)
          ∙ (ap (λ t. t ++ f) (append_assoc old (join_with_byte 9 fields) (gap_before (length fields)))
          ∙ (append_assoc old (join_with_byte 9 fields ++ gap_before (length fields)) f
          ∙ ap (λ t. old ++ t) joined)))),
    )

-- a text that is shown of a value that is borrowed
shown_owned : (v : ValueRef) (text : Option (List ℕ)) → Shows v text → IsShown (owned v) text
shown_owned ref.Null text is = is
shown_owned (ref.Int n) text is = is
shown_owned (ref.Real x) text is = is
shown_owned (ref.Text t) text is = is
shown_owned (ref.Blob b) text is = is

-- the same of a column
pub shown_column : (row : Row) (i : ℕ) (v : ValueRef) (text : Option (List ℕ))
    → owned v ≡ column row i → Shows v text → IsShown (column row i) text
shown_column row i v text same is =
    subst (λ w. IsShown w text) same (shown_owned v text is)
