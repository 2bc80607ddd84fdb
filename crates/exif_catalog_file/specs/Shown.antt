-- The texts of values that SQLite answers.
use Rattle.std.specs.Prelude.{◌≡◌, ℕ, List, [], ◌∷◌, ◌++◌, codes, Option, Some, None, IsSome, length, map, option_and_then, option_map, slice_get, unwrap_or, ⊤}
use Rattle.std.specs.String.{string_bytes}
use Rattle.std.specs.Fmt.{signed_decimal}
use Rattle.std.specs.List.{join_with_byte}
use Rattle.sqlite_value.specs.Order.{Row, column}
use Rattle.sqlite_value.specs.declared.value.Value.{Value}
use Rattle.sqlite_value.specs.declared.value.Value.TheVariants as value
use Rattle.sqlite_value.specs.declared.value.ValueRef.{ValueRef}
use Rattle.sqlite_value.specs.declared.value.ValueRef.TheVariants as ref
use Rattle.sqlite.specs.Held.{Held, state}
use Rattle.sqlite.specs.Listing.{understood}
use Rattle.sqlite.specs.Outline.{Outline}
use Rattle.sqlite.specs.State.{IsUnchanged}
use Rattle.sqlite.specs.Steps.{Outlines}
use Rattle.sqlite.specs.Store.{Ghosts}
use Rattle.exif_catalog_file.specs.Cells.{gap_before, names_line, tsv_field}
use Rattle.exif_catalog_file.specs.Handing.{HandsEach, Steps}
use Rattle.exif_catalog_file.specs.Text.{text_of}
use Rattle.exif_catalog_file.specs.declared.visiting.PictureRow.{PictureRow}
use Rattle.exif_catalog_file.specs.declared.visiting.Texts.{Texts}

-- No text for NULL, the digits of a whole number, and the bytes of a text as a text. A number with
-- a fraction has some text: std does not say which digits it prints of one.
abbrev pub Shows : ValueRef → Option (List ℕ) → Type 0
Shows ref.Null text = text ≡ None
Shows (ref.Int n) text = text ≡ Some (signed_decimal n)
Shows (ref.Real x) text = IsSome text
Shows (ref.Text t) text = text ≡ Some (text_of t.now)
Shows (ref.Blob b) text = text ≡ Some (text_of b.now)

-- What a value adds to a line between tabs: nothing for NULL, the digits of a whole number, and the
-- bytes of a text or a blob. A number with a fraction adds some text.
abbrev pub Adds : ValueRef → List ℕ → List ℕ → Type 0
Adds ref.Null old new = new ≡ old
Adds (ref.Int n) old new = new ≡ old ++ tsv_field (signed_decimal n)
Adds (ref.Real x) old new = (digits : List ℕ) × (new ≡ old ++ tsv_field digits)
Adds (ref.Text t) old new = new ≡ old ++ tsv_field t.now
Adds (ref.Blob b) old new = new ≡ old ++ tsv_field b.now

-- the same of a value that a row has
abbrev pub IsShown : Value → Option (List ℕ) → Type 0
IsShown value.Null text = text ≡ None
IsShown (value.Int n) text = text ≡ Some (signed_decimal n)
IsShown (value.Real x) text = IsSome text
IsShown (value.Text t) text = text ≡ Some (text_of t)
IsShown (value.Blob b) text = text ≡ Some (text_of b)

-- and what it adds to a line
abbrev pub IsField : Value → List ℕ → Type 0
IsField value.Null field = field ≡ []
IsField (value.Int n) field = field ≡ tsv_field (signed_decimal n)
IsField (value.Real x) field = (digits : List ℕ) × (field ≡ tsv_field digits)
IsField (value.Text t) field = field ≡ tsv_field t
IsField (value.Blob b) field = field ≡ tsv_field b

-- as many items as a row has values, each of them that of the value at its place
abbrev pub AllOf : {A : Type 0} → (Value → A → Type 0) → Row → List A → Type 0
AllOf Is [] [] = ⊤
AllOf Is (v ∷ vs) (x ∷ xs) = Is v x × AllOf Is vs xs
AllOf Is [] (x ∷ xs) = ⊥
AllOf Is (v ∷ vs) [] = ⊥

-- a cell of a line, with the tab before it
abbrev pub AddsCell : Row → ℕ → List ℕ → List ℕ → Type 0
AddsCell row at old new = (field : List ℕ) × IsField (column row at) field
    × (new ≡ (old ++ gap_before at) ++ field)

-- a row as a line, without its end: its values with tabs between them
abbrev pub AddsRow : Row → List ℕ → List ℕ → Type 0
AddsRow row old new = (fields : List (List ℕ)) × AllOf IsField row fields
    × (new ≡ old ++ join_with_byte 9 fields)

-- the text of a column of an answer's row, if there is one
abbrev pub text_at : Texts → ℕ → Option (List ℕ)
text_at row column =
    option_and_then (λ text. option_map string_bytes text) (slice_get row.texts.items column)

-- what is shown of a picture: its path, and the other columns of the answer
abbrev pub texts_of_row : Texts → List (Option (List ℕ))
texts_of_row row =
    Some (unwrap_or (text_at row 0) [])
    ∷ map (text_at row) (1 ∷ 2 ∷ 3 ∷ 4 ∷ 5 ∷ 6 ∷ 7 ∷ 8 ∷ 9 ∷ 10 ∷ [])

-- the fields of a picture's row, in the order of the answer's columns
abbrev pub row_texts : PictureRow → List (Option (List ℕ))
row_texts row =
    Some row.path.now
    ∷ map (λ text. option_map (λ t. t.now) text) (row.date_taken ∷ row.make ∷ row.model
    ∷ row.exposure_time ∷ row.f_number ∷ row.iso ∷ row.focal_length ∷ row.latitude
    ∷ row.longitude ∷ row.orientation ∷ [])

-- what is handed on of a row: its line
abbrev pub HandsLine : {X : Type 0} → (X → List ℕ → X → Type 0) → X → Row → X → Type 0
HandsLine takes old row new = (text : List ℕ) × AddsRow row [] text
    × takes old (text ++ codes "\n") new

-- what is shown of a row: its picture
abbrev pub HandsPicture : {X : Type 0} → (X → List (Option (List ℕ)) → X → Type 0) → X → Row → X
    → Type 0
HandsPicture visits old row new = (texts : Texts)
    × AllOf IsShown row (map (option_map string_bytes) texts.texts.items)
    × visits old (texts_of_row texts) new

-- A query is answered: the line of the columns' names is handed on, then those of the rows.
abbrev pub Answers : {S X : Type 0} → Ghosts S → (X → List ℕ → X → Type 0) → List ℕ → Held S
    → Held S → X → X → ℕ → Type 0
Answers {S} {X} g takes sql old new was is count =
    (columns : Outline) × (begun : Held S) × (named : X)
    × Outlines (understood old.schema sql) columns × IsUnchanged (state g old) (state g begun)
    × takes was (names_line columns.columns ++ codes "\n") named
    × HandsEach g (HandsLine takes) sql begun new named is count

-- so many pictures were shown, one after the other
abbrev pub ShowsEach : {X : Type 0} → (X → List (Option (List ℕ)) → X → Type 0) → X → ℕ → X
    → Type 0
ShowsEach Visits old count new = (rows : List (List (Option (List ℕ))))
    × (count ≡ length rows) × Steps Visits old rows new
