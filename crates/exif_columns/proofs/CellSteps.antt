-- Cells that are added one after the other.
use Rattle.std.proofs.Common.{◌≡◌, ℕ, List, [], ◌∷◌, ◌++◌, ◌≤◌, ◌<◌, ◌+◌, Result, Ok, Err, OnOk, length, map, take, get_or, sym, ap, ◌∙◌}
use Rattle.std.proofs.lemmas.List.{map_more, take_all}
use Rattle.csv.specs.Records.{Row, fields_of, partial_of}
use Rattle.exif_columns.specs.Rows.{Adds}
use Rattle.exif_types.specs.declared.tag.Tag.{Tag}

-- one cell was added, whose bytes are said in another way
pub adds_one : {A E : Type 0} (r : Result A E) (old new : Row) (bytes cell : List ℕ) → bytes ≡ cell
    → OnOk r (fields_of new ≡ fields_of old ++ ((partial_of old ++ bytes) ∷ []))
    → OnOk r (partial_of new ≡ []) → Adds r old new (cell ∷ [])
adds_one (Ok a) old new bytes cell same fields partial = record {
  fields = λ none. fields ∙ ap (λ front. fields_of old ++ ((front ++ bytes) ∷ [])) none
      ∙ ap (λ it. fields_of old ++ (it ∷ [])) same;
  partial = partial;
}
adds_one (Err e) old new bytes cell same fields partial = record { fields = tt; partial = tt }

-- a first cell, and those of the tags so far
pub record HasCells (first : List ℕ) (cell : Tag → List ℕ) (tags : List Tag) (i : ℕ) (now : Row) : Type 0 where
  pub fields : fields_of now ≡ first ∷ map cell (take i tags)
  pub partial : partial_of now ≡ []

-- one more
pub cells_more : {A E : Type 0} {a : A} (first : List ℕ) (cell : Tag → List ℕ) (tags : List Tag) (i : ℕ) (x d : Tag) (now next : Row)
    → i < length tags → x ≡ get_or tags i d → HasCells first cell tags i now
    → (let r : Result A E = Ok a in Adds r now next (cell x ∷ [])) → HasCells first cell tags (i + 1) next
cells_more first cell tags i x d now next within is so_far adds = record {
  fields = adds.fields so_far.partial ∙ (ap (λ cells. cells ++ (cell x ∷ [])) so_far.fields
      ∙ ap (λ cells. first ∷ cells) (ap (λ it. map cell (take i tags) ++ (cell it ∷ [])) is ∙ sym (map_more cell tags i d within)));
  partial = adds.partial;
}

-- all of them
pub cells_all : (first : List ℕ) (cell : Tag → List ℕ) (tags : List Tag) (i : ℕ) (now : Row) → length tags ≤ i
    → HasCells first cell tags i now → fields_of now ≡ first ∷ map cell tags
cells_all first cell tags i now all so_far = so_far.fields ∙ ap (λ these. first ∷ map cell these) (take_all i tags all)
