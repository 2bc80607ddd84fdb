-- The members of columns, one column after the other.
use Rattle.std.proofs.Common.{◌≡◌, ℕ, List, [], ◌∷◌, ◌++◌, refl, sym, ap, ◌∙◌, length, take, ◌≤◌, ◌<◌, ◌+◌, get_or}
use Rattle.std.proofs.lemmas.List.{take_more, flat_map_more, take_all, append-nil}
use Rattle.std.proofs.lemmas.List.Concat.{flat_map-append}
use Rattle.std.specs.List.{flat_map}
use Rattle.json.specs.Json.{Json}
use Rattle.json.specs.Token.{Token, key}
use Rattle.json.specs.Tree.{json_tokens}
use Rattle.json.specs.Written.{Written}
use Rattle.exif_summary.specs.declared.columns.Column.{Column}
use Rattle.exif_types.specs.declared.field.Field.{Field}
use Rattle.exif_json.specs.Flat.{column_members, columns_members}
use Rattle.exif_json.specs.Trees.{parts_tokens}

-- the tokens of a column
abbrev pub tokens_for : List Field → Column → List Token
tokens_for fields column = parts_tokens (column_members fields column)

-- the tokens of the first columns were written
pub record HasColumns (fields : List Field) (columns : List Column) (i : ℕ) (start now : Written) : Type 0 where
  pub written : now.tokens ≡ start.tokens ++ flat_map (tokens_for fields) (take i columns)
  pub before : now.before ≡ start.before

-- none at the start
pub no_columns : (fields : List Field) (columns : List Column) (start : Written) → HasColumns fields columns 0 start start
no_columns fields columns start = record { written = sym (append-nil start.tokens); before = refl }

-- one more
pub columns_more : (fields : List Field) (columns : List Column) (i : ℕ) (x y : Column) (start now next : Written)
    → i < length columns → x ≡ get_or columns i y → HasColumns fields columns i start now
    → next.tokens ≡ now.tokens ++ tokens_for fields x → next.before ≡ now.before
    → HasColumns fields columns (i + 1) start next
columns_more fields columns i x y start now next within is so_far written before =
    let f : Column → List Token = tokens_for fields in
    let more : take i columns ++ (x ∷ []) ≡ take (i + 1) columns = sym (take_more columns i y within ∙ ap (λ it. take i columns ++ (it ∷ [])) (sym is)) in
    record {
      written = written ∙ (ap (λ ts. ts ++ f x) so_far.written
          ∙ (flat_map_more f start.tokens (take i columns) x ∙ ap (λ its. start.tokens ++ flat_map f its) more));
      before = before ∙ so_far.before;
    }

-- the tokens of all columns are those of their members
pub tokens_of_columns : (fields : List Field) (columns : List Column) → flat_map (tokens_for fields) columns ≡ parts_tokens (columns_members fields columns)
tokens_of_columns fields [] = refl
tokens_of_columns fields (column ∷ columns) =
    ap (λ ts. tokens_for fields column ++ ts) (tokens_of_columns fields columns)
    ∙ sym (flat_map-append (λ (m : List ℕ × Json). key m.0 ∷ json_tokens m.1) (column_members fields column) (columns_members fields columns))

-- all were written
pub all_columns : (fields : List Field) (columns : List Column) (i : ℕ) (start now : Written)
    → length columns ≤ i → HasColumns fields columns i start now
    → now.tokens ≡ start.tokens ++ parts_tokens (columns_members fields columns)
all_columns fields columns i start now all so_far =
    so_far.written ∙ ap (λ ts. start.tokens ++ ts) (ap (flat_map (tokens_for fields)) (take_all i columns all) ∙ tokens_of_columns fields columns)
