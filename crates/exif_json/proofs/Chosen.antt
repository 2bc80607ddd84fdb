-- Fields that are written where they have one of some tags.
use Rattle.std.proofs.Common.{◌≡◌, ℕ, Bool, true, false, List, [], ◌∷◌, ◌++◌, refl, sym, ap, ◌∙◌, length, filter, if◌then◌else◌, take, ◌≤◌, ◌<◌, ◌+◌, arith, get_or}
use Rattle.std.proofs.lemmas.List.{take_more, flat_map_more, take_all, append-nil}
use Rattle.std.specs.List.{flat_map}
use Rattle.json.specs.Token.{Token}
use Rattle.json.specs.Tree.{json_tokens}
use Rattle.json.specs.Written.{Written}
use Rattle.exif_types.specs.declared.field.Field.{Field}
use Rattle.exif_types.specs.declared.tag.Tag.{Tag}
use Rattle.exif_json.specs.Fields.{chosen_tokens, field_json, has_one_of}
use Rattle.exif_json.proofs.Prints.{HasListed}

-- the tokens of those of the first fields that are chosen were written
pub record HasChosen (tags : List Tag) (fields items : List Field) (i : ℕ) (start now : Written) : Type 0 where
  pub written : now.tokens ≡ start.tokens ++ flat_map (chosen_tokens tags fields) (take i items)
  pub before : now.before ≡ start.before

-- none at the start
pub chosen_none : (tags : List Tag) (fields items : List Field) (start : Written) → HasChosen tags fields items 0 start start
chosen_none tags fields items start = record { written = sym (append-nil start.tokens); before = refl }

-- one more
pub chosen_more : (tags : List Tag) (fields items : List Field) (i : ℕ) (x y : Field) (start now next : Written)
    → i < length items → x ≡ get_or items i y → HasChosen tags fields items i start now
    → next.tokens ≡ now.tokens ++ chosen_tokens tags fields x → next.before ≡ now.before
    → HasChosen tags fields items (i + 1) start next
chosen_more tags fields items i x y start now next within is so_far written before =
    let f : Field → List Token = chosen_tokens tags fields in
    let more : take i items ++ (x ∷ []) ≡ take (i + 1) items = sym (take_more items i y within ∙ ap (λ it. take i items ++ (it ∷ [])) (sym is)) in
    record {
      written = written ∙ (ap (λ ts. ts ++ f x) so_far.written
          ∙ (flat_map_more f start.tokens (take i items) x ∙ ap (λ its. start.tokens ++ flat_map f its) more));
      before = before ∙ so_far.before;
    }

-- one field before those that are chosen of others
by_choice : (b : Bool) (json : Field → List Token) (x : Field) (xs : List Field)
    → (if b then json x else []) ++ flat_map json xs ≡ flat_map json (if b then x ∷ xs else xs)
by_choice true json x xs = refl
by_choice false json x xs = refl

-- the tokens of all fields are those of the fields that are chosen
tokens_of_chosen : (tags : List Tag) (fields items : List Field)
    → flat_map (chosen_tokens tags fields) items ≡ flat_map (λ x. json_tokens (field_json fields x)) (filter (has_one_of tags) items)
tokens_of_chosen tags fields [] = refl
tokens_of_chosen tags fields (x ∷ xs) =
    ap (λ ts. chosen_tokens tags fields x ++ ts) (tokens_of_chosen tags fields xs)
    ∙ by_choice (has_one_of tags x) (λ y. json_tokens (field_json fields y)) x (filter (has_one_of tags) xs)

-- all of them
pub chosen_listed : (tags : List Tag) (fields items : List Field) (i : ℕ) (start now : Written) → length items ≤ i
    → HasChosen tags fields items i start now
    → HasListed (field_json fields) (filter (has_one_of tags) items) (length (filter (has_one_of tags) items)) start now
chosen_listed tags fields items i start now all so_far =
    let those : List Field = filter (has_one_of tags) items in
    let f : Field → List Token = λ x. json_tokens (field_json fields x) in
    record {
      written = so_far.written ∙ ap (λ ts. start.tokens ++ ts)
          (ap (flat_map (chosen_tokens tags fields)) (take_all i items all)
          ∙ (tokens_of_chosen tags fields items ∙ ap (flat_map f) (sym (take_all (length those) those (omega arith)))));
      before = so_far.before;
    }
