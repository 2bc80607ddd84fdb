-- Texts behind references, and what is asked with them.
use Rattle.std.proofs.Common.{◌≡◌, ℕ, List, [], ◌∷◌, ◌++◌, Bool, ◌||◌, Option, None, Some, is_some, option_map, refl, ap}
use Rattle.std.proofs.lemmas.List.{length-map}
use Rattle.std.specs.List.{list_any}
use denote.Ref.{Bor}
use Rattle.exif_decisions.specs.Asking.{files_mistake}
use Rattle.exif_files.specs.Names.{name_if}
use Rattle.exif_summary.specs.Choices.{is_any}
use Rattle.exif_summary.specs.declared.choice.Choice.{Choice}
use Rattle.exif_arguments.specs.Choices.{has_condition}
use Rattle.exif_arguments.specs.Given.{texts}
use Rattle.exif_arguments.specs.Requests.{but_last, files_wrong, last_of}
use Rattle.exif_arguments.specs.Views.{choice_seen}

-- the text behind a reference, if there is one
pub name_if-map : (name : Option (Bor (List ℕ))) → name_if name ≡ option_map (λ text. text.now) name
name_if-map None = refl
name_if-map (Some name) = refl

some-map : (text : Option (Bor (List ℕ))) → is_some (option_map (λ t. t.now) text) ≡ is_some text
some-map None = refl
some-map (Some text) = refl

any-texts : (p : List ℕ → Bool) (xs : List (Bor (List ℕ))) → list_any p (texts xs) ≡ list_any (λ x. p x.now) xs
any-texts p [] = refl
any-texts p (x ∷ xs) = ap (λ b. p x.now || b) (any-texts p xs)

-- what is wrong with files, by their names as texts
pub files-wrong : (paths : List (Bor (List ℕ))) (from_input on : Bool) → files_mistake paths from_input on ≡ files_wrong (texts paths) from_input on
files-wrong paths from_input on = simp (length-map, any-texts) refl

-- a condition is one, whatever holds its text
pub has-condition : (choice : Choice) → is_any choice ≡ has_condition (choice_seen choice)
has-condition choice = simp some-map refl

-- the last text
pub last-texts : (words : List (Bor (List ℕ))) (word : Bor (List ℕ)) → last_of (texts (words ++ word ∷ [])) ≡ word.now
last-texts [] word = refl
last-texts (a ∷ []) word = refl
last-texts (a ∷ (b ∷ words)) word = last-texts (b ∷ words) word

-- and those before it
pub but-texts : (words : List (Bor (List ℕ))) (word : Bor (List ℕ)) → but_last (texts (words ++ word ∷ [])) ≡ texts words
but-texts [] word = refl
but-texts (a ∷ []) word = refl
but-texts (a ∷ (b ∷ words)) word = ap (λ rest. a.now ∷ rest) (but-texts (b ∷ words) word)
