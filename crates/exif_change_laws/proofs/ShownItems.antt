-- Lists of items between commas and spaces.
use Rattle.std.proofs.Common.{◌≡◌, ◌∙◌, ℕ, List, [], ◌∷◌, ◌++◌, map, Option, Some, codes, flat_map, option_and_then, option_map, append_assoc, append-nil, sym, ap}
use Rattle.exif_text.specs.Plain.{listed}
use Rattle.exif_assign.specs.Texts.{items_behind, items_in, not_empty, with_word}
use Rattle.exif_change_laws.proofs.ShownDigits.{IsNotEmpty, Lacks}

-- a text spells an item: it is one word
pub record Spells {A : Type 0} (spelled : List ℕ → Option A) (text : List ℕ) (x : A) : Type 0 where
  pub reads : spelled text ≡ Some x
  pub commas : Lacks 44 text
  pub spaces : Lacks 32 text
  pub some : IsNotEmpty text

-- each item of a list is what its text spells
abbrev pub AllSpell : {A B : Type 0} → (List ℕ → Option B) → (A → List ℕ) → (A → B) → List A → Type 0
AllSpell spelled text made [] = Unit {0}
AllSpell spelled text made (x ∷ xs) =
    Spells spelled (text x) (made x) × AllSpell spelled text made xs

-- a word is read on
word_read : {A : Type 0} (spelled : List ℕ → Option A) (text rest word : List ℕ) (items : List A)
    → Lacks 44 text → Lacks 32 text
    → items_behind spelled (text ++ rest) items word ≡ items_behind spelled rest items (word ++ text)
word_read spelled [] rest word items c s = ap (items_behind spelled rest items) (sym (append-nil word))
word_read spelled (x ∷ xs) rest word items c s =
    rw (c.0, s.0)
    (word_read spelled xs rest (word ++ x ∷ []) items c.1 s.1
    ∙ ap (items_behind spelled rest items) (append_assoc word (x ∷ []) xs))

-- a word at its end
word_ends : {A : Type 0} (spelled : List ℕ → Option A) (text : List ℕ) (x : A) (items : List A)
    → Spells spelled text x → with_word spelled items text ≡ Some (items ++ x ∷ [])
word_ends spelled [] x items h = absurd h.some
word_ends spelled (byte ∷ bytes) x items h = ap (option_map (λ item. items ++ item ∷ [])) h.reads

-- the items behind the first
items_read : {A B : Type 0} (spelled : List ℕ → Option B) (text : A → List ℕ) (made : A → B)
    (xs : List A) (items so_far : List B) (word : List ℕ)
    → with_word spelled items word ≡ Some so_far → AllSpell spelled text made xs
    → items_behind spelled (flat_map (λ y. codes ", " ++ text y) xs) items word
    ≡ Some (so_far ++ map made xs)
items_read spelled text made [] items so_far word e h =
    e ∙ ap (λ those. Some those) (sym (append-nil so_far))
items_read {A} {B} spelled text made (x ∷ xs) items so_far word e h =
    let rest = flat_map (λ (y : A). codes ", " ++ text y) xs in
    ap (option_and_then (λ (those : List B). items_behind spelled (32 ∷ (text x ++ rest)) those [])) e
    ∙ (word_read spelled (text x) rest [] so_far h.0.commas h.0.spaces
    ∙ (items_read spelled text made xs so_far (so_far ++ made x ∷ []) (text x)
    (word_ends spelled (text x) (made x) so_far h.0) h.1
    ∙ ap (λ those. Some those) (append_assoc so_far (made x ∷ []) (map made xs))))

-- a list of items is read of its text
pub list_read : {A B : Type 0} (spelled : List ℕ → Option B) (text : A → List ℕ) (made : A → B)
    (x : A) (xs : List A) → AllSpell spelled text made (x ∷ xs)
    → items_in spelled (listed text (x ∷ xs)) ≡ Some (map made (x ∷ xs))
list_read {A} {B} spelled text made x xs h =
    let rest = flat_map (λ (y : A). codes ", " ++ text y) xs in
    ap (option_and_then not_empty)
    (word_read spelled (text x) rest [] [] h.0.commas h.0.spaces
    ∙ items_read spelled text made xs [] (made x ∷ []) (text x)
    (word_ends spelled (text x) (made x) [] h.0) h.1)
