-- Words as they are read, one after the other.
use Rattle.std.proofs.Common.{◌≡◌, ◌∙◌, sym, ap, ℕ, List, [], ◌∷◌, ◌++◌, map}
use Rattle.std.proofs.lemmas.List.{map-append}
use Rattle.std.specs.Global.{Global}
use Rattle.std.specs.String.{string_bytes}
use Rattle.std.specs.declared.string.String.{String}
use Rattle.exif_decisions.specs.Escaping.{readable}

-- one word more
words_more : (words : List (String Global)) (given : List (List ℕ)) (word : String Global) (bytes : List ℕ)
    → map string_bytes words ≡ map readable given → string_bytes word ≡ readable bytes
    → map string_bytes (words ++ word ∷ []) ≡ map readable (given ++ bytes ∷ [])
words_more words given word bytes h e =
    map-append string_bytes words (word ∷ [])
    ∙ ap (λ t. t ++ string_bytes word ∷ []) h
    ∙ ap (λ t. map readable given ++ t ∷ []) e
    ∙ sym (map-append readable given (bytes ∷ []))

-- the words are those that were given, and so they are with one more
pub words_next : (words : List (String Global)) (given : List (List ℕ)) (word : String Global) (bytes : List ℕ)
    → map string_bytes words ≡ map readable given → string_bytes word ≡ readable bytes
    → (all : List (List ℕ)) × (map string_bytes (words ++ word ∷ []) ≡ map readable all)
words_next words given word bytes h e = (given ++ bytes ∷ [], words_more words given word bytes h e)
