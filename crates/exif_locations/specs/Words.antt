-- Bytes compared with the words of a table, and numbers with those of one.
use Rattle.std.specs.Prelude.{ℕ, ◌-◌, ◌==◌, Bool, List, length, take, drop}
use Rattle.std.specs.List.{list_any}
use Rattle.std.specs.Str.{bytes_eq}

-- bytes begin with a word
unfoldable pub begins_with : List ℕ → List ℕ → Bool
begins_with word bytes = bytes_eq (take (length word) bytes) word

-- bytes end with a word
abbrev pub ends_with : List ℕ → List ℕ → Bool
ends_with word bytes = bytes_eq (drop (length bytes - length word) bytes) word

-- bytes are one of some words
abbrev pub is_one_of : List (List ℕ) → List ℕ → Bool
is_one_of words bytes = list_any (λ word. bytes_eq bytes word) words

-- bytes begin with one of some words
abbrev pub begins_with_one : List (List ℕ) → List ℕ → Bool
begins_with_one words bytes = list_any (λ word. begins_with word bytes) words

-- bytes end with one of some words
abbrev pub ends_with_one : List (List ℕ) → List ℕ → Bool
ends_with_one words bytes = list_any (λ word. ends_with word bytes) words

-- a number is one of some
abbrev pub is_among : List ℕ → ℕ → Bool
is_among numbers number = list_any (λ n. n == number) numbers
