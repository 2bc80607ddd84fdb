-- The words of the command line.
use Rattle.std.specs.Prelude.{ℕ, if◌then◌else◌, List, ◌∷◌, map, Bool, false, Option, None, Some, Result, Ok, Err, codes}
use Rattle.std.specs.IoError.{error_kind}
use Rattle.std.specs.Str.{bytes_eq}
use Rattle.std.specs.declared.env.FillError.{FillError}
use Rattle.std.specs.declared.env.FillError.TheVariants.{NotPresent, TooLong}
use Rattle.std.specs.declared.io.Error as io
use Rattle.std.specs.declared.io.ErrorKind.{ErrorKind}
use Rattle.std.specs.declared.io.ErrorKind.TheVariants.{ArgumentListTooLong}
use Rattle.exif_decisions.specs.Rules.{assigns}
use Rattle.exif_decisions.specs.Tags.{canonical_word}

-- whether the word behind the name of the program is `set`
abbrev pub is_set : List (List ℕ) → Bool
is_set (program ∷ (command ∷ words)) = bytes_eq command (codes "set")
is_set _ = false

-- an assignment with the name of its tag as the standard spells it; another word as it is
abbrev pub spelled_word : List ℕ → List ℕ
spelled_word word = if assigns word then canonical_word word else word

-- the words as they are read
abbrev pub words_for : List (List ℕ) → List (List ℕ)
words_for words = if is_set words then map spelled_word words else words

-- how long a word is that was asked for: none behind the last one
abbrev pub len_by : Result ℕ FillError → Result (Option ℕ) ErrorKind
len_by (Ok len) = Ok (Some len)
len_by (Err NotPresent) = Ok None
len_by (Err TooLong) = Err ArgumentListTooLong

-- an answer with the kind of its error
abbrev pub kinds_of : Result (Option ℕ) io.Error → Result (Option ℕ) ErrorKind
kinds_of (Ok len) = Ok len
kinds_of (Err error) = Err (error_kind error)
