-- The paths of new files that differ from each other.
use Rattle.std.specs.Prelude.{ℕ, zero, suc, ◌+◌, List, ◌++◌, Bool, true, false, if◌then◌else◌, Option, Some, None}
use Rattle.std.specs.Str.{bytes_eq}
use Rattle.exif_rename.specs.RenameRequests.{candidate}

-- the first candidate of a base, with an ending, that was not given, of so many from a number on
unfoldable pub unused_from : (List ℕ → Bool) → List ℕ → List ℕ → ℕ → ℕ → Option (List ℕ)
unused_from is_given base ending zero number = None
unused_from is_given base ending (suc tries) number =
    elim (is_given (candidate base number ++ ending)) [
      | true ↦ unused_from is_given base ending tries (number + 1)
      | false ↦ Some (candidate base number ++ ending)
    ]

-- the first of all
abbrev pub unused : (List ℕ → Bool) → List ℕ → List ℕ → Option (List ℕ)
unused is_given base ending = unused_from is_given base ending 100000 0

-- which paths were given when one more is, if one is
abbrev pub given_after : (List ℕ → Bool) → Option (List ℕ) → List ℕ → Bool
given_after is_given None q = is_given q
given_after is_given (Some path) q = if bytes_eq path q then true else is_given q

-- the same when the first of all is given
abbrev pub given_with : (List ℕ → Bool) → List ℕ → List ℕ → List ℕ → Bool
given_with is_given base ending q = given_after is_given (unused is_given base ending) q
