-- Which renames are taken back.
use Rattle.std.specs.Prelude.{ℕ, Bool, true, false, if◌then◌else◌, List, Option, Some, Result, Ok, Err}
use Rattle.std.specs.Str.{bytes_eq}
use Rattle.exif_rename_commands.specs.declared.words.NotBack.{NotBack}
use Rattle.exif_rename_commands.specs.declared.words.NotBack.TheVariants.{Copy, Gone, Taken}

-- no copy is removed, and no file replaced
abbrev pub back_of : Bool → Bool → Bool → Result (Unit {0}) NotBack
back_of true has_new has_old = Err Copy
back_of false false has_old = Err Gone
back_of false true true = Err Taken
back_of false true false = Ok tt

-- what is known of names when a file has got its old name back
abbrev pub taken_back : List ℕ → List ℕ → (List ℕ → Option Bool) → List ℕ → Option Bool
taken_back old new known q =
    if bytes_eq new q then Some false else if bytes_eq old q then Some true else known q
