-- The new names that are asked for, and the moves that give them.
use Rattle.std.specs.Prelude.{ℕ, List, [], ◌∷◌, ◌++◌, ◌==◌, map, if◌then◌else◌, string_bytes, codes}
use Rattle.std.specs.Str.{bytes_eq}
use Rattle.std.specs.Fmt.{decimal}
use Rattle.exif_rename.specs.declared.request.RequestFile.{RequestFile}
use Rattle.exif_rename.specs.declared.request.RenameRequest.{RenameRequest}
use Rattle.exif_rename.specs.declared.request.Move.{Move}

-- a file: the path that it has, and what follows the new name in its new path
pub record File : Type 0 where
  pub old : List ℕ
  pub ending : List ℕ

-- files that are to have one new name
pub record Wanted : Type 0 where
  pub base : List ℕ
  pub files : List File

abbrev pub file_of : RequestFile → File
file_of file = record { old = string_bytes file.old; ending = string_bytes file.ending }

abbrev pub wanted_of : RenameRequest → Wanted
wanted_of request =
    record { base = string_bytes request.base; files = map file_of request.files.items }

-- the old path and the new one
abbrev pub move_of : Move → List ℕ × List ℕ
move_of made = (string_bytes made.from, string_bytes made.to)

-- the candidate of a number: the base itself, `base_1`, `base_2` and so on
abbrev pub candidate : List ℕ → ℕ → List ℕ
candidate base number = if number == 0 then base else base ++ (codes "_" ++ decimal number)

-- the new path of a file
abbrev pub path_of : List ℕ → File → List ℕ
path_of name file = name ++ file.ending

-- the move of a file to a path, unless it has that already
abbrev pub moved_to : List ℕ → List ℕ → List (List ℕ × List ℕ) → List (List ℕ × List ℕ)
moved_to old path rest = if bytes_eq path old then rest else (old, path) ∷ rest

-- the moves of files to a name
abbrev pub moves_in : List ℕ → List File → List (List ℕ × List ℕ)
moves_in name [] = []
moves_in name (file ∷ files) = moved_to file.old (path_of name file) (moves_in name files)

-- the moves of a request by the candidate of a number
abbrev pub moves_by : Wanted → ℕ → List (List ℕ × List ℕ)
moves_by wanted number = moves_in (candidate wanted.base number) wanted.files
