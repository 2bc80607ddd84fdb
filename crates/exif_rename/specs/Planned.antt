-- Which new paths files get.
use Rattle.std.specs.Prelude.{ℕ, zero, suc, ◌+◌, List, [], ◌∷◌, Bool, true, false, if◌then◌else◌, ◌&&◌, ◌||◌, not, Option, Some, None, Result, Ok, Err, length, take}
use Rattle.std.specs.Option.{is_none}
use Rattle.std.specs.Str.{bytes_eq}
use Rattle.exif_files.specs.Each.{is_among}
use Rattle.exif_files.specs.States.{State}
use Rattle.exif_rename.specs.RenameRequests.{File, Wanted, candidate, path_of}

-- whether nothing has a name
abbrev pub free_in : State → List ℕ → Bool
free_in s name = is_none (s.at name)

-- whether a path is one that was given to a file, or one of these
abbrev pub is_claimed : (List ℕ → Bool) → List (List ℕ) → List ℕ → Bool
is_claimed is_given paths path = is_given path || is_among path paths

-- whether a file can have a path: no file was given it, and it is its own or nothing has it
abbrev pub can_have : (List ℕ → Bool) → List (List ℕ) → List ℕ → File → Bool
can_have free given path file = not (is_among path given) && (bytes_eq path file.old || free path)

-- whether all the files can have their paths by a name
abbrev pub fits : (List ℕ → Bool) → List (List ℕ) → List ℕ → List File → Bool
fits free given name [] = true
fits free given name (file ∷ files) =
    can_have free given (path_of name file) file && fits free (path_of name file ∷ given) name files

-- the paths that were given, and those by a name, the last first
abbrev pub with_paths : List ℕ → List File → List (List ℕ) → List (List ℕ)
with_paths name [] given = given
with_paths name (file ∷ files) given = with_paths name files (path_of name file ∷ given)

-- the first number from one on, of so many, whose candidate all the files can have
unfoldable pub fit_from : (List ℕ → Bool) → List (List ℕ) → Wanted → ℕ → ℕ → Option ℕ
fit_from free given wanted zero number = None
fit_from free given wanted (suc tries) number =
    elim (fits free given (candidate wanted.base number) wanted.files) [
      | true ↦ Some number
      | false ↦ fit_from free given wanted tries (number + 1)
    ]

-- the first of all
abbrev pub fit : (List ℕ → Bool) → List (List ℕ) → Wanted → Option ℕ
fit free given wanted = fit_from free given wanted 100000 0

-- whether each file has its path by a name already
abbrev pub all_own : List ℕ → List File → Bool
all_own name [] = true
all_own name (file ∷ files) = bytes_eq (path_of name file) file.old && all_own name files

-- the first number from one on, of so many, by whose candidate each file has its path already
unfoldable pub own_from : Wanted → ℕ → ℕ → Option ℕ
own_from wanted zero number = None
own_from wanted (suc tries) number =
    elim (all_own (candidate wanted.base number) wanted.files) [
      | true ↦ Some number
      | false ↦ own_from wanted tries (number + 1)
    ]

-- whether the first file's path begins with the base: each candidate does
abbrev pub has_base : List ℕ → List File → Bool
has_base base [] = false
has_base base (file ∷ files) = bytes_eq base (take (length base) file.old)

-- the first of all
abbrev pub own : Wanted → Option ℕ
own wanted = if has_base wanted.base wanted.files then own_from wanted 100000 0 else None

-- a number, if the files can have their paths by its candidate; or the first such number
abbrev pub kept_or : (List ℕ → Bool) → List (List ℕ) → Wanted → Option ℕ → Option ℕ
kept_or free given wanted None = fit free given wanted
kept_or free given wanted (Some number) =
    if fits free given (candidate wanted.base number) wanted.files then Some number
    else fit free given wanted

-- The number that a request gets: the one by which all its files have their paths already, so that they
-- stay; or else the first of all whose candidate all the files can have.
abbrev pub chosen : (List ℕ → Bool) → List (List ℕ) → Wanted → Option ℕ
chosen free given wanted = kept_or free given wanted (own wanted)

-- a number in front of others; of a request without one, how many are before it
abbrev pub with_number : ℕ → Result (List ℕ) ℕ → Result (List ℕ) ℕ
with_number number (Ok numbers) = Ok (number ∷ numbers)
with_number number (Err before) = Err (before + 1)

-- The numbers of the candidates that the files of each request get, where some paths were given
-- before; or the index of the first request that gets none.
abbrev pub planned_after : (List ℕ → Bool) → List (List ℕ) → List Wanted → Result (List ℕ) ℕ
planned_after free given [] = Ok []
planned_after free given (wanted ∷ rest) = elim (chosen free given wanted) [
  | None ↦ Err 0
  | Some number ↦ with_number number
      (planned_after free (with_paths (candidate wanted.base number) wanted.files given) rest)
]

abbrev pub planned : (List ℕ → Bool) → List Wanted → Result (List ℕ) ℕ
planned free requests = planned_after free [] requests
