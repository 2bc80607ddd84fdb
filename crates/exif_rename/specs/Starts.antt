-- From which number on the search for a request begins.
use Rattle.std.specs.Prelude.{◌≡◌, ◌<◌, ℕ, ◌^◌, List, [], ◌∷◌, ◌++◌, Bool, false, ◌&&◌, not, Option, Some, ⊤, string_bytes}
use Rattle.std.specs.BTreeMap.{BTreeMap, get}
use Rattle.std.specs.Ordering.{ordering_then}
use Rattle.std.specs.String.{string_cmp}
use Rattle.std.specs.declared.cmp.Ordering.{Ordering}
use Rattle.exif_rename.specs.declared.starts.Series.{Series}
use Rattle.exif_rename.specs.RenameRequests.{File, Wanted, candidate, path_of}

-- whether any file can have a path: no file was given it, and nothing has it
abbrev pub is_open : (List ℕ → Bool) → (List ℕ → Bool) → List ℕ → Bool
is_open free is_given path = not (is_given path) && free path

-- no path of a base and an ending is open by a number below a start
abbrev pub NoneOpenBelow : (List ℕ → Bool) → (List ℕ → Bool) → List ℕ → List ℕ → ℕ → Type 0
NoneOpenBelow free is_given base ending start =
    (number : ℕ) → number < start → is_open free is_given (candidate base number ++ ending) ≡ false

-- no path of the first file is open by a number below a start, which is 0 where there is no file
abbrev pub NoneOpenFirst : (List ℕ → Bool) → (List ℕ → Bool) → List ℕ → List File → ℕ → Type 0
NoneOpenFirst free is_given base [] start = start ≡ 0
NoneOpenFirst free is_given base (file ∷ files) start =
    NoneOpenBelow free is_given base file.ending start

-- where the search for a request may begin
abbrev pub IsStart : (List ℕ → Bool) → (List ℕ → Bool) → Wanted → ℕ → Type 0
IsStart free is_given wanted start = NoneOpenFirst free is_given wanted.base wanted.files start

-- if the first file has its path by some number already, it is this one
abbrev pub HasOwn : List ℕ → List File → Option ℕ → Type 0
HasOwn base [] own = ⊤
HasOwn base (file ∷ files) own =
    (number : ℕ) → number < 2 ^ 32 → file.old ≡ path_of (candidate base number) file
    → own ≡ Some number

abbrev pub IsOwn : Wanted → Option ℕ → Type 0
IsOwn wanted own = HasOwn wanted.base wanted.files own

-- the order of series
abbrev pub series_cmp : Series → Series → Ordering
series_cmp a b = ordering_then (string_cmp a.base b.base) (string_cmp a.ending b.ending)

-- what a map has of each series is a start: no path is open by a number below it
abbrev pub AreStarts : (List ℕ → Bool) → (List ℕ → Bool) → BTreeMap Series ℕ → Type 0
AreStarts free is_given starts =
    (series : Series) (start : ℕ) → get series_cmp starts series ≡ Some start
    → NoneOpenBelow free is_given (string_bytes series.base) (string_bytes series.ending) start
