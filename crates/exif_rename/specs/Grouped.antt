-- Files of one stem, which are renamed together.
use Rattle.std.specs.Prelude.{ℕ, ◌+◌, ◌-◌, ◌==◌, ◌&&◌, List, [], ◌∷◌, ◌++◌, Bool, true, false, if◌then◌else◌, Option, None, Some, length, take, map, string_bytes}
use Rattle.std.specs.Option.{unwrap_or}
use Rattle.std.specs.Str.{bytes_eq, str_to_ascii_lowercase}
use Rattle.exif_files.specs.Each.{is_among}
use Rattle.exif_rename.specs.declared.grouping.Entry.{Entry}

-- What a path ends in: from the last `.` (46) of the file's name on, but for one that the name begins
-- with; nothing where there is none. A `/` (47) begins a name.
abbrev pub ending_after : Bool → List ℕ → List ℕ → List ℕ
ending_after begun found [] = found
ending_after begun found (c ∷ rest) =
    if c == 47 then ending_after false [] rest
    else if (c == 46) && begun then ending_after true (c ∷ rest) rest
    else ending_after true found rest

abbrev pub ending_of : List ℕ → List ℕ
ending_of path = ending_after false [] path

-- the path without it
abbrev pub stem_of : List ℕ → List ℕ
stem_of path = take (length path - length (ending_of path)) path

-- where the ending begins in a path of a length, and whether the name has begun, after a byte more
abbrev pub after_byte : ℕ → ℕ → ℕ → ℕ → Bool → ℕ × Bool
after_byte c index size start begun =
    if c == 47 then (size, false) else if (c == 46) && begun then (index, true) else (start, true)

-- a path whose ending is in lower case
abbrev pub folded : List ℕ → List ℕ
folded path = stem_of path ++ str_to_ascii_lowercase (ending_of path)

-- a file: its path, and whether it is a sidecar
abbrev pub Named : Type 0
Named = List ℕ × Bool

abbrev pub entry_of : Entry → Named
entry_of entry = (string_bytes entry.path, entry.is_sidecar)

-- the files that sidecars can go with, each path folded, the last first
abbrev pub owners_after : List (List ℕ) → List Named → List (List ℕ)
owners_after found [] = found
owners_after found (file ∷ files) =
    owners_after (if file.1 then found else folded file.0 ∷ found) files

abbrev pub owners_of : List Named → List (List ℕ)
owners_of files = owners_after [] files

-- The stem of a file. A sidecar may have the whole name of its picture before its own ending, as
-- `a.jpg.xmp`; then the stem is that of the picture.
abbrev pub stem_in : List (List ℕ) → Named → List ℕ
stem_in owners file =
    if file.1 && is_among (folded (stem_of file.0)) owners then stem_of (stem_of file.0)
    else stem_of file.0

-- the stems of all files
abbrev pub stems_of : List Named → List (List ℕ)
stems_of files = map (stem_in (owners_of files)) files

-- the index of the first stem that is one, where so many come before
abbrev pub first_index : ℕ → List (List ℕ) → List ℕ → Option ℕ
first_index before [] stem = None
first_index before (other ∷ stems) stem =
    if bytes_eq other stem then Some before else first_index (before + 1) stems stem

-- of each stem the index of the first one that is the same
abbrev pub leaders : List (List ℕ) → List ℕ
leaders stems = map (λ stem. unwrap_or (first_index 0 stems stem) 0) stems

-- of each file the index of the first file of its stem
abbrev pub grouped : List Named → List ℕ
grouped files = leaders (stems_of files)
