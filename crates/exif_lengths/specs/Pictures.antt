-- The index of the pictures of a JPEG file, and its length (CIPA DC-007-2009, 5.2): TIFF data of one or
-- two directories, whose values are numbers.
use Rattle.std.specs.Prelude.{ℕ, zero, suc, ◌+◌, ◌*◌, List, ◌∷◌, drop, take, codes, nat_le, Bool, true, false, ◌||◌, ◌==◌, Option, None, Some, if◌then◌else◌}
use Rattle.std.specs.List.{list_all}
use Rattle.std.specs.Str.{bytes_eq}

-- a number of 16 bits at the front of bytes, the lower half first or last
abbrev pub short_of : Bool → List ℕ → ℕ
short_of little (a ∷ b ∷ rest) = if little then a + 256 * b else 256 * a + b
short_of little rest = 0

-- a number of 32 bits
abbrev pub long_of : Bool → List ℕ → ℕ
long_of little bytes =
    if little then short_of little bytes + 65536 * short_of little (drop 2 bytes)
    else 65536 * short_of little bytes + short_of little (drop 2 bytes)

-- how many bytes a number of a type has (TIFF 6.0, section 2); 0 for a type that is not known
abbrev pub unit : ℕ → ℕ
unit kind =
    if (kind == 1) || (kind == 2) || (kind == 6) || (kind == 7) then 1 else
    if (kind == 3) || (kind == 8) then 2 else
    if (kind == 4) || (kind == 9) then 4 else
    if (kind == 5) || (kind == 10) then 8 else 0

-- how many bytes the value of an entry has behind the directory: four bytes are in the entry, the
-- entries of pictures (0xB002) are lists, other values are one number, and what is longer is not known
abbrev pub value_len : ℕ → ℕ → ℕ
value_len tag size = if nat_le size 4 then 0 else if (tag == 0xB002) || nat_le size 8 then size else 0

abbrev pub entry_len : Bool → List ℕ → ℕ
entry_len little entry =
    value_len (short_of little entry)
    (unit (short_of little (drop 2 entry)) * long_of little (drop 4 entry))

-- the same of so many entries
abbrev pub entries_len : Bool → ℕ → List ℕ → ℕ
entries_len little zero bytes = 0
entries_len little (suc count) bytes =
    entry_len little bytes + entries_len little count (drop 12 bytes)

-- how many bytes a directory has, with its values
abbrev pub directory_len : Bool → List ℕ → ℕ
directory_len little bytes =
    let count = short_of little bytes in 6 + 12 * count + entries_len little count (drop 2 bytes)

-- the same of the one at an offset, if there is one
abbrev pub next_len : Bool → List ℕ → ℕ → ℕ
next_len little bytes zero = 0
next_len little bytes (suc at) = directory_len little (drop (suc at) bytes)

-- where the directory behind the one at an offset is
abbrev pub next_at : Bool → List ℕ → ℕ
next_at little directory = long_of little (drop (2 + 12 * short_of little directory) directory)

-- how many bytes an index has: a header, and a directory or two
abbrev pub index_len : Bool → List ℕ → ℕ
index_len little bytes =
    let first = drop 8 bytes in
    8 + directory_len little first + next_len little bytes (next_at little first)

-- whether there is nothing but zeros behind so many bytes
abbrev pub ends_in : ℕ → List ℕ → Bool
ends_in len bytes = list_all (λ b. b == 0) (drop len bytes)

-- the order of an index, whose first directory follows its header
abbrev pub is_little : List ℕ → Option Bool
is_little bytes =
    if bytes_eq (take 8 bytes) (codes "II*\0\u{8}\0\0\0") then Some true else
    if bytes_eq (take 8 bytes) (codes "MM\0*\0\0\0\u{8}") then Some false else None

-- whether bytes in an order are an index and have no more
abbrev pub fits_by : Option Bool → List ℕ → Bool
fits_by None bytes = false
fits_by (Some little) bytes = ends_in (index_len little bytes) bytes

-- whether bytes are an index, with as many bytes as it has, and then zeros
abbrev pub pictures_fit : List ℕ → Bool
pictures_fit bytes = fits_by (is_little bytes) bytes
