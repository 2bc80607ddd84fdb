-- Links from a page to the files of its pictures.
use Rattle.std.specs.Prelude.{ℕ, ◌+◌, ◌-◌, ◌/◌, ◌%◌, ◌==◌, List, [], ◌∷◌, ◌++◌, Bool, ◌||◌, nat_lt, if◌then◌else◌, drop, codes}
use Rattle.std.specs.Char.{is_ascii_alphanumeric}
use Rattle.std.specs.List.{flat_map}

-- a byte that is itself in the path of a URL: a letter, a digit, `-` (45), `.` (46), `_` (95),
-- `~` (126) or `/` (47) (RFC 3986, sections 2.3 and 3.3)
abbrev pub is_plain : ℕ → Bool
is_plain byte = is_ascii_alphanumeric byte
    || byte == 45 || byte == 46 || byte == 95 || byte == 126 || byte == 47

-- `0` is 48, `A` is 65
abbrev pub hex_digit : ℕ → ℕ
hex_digit n = if nat_lt n 10 then 48 + n else 65 + (n - 10)

-- a byte as it is in a URL: itself, or its two digits behind `%` (37) (RFC 3986, section 2.1)
abbrev pub url_byte : ℕ → List ℕ
url_byte byte = if is_plain byte then byte ∷ []
    else 37 ∷ hex_digit (byte / 16) ∷ hex_digit (byte % 16) ∷ []

abbrev pub url_of : List ℕ → List ℕ
url_of path = flat_map url_byte path

-- how many first bytes two paths share, up to the last `/` of these, behind the first `at` bytes
abbrev pub common : ℕ → ℕ → List ℕ → List ℕ → ℕ
common last at [] path = last
common last at (byte ∷ folder) [] = last
common last at (byte ∷ folder) (other ∷ path) =
    if byte == other then
    common (if byte == 47 then at + 1 else last) (at + 1) folder path
    else last

-- a step up for each `/`
abbrev pub up_for : ℕ → List ℕ
up_for byte = if byte == 47 then codes "../" else []

abbrev pub ups : List ℕ → List ℕ
ups rest = flat_map up_for rest

-- the way from a folder to a file: up to the folder that both are in, and down from there
abbrev pub link_behind : ℕ → List ℕ → List ℕ → List ℕ
link_behind shared folder path = ups (drop shared folder) ++ url_of (drop shared path)

abbrev pub link_of : List ℕ → List ℕ → List ℕ
link_of folder path = link_behind (common 0 0 folder path) folder path
