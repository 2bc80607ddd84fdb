-- The texts of metadata (QuickTime File Format, "User Data Text Strings and Language Codes", "Data
-- Atom Structure").
use Rattle.std.specs.Prelude.{ℕ, max, List, [], length, take, drop, codes, nat_lt, Bool, not, ◌&&◌, ◌||◌, ◌==◌, if◌then◌else◌}
use Rattle.std.specs.Str.{bytes_eq}
use Rattle.exif_movie_facts.specs.Numbers.{u16_of, u32_of}

-- the first text of a box of user data: its length is in two bytes, a language code in two more
abbrev pub user_data_text : List ℕ → List ℕ
user_data_text content =
    if nat_lt (length content) 4 then [] else take (u16_of content) (drop 4 content)

-- whether an item begins with a box `data` whose value is a text in UTF-8, by its type indicator
abbrev pub is_utf8_item : List ℕ → Bool
is_utf8_item content =
    bytes_eq (take 4 (drop 4 content)) (codes "data") && (u32_of (drop 8 content) == 1)

-- the value in a data box: behind the size, the type, the type indicator and the locale
abbrev pub data_value : List ℕ → List ℕ
data_value content = drop 16 (take (max (u32_of content) 16) content)

-- the text of an item
abbrev pub item_text : List ℕ → List ℕ
item_text content =
    if nat_lt (length content) 16 || not (is_utf8_item content) then [] else data_value content
