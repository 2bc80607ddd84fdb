-- What is asked to be set: the name of a tag and the text of its value.
use Rattle.std.specs.Prelude.{ℕ, Bool, ◌==◌, nat_lt, ◌-◌, if◌then◌else◌, List, [], ◌∷◌, ◌++◌, codes, drop, length, take, Option, Some, None}
use Rattle.std.specs.List.{after_first, before_first, find, position_or_len, prefix_len, suffix_len}
use Rattle.std.specs.Option.{option_and_then, option_map}
use Rattle.std.specs.Str.{bytes_eq}
use Rattle.std.specs.Char.{is_ascii_whitespace}
use Rattle.exif_table.specs.Rows.{rows_of}
use Rattle.exif_table.specs.Table.{TagRow}
use Rattle.exif_table.specs.declared.context.Context.{Context}
use Rattle.exif_table.specs.declared.context.Context.TheVariants.{Tiff, Exif, Gps, Interop}
use Rattle.exif_types.specs.declared.tag.Tag.{Tag}
use Rattle.exif_assign.specs.declared.assignment.Assignment.{Assignment}

-- whether a row has a name
abbrev pub has_name : List ℕ → TagRow → Bool
has_name name row = bytes_eq row.name name

-- the tag of a row
abbrev pub tag_of : Context → TagRow → Tag
tag_of context row = record { 0 = context; 1 = row.number }

-- the tag of a name in a context
abbrev pub named_in : Context → List ℕ → Option Tag
named_in context name = option_map (tag_of context) (find (has_name name) (rows_of context))

-- the first, or else the second
abbrev pub or_else : {A : Type 0} → Option A → Option A → Option A
or_else (Some x) other = Some x
or_else None other = other

-- the tag of a name; a name of several contexts is that of the first
abbrev pub tag_named : List ℕ → Option Tag
tag_named name =
    or_else (named_in Tiff name)
    (or_else (named_in Exif name) (or_else (named_in Gps name) (named_in Interop name)))

-- the texts around the first byte like this, if there is one
abbrev pub around : ℕ → List ℕ → Option (List ℕ × List ℕ)
around mark text =
    if nat_lt (position_or_len (λ byte. byte == mark) text) (length text)
    then Some (before_first (λ byte. byte == mark) text, after_first (λ byte. byte == mark) text)
    else None

-- a tag and a text, if the tag is known
abbrev pub with_text : List ℕ → Option Tag → Option (Tag × List ℕ)
with_text text tag = option_map (λ tag. (tag, text)) tag

-- the tag and the text that `NAME=TEXT` assigns to it (61 is `=`)
abbrev pub assigned_in : List ℕ → Option (Tag × List ℕ)
assigned_in word =
    option_and_then (λ parts. with_text parts.1 (tag_named parts.0)) (around 61 word)

-- ---- locations

-- a text without the white space at its end
abbrev pub without_end : List ℕ → List ℕ
without_end text = take (length text - suffix_len is_ascii_whitespace text) text

-- and without that at its start
unfoldable pub trimmed : List ℕ → List ℕ
trimmed text = without_end (drop (prefix_len is_ascii_whitespace text) text)

-- what is behind a minus (45), if a number begins with one
abbrev pub without_minus : List ℕ → Option (List ℕ)
without_minus [] = None
without_minus (byte ∷ bytes) = if byte == 45 then Some bytes else None

-- a number as two fields: its sign, which is the first text or with a minus the second, and the
-- rest
abbrev pub signed_fields : Tag → List ℕ → List ℕ → Tag → List ℕ → List (Tag × List ℕ)
signed_fields sign plus minus tag number = elim (without_minus number) [
  | Some rest ↦ (sign, minus) ∷ (tag, rest) ∷ []
  | None ↦ (sign, plus) ∷ (tag, number) ∷ []
]

-- a tag of a GPS directory
abbrev pub gps : ℕ → Tag
gps number = record { 0 = Gps; 1 = number }

-- GPSLatitudeRef and GPSLatitude
abbrev pub latitude_fields : List ℕ → List (Tag × List ℕ)
latitude_fields text = signed_fields (gps 1) (codes "N") (codes "S") (gps 2) (trimmed text)

-- GPSLongitudeRef and GPSLongitude
abbrev pub longitude_fields : List ℕ → List (Tag × List ℕ)
longitude_fields text = signed_fields (gps 3) (codes "E") (codes "W") (gps 4) (trimmed text)

-- GPSAltitudeRef (0 above the sea, 1 below it) and GPSAltitude
abbrev pub altitude_fields : List ℕ → List (Tag × List ℕ)
altitude_fields text = signed_fields (gps 5) (codes "0") (codes "1") (gps 6) (trimmed text)

-- the fields of a longitude, and of an altitude where a comma (44) is before it
abbrev pub longitude_and_altitude : List ℕ → List (Tag × List ℕ)
longitude_and_altitude text = elim (around 44 text) [
  | Some parts ↦ longitude_fields parts.0 ++ altitude_fields parts.1
  | None ↦ longitude_fields text
]

-- the fields of `LATITUDE,LONGITUDE` or `LATITUDE,LONGITUDE,ALTITUDE`; without a comma the
-- longitude is an empty text, which is no value
abbrev pub location_in : List ℕ → List (Tag × List ℕ)
location_in text = elim (around 44 text) [
  | Some parts ↦ latitude_fields parts.0 ++ longitude_and_altitude parts.1
  | None ↦ latitude_fields text ++ longitude_fields []
]

-- what a name assigns a text to: the fields of a location, or one tag
abbrev pub fields_named : List ℕ → List ℕ → Option (List (Tag × List ℕ))
fields_named name text =
    if bytes_eq name (codes "Location") then Some (location_in text)
    else option_map (λ field. field ∷ []) (with_text text (tag_named name))

-- the tags and texts that a word assigns, in order; none where it has no `=`, or no known name
-- before it
abbrev pub all_assigned_in : List ℕ → Option (List (Tag × List ℕ))
all_assigned_in word = option_and_then (λ parts. fields_named parts.0 parts.1) (around 61 word)

-- ---- as the code has them

-- the tag and the text of an assignment
abbrev pub parts_of : Assignment → Tag × List ℕ
parts_of assignment = (assignment.tag, assignment.text.now)
