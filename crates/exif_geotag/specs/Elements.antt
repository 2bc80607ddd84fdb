-- The elements of GPX, and the values in them.
use Rattle.std.specs.Prelude.{ℕ, ◌+◌, ◌==◌, ◌||◌, nat_lt, not, Bool, if◌then◌else◌, List, [], ◌∷◌, length, take, drop, codes}
use Rattle.std.specs.Str.{bytes_eq}
use Rattle.exif_locations.specs.XmpScans.{is_name_byte, run}
use Rattle.exif_geotag.specs.declared.element.Element.{Element}
use Rattle.exif_geotag.specs.declared.element.Element.TheVariants.{Gpx, TrackPoint, Time, Elevation, Other}

-- how many bytes there are before the first one like this
abbrev pub until : ℕ → List ℕ → ℕ
until mark text = run (λ byte. not (byte == mark)) text

-- a name without its prefix
abbrev pub local_name : List ℕ → List ℕ
local_name name =
    if nat_lt (until 58 name) (length name) then drop (until 58 name + 1) name else name

-- the element of a name without a prefix
abbrev pub element_of : List ℕ → Element
element_of name =
    if bytes_eq name (codes "trkpt") then TrackPoint
    else (if bytes_eq name (codes "time") then Time
    else (if bytes_eq name (codes "ele") then Elevation
    else (if bytes_eq name (codes "gpx") then Gpx else Other)))

-- the element whose start tag is at the front
unfoldable pub element_at : List ℕ → Element
element_at input = element_of (local_name (take (run is_name_byte (drop 1 input)) (drop 1 input)))

-- whether a byte is a quote
abbrev pub is_quote : ℕ → Bool
is_quote byte = (byte == 34) || (byte == 39)

-- the bytes between the first quote and the next one like it
abbrev pub quoted_in : List ℕ → List ℕ
quoted_in [] = []
quoted_in (byte ∷ bytes) = if is_quote byte then take (until byte bytes) bytes else quoted_in bytes

-- the text in front of the next markup
abbrev pub text_of : List ℕ → List ℕ
text_of input = take (until 60 input) input
