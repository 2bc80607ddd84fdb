-- Looking for what a tag of the first image says.
use Rattle.std.specs.Prelude.{ℕ, nat_lt, ◌&&◌, List, ◌∷◌, Option, Some, None, option_map, option_and_then, if◌then◌else◌}
use Rattle.exif_table.specs.declared.context.Context.{Context}
use Rattle.exif_table.specs.declared.context.Context.TheVariants.{Tiff, Gps}
use Rattle.exif_types.specs.declared.field.Field.{Field}
use Rattle.exif_types.specs.declared.value.Value.{Value}
use Rattle.exif_types.specs.declared.value.Value.TheVariants.{Ascii}
use Rattle.exif_types.specs.Lookup.{last_named}
use Rattle.exif_types.specs.Numbers.{number_in}
use Rattle.exif_summary.specs.Coordinates.{Axis, Degrees, degrees_in}

-- what a tag of the first image says, if it is there
abbrev pub found : List Field → Context → ℕ → Option Value
found fields context number =
    option_map (λ f. f.value) (last_named fields (record { 0 = context; 1 = number }) (record { 0 = 0 }))

-- the first number of a tag
abbrev pub number_of : List Field → Context → ℕ → Option ℕ
number_of fields context number = option_and_then (λ value. number_in value 0) (found fields context number)

-- which of the eight orientations the picture has (Exif 2.32, 4.6.4, Orientation)
abbrev pub orientation_of : List Field → Option ℕ
orientation_of fields =
    option_and_then (λ n. if nat_lt 0 n && nat_lt n 9 then Some n else None) (number_of fields Tiff 274)

-- the first text of a value of texts
abbrev pub first_text : Value → Option (List ℕ)
first_text (Ascii (text ∷ texts)) = Some text
first_text _ = None

-- the first text of a tag of the first image, if it has one
abbrev pub text_found : List Field → Context → ℕ → Option (List ℕ)
text_found fields context number = option_and_then first_text (found fields context number)

-- a coordinate of the location
abbrev pub degrees_of : List Field → Axis → Option Degrees
degrees_of fields axis =
    option_and_then (λ value. option_and_then (degrees_in axis value) (found fields Gps axis.reference))
    (found fields Gps axis.value)
