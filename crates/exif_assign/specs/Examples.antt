-- Worked examples: what words assign, and the values that their texts spell.
use Rattle.std.specs.Prelude.{◌≡◌, refl, ℕ, List, [], ◌∷◌, codes, map, Option, Some, None, Result, Ok, Err}
use Rattle.std.specs.Option.{option_map}
use Rattle.exif_table.specs.declared.context.Context.TheVariants as context
use Rattle.exif_text.specs.Dates.{parse_offset}
use Rattle.exif_types.specs.declared.tag.Tag.{Tag}
use Rattle.exif_types.specs.declared.value.Value.{Value}
use Rattle.exif_types.specs.declared.value.Value.TheVariants.{Ascii, Byte, Rational, Short, Undefined}
use Rattle.exif_assign.specs.Assigning.{all_assigned_in, gps, trimmed}
use Rattle.exif_assign.specs.Rules.{type_of_new}
use Rattle.exif_assign.specs.Texts.{fraction}
use Rattle.exif_assign.specs.Values.{value_in}
use Rattle.exif_assign.specs.declared.spelled.ValueError.{ValueError}
use Rattle.exif_assign.specs.declared.spelled.ValueError.TheVariants.{NotOfItsType, OutOfRange}

-- a tag with the value of a new field of it, if one can be made
abbrev valued : Tag × List ℕ → Tag × Option (Result Value ValueError)
valued (tag, text) = (tag, option_map (λ type. value_in tag type text) (type_of_new tag))

-- the tags that a word assigns, with their values
abbrev values_in : List ℕ → Option (List (Tag × Option (Result Value ValueError)))
values_in word = option_map (map valued) (all_assigned_in word)

-- a tag with this value
abbrev has : ℕ → Value → Tag × Option (Result Value ValueError)
has number value = (gps number, Some (Ok value))

-- one text
abbrev one : List ℕ → Value
one text = Ascii (text ∷ [])

-- The minutes are 60 * 0.5586 = 33.516, and the seconds 60 * 0.516 = 30.96. Of the longitude they
-- are 60 * 0.5886 = 35.316, and 60 * 0.316 = 18.96.
north_east : values_in (codes "Location=47.5586,7.5886") ≡ Some
    (has 1 (one (codes "N"))
    ∷ has 2 (Rational (fraction 47 1 ∷ fraction 33 1 ∷ fraction 309600 10000 ∷ []))
    ∷ has 3 (one (codes "E"))
    ∷ has 4 (Rational (fraction 7 1 ∷ fraction 35 1 ∷ fraction 189600 10000 ∷ []))
    ∷ [])
unfolding value_in trimmed
north_east = refl

-- 60 * 0.8568 = 51.408 and 60 * 0.408 = 24.48; 60 * 0.2153 = 12.918 and 60 * 0.918 = 55.08; 12.5 m
-- below the sea. Spaces around the numbers do not count.
south_west_below : values_in (codes "Location=-33.8568, -151.2153, -12.5") ≡ Some
    (has 1 (one (codes "S"))
    ∷ has 2 (Rational (fraction 33 1 ∷ fraction 51 1 ∷ fraction 244800 10000 ∷ []))
    ∷ has 3 (one (codes "W"))
    ∷ has 4 (Rational (fraction 151 1 ∷ fraction 12 1 ∷ fraction 550800 10000 ∷ []))
    ∷ has 5 (Byte (1 ∷ []))
    ∷ has 6 (Rational (fraction 125 10 ∷ []))
    ∷ [])
unfolding value_in trimmed
south_west_below = refl

above_the_sea : values_in (codes "Location=0,-0,8848") ≡ Some
    (has 1 (one (codes "N"))
    ∷ has 2 (Rational (fraction 0 1 ∷ fraction 0 1 ∷ fraction 0 1 ∷ []))
    ∷ has 3 (one (codes "W"))
    ∷ has 4 (Rational (fraction 0 1 ∷ fraction 0 1 ∷ fraction 0 1 ∷ []))
    ∷ has 5 (Byte (0 ∷ []))
    ∷ has 6 (Rational (fraction 8848 1 ∷ []))
    ∷ [])
unfolding value_in trimmed
above_the_sea = refl

-- a latitude beyond the pole, and a longitude that is missing
no_location : values_in (codes "Location=90.5") ≡ Some
    (has 1 (one (codes "N"))
    ∷ (gps 2, Some (Err OutOfRange))
    ∷ has 3 (one (codes "E"))
    ∷ (gps 4, Some (Err NotOfItsType))
    ∷ [])
unfolding value_in trimmed
no_location = refl

-- words that assign nothing
no_equals_sign : all_assigned_in (codes "Location") ≡ None
no_equals_sign = refl

unknown_name : all_assigned_in (codes "Locations=1,2") ≡ None
unknown_name = refl

-- ---- what the standard has

-- a value of a new field, from its text
abbrev new_value : Tag → List ℕ → Option (Result Value ValueError)
new_value tag text = option_map (λ type. value_in tag type text) (type_of_new tag)

-- a tag of the directory of context Exif
abbrev exif : ℕ → Tag
exif number = record { 0 = context.Exif; 1 = number }

-- MeteringMode has 0 to 6 and 255
partial_metering : new_value (exif 0x9207) (codes "6") ≡ Some (Ok (Short (6 ∷ [])))
unfolding value_in
partial_metering = refl

no_metering : new_value (exif 0x9207) (codes "7") ≡ Some (Err OutOfRange)
unfolding value_in
no_metering = refl

-- a flash that fired (1) in auto mode (0x18) with its light detected (6); 2 is reserved
flash_fired : new_value (exif 0x9209) (codes "31") ≡ Some (Ok (Short (31 ∷ [])))
unfolding value_in
flash_fired = refl

reserved_flash : new_value (exif 0x9209) (codes "2") ≡ Some (Err OutOfRange)
unfolding value_in
reserved_flash = refl

-- an area has two to four numbers
circle : new_value (exif 0x9214) (codes "10,20,5") ≡ Some (Ok (Short (10 ∷ 20 ∷ 5 ∷ [])))
unfolding value_in
circle = refl

no_area : new_value (exif 0x9214) (codes "10") ≡ Some (Err OutOfRange)
unfolding value_in
no_area = refl

-- the source of a digital camera is the byte 3
camera : new_value (exif 0xa300) (codes "3") ≡ Some (Ok (Undefined (3 ∷ []) 0))
unfolding value_in
camera = refl

-- a day with the separators of ISO 8601, and one that the calendar lacks
leap_day : new_value (gps 29) (codes "2024-02-29") ≡ Some (Ok (one (codes "2024:02:29")))
unfolding value_in
leap_day = refl

no_leap_day : new_value (gps 29) (codes "2023:02:29") ≡ Some (Err OutOfRange)
unfolding value_in
no_leap_day = refl

-- half past twelve, and 24 o'clock
time_of_day : new_value (gps 7) (codes "12,30,0")
    ≡ Some (Ok (Rational (fraction 12 1 ∷ fraction 30 1 ∷ fraction 0 1 ∷ [])))
unfolding value_in
time_of_day = refl

no_time : new_value (gps 7) (codes "24,0,0") ≡ Some (Err OutOfRange)
unfolding value_in
no_time = refl

-- an offset from UTC, and one whose minutes are too many
offset_from_utc : new_value (exif 0x9010) (codes "-03:30") ≡ Some (Ok (one (codes "-03:30")))
unfolding value_in parse_offset
offset_from_utc = refl

no_offset : new_value (exif 0x9010) (codes "+01:60") ≡ Some (Err OutOfRange)
unfolding value_in parse_offset
no_offset = refl

-- the method is a text behind its character code
method : new_value (gps 27) (codes "GPS")
    ≡ Some (Ok (Undefined (65 ∷ 83 ∷ 67 ∷ 73 ∷ 73 ∷ 0 ∷ 0 ∷ 0 ∷ 71 ∷ 80 ∷ 83 ∷ []) 0))
unfolding value_in
method = refl

-- the width of a picture has a type, but no new field
no_new_width : type_of_new (record { 0 = context.Tiff; 1 = 0x100 }) ≡ None
no_new_width = refl
