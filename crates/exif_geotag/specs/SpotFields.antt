-- The fields that a picture gets with a location (Exif 2.32, 4.6.6, by the numbers of their tags).
use Rattle.std.specs.Prelude.{ℕ, ◌+◌, ◌-◌, ◌*◌, ◌/◌, ◌%◌, ◌==◌, nat_lt, if◌then◌else◌, List, [], ◌∷◌, ◌++◌, codes, Option, Some, None}
use Rattle.std.specs.Fmt.{decimal}
use Rattle.exif_table.specs.declared.context.Context.TheVariants.{Gps}
use Rattle.exif_text.specs.Plain.{zero_filled}
use Rattle.exif_text.specs.declared.date.Date.{Date}
use Rattle.exif_text.specs.declared.rational.Rational.{Rational}
use Rattle.exif_types.specs.declared.field.Field.{Field}
use Rattle.exif_types.specs.declared.tag.Tag.{Tag}
use Rattle.exif_types.specs.declared.value.Value.{Value}
use Rattle.exif_types.specs.declared.value.Value.TheVariants as value
use Rattle.exif_geotag.specs.declared.moment.Moment.{Moment}
use Rattle.exif_geotag.specs.declared.spot.Spot.{Spot}

-- a field of the primary image
abbrev pub field : Tag → Value → Field
field tag value = record { tag = tag; ifd_num = record { 0 = 0 }; value = value }

-- the same with a text
abbrev pub text_field : Tag → List ℕ → Field
text_field tag text = field tag (value.Ascii (text ∷ []))

-- how far two numbers are apart
abbrev pub distance : ℕ → ℕ → ℕ
distance a b = if nat_lt a b then b - a else a - b

-- the text of a reference, by the side of its base on which a number is
abbrev pub side : ℕ → List ℕ → List ℕ → ℕ → List ℕ
side base below above units = if nat_lt units base then below else above

-- degrees, minutes and seconds of so many units of 1e-7 degree
abbrev pub degrees : ℕ → List Rational
degrees units =
    record { num = units / 10000000; denom = 1 }
    ∷ record { num = units % 10000000 * 60 / 10000000; denom = 1 }
    ∷ record { num = units % 10000000 * 60 % 10000000 * 60; denom = 10000000 }
    ∷ []

-- GPSLatitudeRef and GPSLatitude; the units count from the south pole on
abbrev pub latitude_fields : ℕ → List Field
latitude_fields units =
    text_field (Gps, 1) (side 900000000 (codes "S") (codes "N") units)
    ∷ field (Gps, 2) (value.Rational (degrees (distance units 900000000))) ∷ []

-- GPSLongitudeRef and GPSLongitude; the units count from 180 degrees west on
abbrev pub longitude_fields : ℕ → List Field
longitude_fields units =
    text_field (Gps, 3) (side 1800000000 (codes "W") (codes "E") units)
    ∷ field (Gps, 4) (value.Rational (degrees (distance units 1800000000))) ∷ []

-- GPSAltitudeRef, which is 1 below the sea level, and GPSAltitude in metres; the millimetres count
-- from 1000 km below the sea level on
abbrev pub altitude_fields : Option ℕ → List Field
altitude_fields None = []
altitude_fields (Some units) =
    field (Gps, 5) (value.Byte (side 1000000000 (1 ∷ []) (0 ∷ []) units))
    ∷ field (Gps, 6)
    (value.Rational (record { num = distance units 1000000000; denom = 1000 } ∷ [])) ∷ []

-- a day: `YYYY:MM:DD`
abbrev pub day_text : Date → List ℕ
day_text date =
    zero_filled 4 (decimal date.year)
    ++ (codes ":" ++ (zero_filled 2 (decimal date.month)
    ++ (codes ":" ++ zero_filled 2 (decimal date.day))))

-- seconds, with thousandths where there are some
abbrev pub seconds : ℕ → ℕ → Rational
seconds second millisecond =
    if millisecond == 0 then record { num = second; denom = 1 }
    else record { num = second * 1000 + millisecond; denom = 1000 }

-- GPSDateStamp and GPSTimeStamp, of UTC
abbrev pub time_fields : Moment → List Field
time_fields moment =
    text_field (Gps, 29) (day_text moment.date)
    ∷ field (Gps, 7) (value.Rational (record { num = moment.time.hour; denom = 1 }
    ∷ record { num = moment.time.minute; denom = 1 }
    ∷ seconds moment.time.second moment.millisecond ∷ [])) ∷ []

-- all of them
abbrev pub spot_fields : Spot → List Field
spot_fields spot =
    latitude_fields spot.fix.latitude
    ++ (longitude_fields spot.fix.longitude
    ++ (altitude_fields spot.fix.elevation ++ time_fields spot.moment))
