-- What is asked of a picture, each as one number or one text.
use Rattle.std.specs.Prelude.{ℕ, ◌==◌, ◌||◌, Bool, true, false, is_some, List, [], ◌∷◌, ◌++◌, codes, Option, Some, None, if◌then◌else◌, option_map, option_and_then}
use Rattle.std.specs.Fmt.{sign_text}
use Rattle.exif_table.specs.declared.context.Context.{Context}
use Rattle.exif_table.specs.declared.context.Context.TheVariants.{Tiff, Exif, Gps}
use Rattle.exif_text.specs.Decimal.{rational_decimal, shown_decimal}
use Rattle.exif_text.specs.declared.rational.Rational.{Rational}
use Rattle.exif_types.specs.Lookup.{last_named}
use Rattle.exif_types.specs.declared.field.Field.{Field}
use Rattle.exif_types.specs.declared.value.Value.{Value}
use Rattle.exif_types.specs.declared.value.Value.TheVariants as value
use Rattle.exif_summary.specs.Coordinates.{Degrees, degrees_text, latitude, longitude}
use Rattle.exif_summary.specs.Dates.{changed, date_of, digitized, fraction_of, iso_text, taken}
use Rattle.exif_summary.specs.Finding.{degrees_of, found, number_of, orientation_of, text_found}
use Rattle.exif_summary.specs.declared.columns.Cell.{Cell}
use Rattle.exif_summary.specs.declared.columns.Cell.TheVariants as cells
use Rattle.exif_summary.specs.declared.columns.Column.{Column}
use Rattle.exif_summary.specs.declared.columns.Column.TheVariants as column
use Rattle.exif_summary.specs.declared.columns.Height.{Height}
use Rattle.exif_summary.specs.declared.dates.Moment.{Moment}

-- one number or one text: a whole number, the text of a decimal number, bytes in an encoding that
-- is not known, or the text of a date
pub data Shown : Type 0 where
  whole : ℕ → Shown
  decimal : List ℕ → Shown
  bytes : List ℕ → Shown
  date : List ℕ → Shown

-- an altitude
abbrev pub height_shown : Height → List ℕ
height_shown h = sign_text h.is_below ++ shown_decimal h.metres

-- what a cell shows
abbrev pub cell_view : Cell → Shown
cell_view (cells.Number n) = whole n
cell_view (cells.Decimal d) = decimal (shown_decimal d)
cell_view (cells.Degrees d) = decimal (degrees_text d.negative d.units)
cell_view (cells.Height h) = decimal (height_shown h)
cell_view (cells.Text t) = bytes t.now
cell_view (cells.Date d) = date (iso_text d.fraction.now d.date)

-- its name in tables
abbrev pub name_of : Column → List ℕ
name_of column.Width = codes "width"
name_of column.Height = codes "height"
name_of column.Orientation = codes "orientation"
name_of column.Make = codes "make"
name_of column.Model = codes "model"
name_of column.Lens = codes "lens"
name_of column.BodySerial = codes "body_serial"
name_of column.LensSerial = codes "lens_serial"
name_of column.Taken = codes "date_taken"
name_of column.Digitized = codes "date_digitized"
name_of column.Changed = codes "date_modified"
name_of column.Exposure = codes "exposure_time"
name_of column.FNumber = codes "f_number"
name_of column.Sensitivity = codes "iso"
name_of column.FocalLength = codes "focal_length"
name_of column.FocalLength35 = codes "focal_length_35mm"
name_of column.Latitude = codes "latitude"
name_of column.Longitude = codes "longitude"
name_of column.Altitude = codes "altitude"
name_of column.Artist = codes "artist"
name_of column.Copyright = codes "copyright"
name_of column.Description = codes "description"
name_of column.Thumbnail = codes "has_thumbnail"

-- all of them, in the order of tables
abbrev pub columns : List Column
columns = column.Width ∷ column.Height ∷ column.Orientation ∷ column.Make ∷ column.Model
    ∷ column.Lens ∷ column.BodySerial ∷ column.LensSerial ∷ column.Taken ∷ column.Digitized
    ∷ column.Changed ∷ column.Exposure ∷ column.FNumber ∷ column.Sensitivity
    ∷ column.FocalLength ∷ column.FocalLength35 ∷ column.Latitude ∷ column.Longitude
    ∷ column.Altitude ∷ column.Artist ∷ column.Copyright ∷ column.Description
    ∷ column.Thumbnail ∷ []

-- a number of the picture's own size, else of the image's
abbrev pub either_number : Option ℕ → Option ℕ → Option ℕ
either_number (Some n) other = Some n
either_number None other = other

-- the first fraction of a value of fractions, if it is not over 0
abbrev pub first_fraction : Value → Option Rational
first_fraction (value.Rational (r ∷ rs)) = if r.denom == 0 then None else Some r
first_fraction _ = None

-- that of a tag
abbrev pub fraction_found : List Field → Context → ℕ → Option Rational
fraction_found fields context number = option_and_then first_fraction (found fields context number)

-- a decimal number, if there is one
abbrev pub decimal_in : Option Rational → Option Shown
decimal_in fraction = option_map (λ r. decimal (rational_decimal r)) fraction

-- a coordinate, if there is one
abbrev pub degrees_shown : Option Degrees → Option Shown
degrees_shown coordinate = option_map (λ d. decimal (degrees_text d.negative d.units)) coordinate

-- a date, if there is one
abbrev pub date_shown : List Field → Moment → Option Shown
date_shown fields moment =
    option_map (λ d. date (iso_text (fraction_of fields moment) d)) (date_of fields moment)

-- whether an altitude is below sea level (Exif 2.32, 4.6.6, GPSAltitudeRef; Exif 3.0 has 2 and 3)
abbrev pub is_below : Option ℕ → Bool
is_below None = false
is_below (Some n) = n == 1 || n == 3

-- the altitude, if it is known (Exif 2.32, 4.6.6, GPSAltitude)
abbrev pub altitude_of : List Field → Option Shown
altitude_of fields =
    option_map
    (λ r. decimal (sign_text (is_below (number_of fields Gps 5)) ++ rational_decimal r))
    (fraction_found fields Gps 6)

-- whether a picture has a thumbnail: the tag of its offset in the second directory
abbrev pub has_thumbnail : List Field → Bool
has_thumbnail fields =
    is_some (last_named fields (record { 0 = Tiff; 1 = 513 }) (record { 0 = 1 }))

-- a whole number, if there is one
abbrev pub number_shown : Option ℕ → Option Shown
number_shown n = option_map (λ n. whole n) n

-- a text, if there is one
abbrev pub text_shown : List Field → Context → ℕ → Option Shown
text_shown fields context number = option_map (λ b. bytes b) (text_found fields context number)

-- what a picture says of a column
abbrev pub cell_of : List Field → Column → Option Shown
cell_of fields column.Width =
    number_shown (either_number (number_of fields Exif 40962) (number_of fields Tiff 256))
cell_of fields column.Height =
    number_shown (either_number (number_of fields Exif 40963) (number_of fields Tiff 257))
cell_of fields column.Orientation = number_shown (orientation_of fields)
cell_of fields column.Make = text_shown fields Tiff 271
cell_of fields column.Model = text_shown fields Tiff 272
cell_of fields column.Lens = text_shown fields Exif 42036
cell_of fields column.BodySerial = text_shown fields Exif 42033
cell_of fields column.LensSerial = text_shown fields Exif 42037
cell_of fields column.Taken = date_shown fields taken
cell_of fields column.Digitized = date_shown fields digitized
cell_of fields column.Changed = date_shown fields changed
cell_of fields column.Exposure = decimal_in (fraction_found fields Exif 33434)
cell_of fields column.FNumber = decimal_in (fraction_found fields Exif 33437)
cell_of fields column.Sensitivity = number_shown (number_of fields Exif 34855)
cell_of fields column.FocalLength = decimal_in (fraction_found fields Exif 37386)
cell_of fields column.FocalLength35 = number_shown (number_of fields Exif 41989)
cell_of fields column.Latitude = degrees_shown (degrees_of fields latitude)
cell_of fields column.Longitude = degrees_shown (degrees_of fields longitude)
cell_of fields column.Altitude = altitude_of fields
cell_of fields column.Artist = text_shown fields Tiff 315
cell_of fields column.Copyright = text_shown fields Tiff 33432
cell_of fields column.Description = text_shown fields Tiff 270
cell_of fields column.Thumbnail = Some (whole (if has_thumbnail fields then 1 else 0))
