-- What people ask of a picture first.
use Rattle.std.specs.Prelude.{ℕ, List, [], ◌∷◌, ◌++◌, codes, Option, Some, None}
use Rattle.json.specs.Json as J
use Rattle.json.specs.Json.{Json}
use Rattle.exif_table.specs.declared.context.Context.TheVariants.{Tiff, Exif}
use Rattle.exif_types.specs.declared.field.Field.{Field}
use Rattle.exif_datetime.specs.declared.datetime.DateTime.{DateTime}
use Rattle.exif_summary.specs.Dates.{date_of, fraction_of, iso_text, taken}
use Rattle.exif_summary.specs.Finding.{degrees_of, number_of, orientation_of, text_found}
use Rattle.exif_summary.specs.Coordinates.{Degrees, degrees_text, latitude, longitude}
use Rattle.exif_summary.specs.Columns.{either_number}
use Rattle.exif_json.specs.Texts.{text_json}
use Rattle.exif_json.specs.Trees.{object, unsigned}

-- a member where there is something to report
abbrev pub maybe : {A : Type 0} → List ℕ → (A → Json) → Option A → List (List ℕ × Json)
maybe name json None = []
maybe name json (Some x) = (name, json x) ∷ []

-- a coordinate as a number of degrees with seven digits behind the point
abbrev pub degrees_json : Degrees → Json
degrees_json d = J.number (degrees_text d.negative d.units)

-- a date, with the digits of the fraction of its second, as a string of ISO 8601
abbrev pub date_json : List ℕ → DateTime → Json
date_json digits d = J.string (iso_text digits d)

-- its orientation and when it was taken
abbrev pub standing_members : List Field → List (List ℕ × Json)
standing_members fields =
    maybe (codes "orientation") unsigned (orientation_of fields)
    ++ maybe (codes "date_taken") (date_json (fraction_of fields taken)) (date_of fields taken)

-- where it was taken
abbrev pub location_members : List Field → List (List ℕ × Json)
location_members fields =
    maybe (codes "latitude") degrees_json (degrees_of fields latitude)
    ++ maybe (codes "longitude") degrees_json (degrees_of fields longitude)

-- by which camera
abbrev pub camera_members : List Field → List (List ℕ × Json)
camera_members fields =
    maybe (codes "make") text_json (text_found fields Tiff 271)
    ++ maybe (codes "model") text_json (text_found fields Tiff 272)

-- its width and its height
abbrev pub size_members : List Field → List (List ℕ × Json)
size_members fields =
    maybe (codes "width") unsigned
    (either_number (number_of fields Exif 40962) (number_of fields Tiff 256))
    ++ maybe (codes "height") unsigned
    (either_number (number_of fields Exif 40963) (number_of fields Tiff 257))

-- how a picture is turned, when, where and by which camera it was taken, and its size, in one
-- object
abbrev pub summary_json : List Field → Json
summary_json fields = object (standing_members fields
    ++ (location_members fields ++ (camera_members fields ++ size_members fields)))
