-- What a picture says of a column has the column's type.
use Rattle.std.proofs.Common.{◌≡◌, ℕ, List, Option, Some, None, true, refl, option_map}
use Rattle.exif_summary.specs.Columns.{whole, decimal, bytes, date}
use Rattle.exif_summary.specs.declared.columns.Column.{Column}
use Rattle.exif_summary.specs.declared.columns.Column.TheVariants as column
use Rattle.exif_types.specs.declared.field.Field.{Field}
use Rattle.exif_catalog.specs.Laws.{ColumnTakes, takes}
use Rattle.exif_catalog_file.specs.Schema as type
use Rattle.exif_catalog.specs.Values.{maybe_shown}

-- whole numbers
pub whole_fits : (n : Option ℕ) → takes type.whole (maybe_shown (option_map (λ n. whole n) n)) ≡ true
whole_fits None = refl
whole_fits (Some n) = refl

-- decimal numbers
pub real_fits : {A : Type 0} (f : A → List ℕ) (x : Option A) → takes type.real (maybe_shown (option_map (λ x. decimal (f x)) x)) ≡ true
real_fits f None = refl
real_fits f (Some x) = refl

-- texts
pub text_fits : (b : Option (List ℕ)) → takes type.text (maybe_shown (option_map (λ b. bytes b) b)) ≡ true
text_fits None = refl
text_fits (Some b) = refl

-- dates
pub date_fits : {A : Type 0} (f : A → List ℕ) (x : Option A) → takes type.text (maybe_shown (option_map (λ x. date (f x)) x)) ≡ true
date_fits f None = refl
date_fits f (Some x) = refl

-- each column
pub fits : (fields : List Field) (column : Column) → ColumnTakes fields column
fits fields column.Width = whole_fits _
fits fields column.Height = whole_fits _
fits fields column.Orientation = whole_fits _
fits fields column.Make = text_fits _
fits fields column.Model = text_fits _
fits fields column.Lens = text_fits _
fits fields column.BodySerial = text_fits _
fits fields column.LensSerial = text_fits _
fits fields column.Taken = date_fits _ _
fits fields column.Digitized = date_fits _ _
fits fields column.Changed = date_fits _ _
fits fields column.Exposure = real_fits _ _
fits fields column.FNumber = real_fits _ _
fits fields column.Sensitivity = whole_fits _
fits fields column.FocalLength = real_fits _ _
fits fields column.FocalLength35 = whole_fits _
fits fields column.Latitude = real_fits _ _
fits fields column.Longitude = real_fits _ _
fits fields column.Altitude = real_fits _ _
fits fields column.Artist = text_fits _
fits fields column.Copyright = text_fits _
fits fields column.Description = text_fits _
fits fields column.Thumbnail = refl
