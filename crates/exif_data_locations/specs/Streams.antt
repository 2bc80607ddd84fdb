-- The picture of a TIFF file that is stored in JPEG streams: by its compression (tag 259: 6 is the
-- JPEG of TIFF 6.0, section 22; 7 that of TIFF Technical Note 2; 34892 the lossy JPEG of DNG), and
-- the offsets of strips (273), tiles (324) or of a stream (513).
use Rattle.std.specs.Prelude.{ℕ, ◌==◌, ◌&&◌, ◌||◌, Bool, false, List, Option, None, Some}
use Rattle.std.specs.List.{list_any}
use Rattle.exif_table.specs.declared.context.Context.TheVariants.{Tiff}
use Rattle.exif_text.specs.declared.ifd.In.{In}
use Rattle.exif_types.specs.Lookup.{is_named}
use Rattle.exif_types.specs.Numbers.{number_in}
use Rattle.exif_types.specs.declared.field.Field.{Field}

-- the first directory of the chain
abbrev pub first : In
first = record { 0 = 0 }

-- whether a field of the first directory has this number in its tag
abbrev pub first_named : ℕ → Field → Bool
first_named number f = is_named (record { 0 = Tiff; 1 = number }) first f

-- whether a compression is JPEG
abbrev pub is_jpeg : Option ℕ → Bool
is_jpeg None = false
is_jpeg (Some n) = (n == 6) || ((n == 7) || (n == 34892))

-- whether a field is the compression of the first picture, and says JPEG
abbrev pub stores_jpeg : Field → Bool
stores_jpeg f = first_named 259 f && is_jpeg (number_in f.value 0)

-- whether a field has the offsets of its strips, its tiles or its stream
abbrev pub is_place : Field → Bool
is_place f = first_named 273 f || (first_named 324 f || first_named 513 f)

-- whether fields describe a picture in JPEG streams
abbrev pub stores_streams : List Field → Bool
stores_streams fields = list_any stores_jpeg fields && list_any is_place fields
