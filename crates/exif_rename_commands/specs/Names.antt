-- The fields of a picture that is named.
use Rattle.std.specs.Prelude.{List, [], Option, Some, None}
use Rattle.exif_types.specs.Contents.{ExifContents}
use Rattle.exif_types.specs.declared.field.Field.{Field}

-- a picture without Exif data has none
abbrev pub fields_of : Option ExifContents → List Field
fields_of None = []
fields_of (Some exif) = exif.fields
