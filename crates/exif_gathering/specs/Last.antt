-- The row of a picture that was read.
use Rattle.std.specs.Prelude.{◌≡◌, ℕ, List, take, Option, option_map, IfSome, Result, Ok}
use Rattle.exif_catalog.specs.Values.{Stored}
use Rattle.exif_formats.specs.Formats.{format_in}
use Rattle.exif_formats.specs.Pictures.{ReadsPicture}
use Rattle.exif_formats.specs.declared.format.PictureFormat.{PictureFormat}
use Rattle.exif_formats.specs.declared.options.Options.{Options}
use Rattle.exif_inputs.specs.declared.stamps.FileStamp.{FileStamp}
use Rattle.exif_types.specs.Contents.{ExifContents}
use Rattle.exif_types.specs.Failures.{Failure}
use Rattle.exif_reader.specs.Found.{contents_of}
use Rattle.exif_gathering.specs.Rows.{row_for}

-- A row is that of a picture that was read so: its format is that of its first bytes, where they
-- are known, and its Exif data those that a reader answers, of which so many faults were skipped.
pub record IsRowOf (path : List ℕ) (stamp : FileStamp) (hash : Option (List ℕ)) (options : Options) (bytes : Option (List ℕ)) (faults : ℕ) (row : List Stored) : Type 0 where
  pub format : Option PictureFormat
  pub answer : Result ExifContents Failure
  pub exif : Option ExifContents
  pub is : row ≡ row_for path stamp hash format (option_map (λ it. it.fields) exif)
  pub contents : contents_of answer ≡ Ok (exif, faults)
  pub format_is : IfSome bytes (λ all. format ≡ format_in (take 4096 all))
  pub reads : IfSome bytes (λ all. ReadsPicture options.lenient options.limit all answer)
