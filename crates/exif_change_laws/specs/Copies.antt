-- Files that got the Exif data of another picture.
use Rattle.std.specs.Prelude.{◌≡◌, ◌<◌, ◌-◌, ◌^◌, ℕ, List, length, Result, Ok}
use Rattle.exif_types.specs.Refusals.{Refusal, ◌>>=◌}
use Rattle.exif_change.specs.Changed.{whole}
use Rattle.exif_change.specs.Reading.{Contents, data_contents}
use Rattle.exif_copy.specs.Copied.{copied}
use Rattle.exif_copy.specs.Found.{data_found, exif_found, format_for}
use Rattle.exif_copy.specs.declared.copying.Shape.TheVariants.{Source}

-- a picture that has Exif data, a file into which they were put, and the new file
pub record CopiedOnce : Type 0 where
  pub from : List ℕ
  pub to : List ℕ
  pub new : List ℕ
  pub contents : Contents
  pub read : exif_found from ≡ Ok contents
  pub made : copied Source from to ≡ Ok (whole new)
  pub short : length new < 2 ^ 64 - 1

-- what is read of the new file in the format that the file had
abbrev pub read_again : CopiedOnce → Result Contents Refusal
read_again c = data_found (format_for c.to) c.new >>= data_contents
