-- What a page shows of a picture, by its row and its file.
use Rattle.std.specs.Prelude.{ℕ, List, codes, Option, Some, None, Result, Ok, Err}
use Rattle.std.specs.Borrow.{Bor}
use Rattle.exif_catalog_file.specs.declared.visiting.PictureRow.{PictureRow}
use Rattle.exif_page.specs.declared.entries.Thumbnail as page
use Rattle.exif_page.specs.declared.entries.Thumbnail.TheVariants.{Line}
use Rattle.exif_page.specs.declared.entries.Thumbnail.TheVariants as seen
use Rattle.exif_page.specs.declared.facts.Facts.{Facts}
use Rattle.exif_thumbnails.specs.declared.heif.Coding.{Coding}
use Rattle.exif_thumbnails.specs.declared.heif.Coding.TheVariants as coding
use Rattle.exif_thumbnails.specs.declared.reading.Thumbnail.{Thumbnail}
use Rattle.exif_thumbnails.specs.declared.reading.Thumbnail.TheVariants.{Jpeg, TooLong, CutOff, Item}
use Rattle.exif_types.specs.Failures.{Failure}
use Rattle.exif_types.specs.declared.error.Error.TheVariants as error

-- what a row says of its picture, with a link to it
abbrev pub facts_of : PictureRow → Bor (List ℕ) → Facts
facts_of picture link = record {
  path = picture.path;
  link = Some link;
  orientation = picture.orientation;
  date_taken = picture.date_taken;
  make = picture.make;
  model = picture.model;
  exposure = record {
    time = picture.exposure_time;
    f_number = picture.f_number;
    iso = picture.iso;
    focal_length = picture.focal_length;
  };
  latitude = picture.latitude;
  longitude = picture.longitude;
}

-- what a card says of a thumbnail that is an item of a HEIF file
abbrev pub item_line : Coding → List ℕ
item_line coding.Hevc = codes "Thumbnail not shown: HEVC"
item_line coding.Av1 = codes "Thumbnail not shown: AV1"
item_line coding.Jpeg = codes "Thumbnail not shown: a JPEG item"
item_line coding.Other = codes "Thumbnail not shown: not a JPEG"

-- a picture, or a line that says why there is none
abbrev pub seen_as : page.Thumbnail → Result (List ℕ) (List ℕ)
seen_as (seen.Jpeg jpeg) = Ok jpeg.now
seen_as (Line line) = Err line.now

-- what a card has for a thumbnail
abbrev pub shown : Option Thumbnail → Result (List ℕ) (List ℕ)
shown (Some (Jpeg jpeg)) = Ok jpeg.items
shown (Some TooLong) = Err (codes "Thumbnail not shown: longer than 1 MiB")
shown (Some CutOff) = Err (codes "Thumbnail not shown: cut off")
shown (Some (Item coded)) = Err (item_line coded)
shown None = Err (codes "No thumbnail")

-- the thumbnail of a picture of which this was read, or why the picture could not be read; one
-- without Exif data has none
abbrev pub found_in : Result (Option Thumbnail) Failure → Result (Option Thumbnail) Failure
found_in (Ok found) = Ok found
found_in (Err (error.NotFound what)) = Ok None
found_in (Err (error.InvalidFormat text)) = Err (error.InvalidFormat text)
found_in (Err (error.Io cause)) = Err (error.Io cause)
found_in (Err (error.BlankValue text)) = Err (error.BlankValue text)
found_in (Err (error.TooBig text)) = Err (error.TooBig text)
found_in (Err (error.NotSupported text)) = Err (error.NotSupported text)
found_in (Err (error.UnexpectedValue text)) = Err (error.UnexpectedValue text)
found_in (Err (error.PartialResult partial)) = Err (error.PartialResult partial)
found_in (Err error.OutOfMemory) = Err error.OutOfMemory
