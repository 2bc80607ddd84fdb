-- The thumbnail of a picture: where it is, and why there is none.
use Rattle.std.specs.Prelude.{ℕ, List, codes, Option, Some, None, Result, Ok, Err}
use Rattle.exif_change.specs.Refusals.{Reason, no_thumbnail, reading}
use Rattle.exif_containers.specs.declared.container.Format.TheVariants as known
use Rattle.exif_formats.specs.declared.format.PictureFormat.{PictureFormat}
use Rattle.exif_formats.specs.declared.format.PictureFormat.TheVariants as format
use Rattle.exif_thumbnails.specs.declared.reading.Thumbnail.{Thumbnail}
use Rattle.exif_thumbnails.specs.declared.reading.Thumbnail.TheVariants.{Jpeg, TooLong, CutOff, Item}
use Rattle.exif_types.specs.Refusals.{invalid_format}
use Rattle.exif_inputs.specs.declared.thumbnails.Kept.{Kept}
use Rattle.exif_inputs.specs.declared.thumbnails.Kept.TheVariants as kept

-- where a picture of a format has its thumbnail: in boxes of its own, where the Exif data say that
-- are the file, there or in a JPEG stream of theirs, as an item, or in its Exif data
abbrev pub kept_in : Option PictureFormat → Kept
kept_in None = kept.Data
kept_in (Some format.Cr3) = kept.Box
kept_in (Some (format.Container known.Tiff)) = kept.File
kept_in (Some format.Orf) = kept.File
kept_in (Some format.Rw2) = kept.Stream
kept_in (Some (format.Container known.Heif)) = kept.Items
kept_in (Some (format.Container known.Jpeg)) = kept.Data
kept_in (Some (format.Container known.WebP)) = kept.Data
kept_in (Some format.Png) = kept.Data
kept_in (Some format.JpegXl) = kept.Data
kept_in (Some format.Raf) = kept.Data

-- the bytes of a thumbnail, or why there are none
abbrev pub jpeg_of : Option Thumbnail → Result (List ℕ) Reason
jpeg_of None = Err no_thumbnail
jpeg_of (Some (Jpeg jpeg)) = Ok jpeg.items
jpeg_of (Some TooLong) =
    Err (reading (invalid_format (codes "The thumbnail is longer than 1 MiB")))
jpeg_of (Some CutOff) = Err (reading (invalid_format (codes "The thumbnail is cut off")))
jpeg_of (Some (Item coding)) =
    Err (reading (invalid_format
    (codes "The thumbnail is an item of the HEIF file, which is not read")))
