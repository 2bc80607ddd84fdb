-- Exif data put into a picture in place of its own.
use Rattle.std.specs.Prelude.{ℕ, List, codes, Option, None, Some, Result, Err}
use Rattle.exif_types.specs.Refusals.{Refusal, not_supported}
use Rattle.exif_segments.specs.declared.remove.Remove.TheVariants.{Exif}
use Rattle.exif_containers.specs.declared.container.Format.TheVariants as known
use Rattle.exif_formats.specs.declared.format.PictureFormat.{PictureFormat}
use Rattle.exif_formats.specs.declared.format.PictureFormat.TheVariants.{Container, Png, JpegXl}
use Rattle.exif_change.specs.Changed.{Change}
use Rattle.exif_change.specs.Refusals.{Reason, as_read, reading, unknown_format}
use Rattle.exif_change.specs.Rewriting.{if_whole, rewritten_jpeg, rewritten_webp, stream_ended}
use Rattle.exif_parts.specs.Jxl.{jxl_rewritten}
use Rattle.exif_parts.specs.Png.{png_rewritten}

-- a JPEG XL file with these Exif data in place of its own; where it ends in a box, that is said
abbrev pub placed_in_jxl : List ℕ → List ℕ → Result Change Refusal
placed_in_jxl data' file = stream_ended (jxl_rewritten Exif (Some data') file)

-- other files are refused
abbrev pub target_refused : Reason
target_refused =
    reading
    (not_supported (codes "Exif data are copied into JPEG, WebP, PNG and JPEG XL files only"))

-- the file of a format with these Exif data in place of its own
abbrev pub placed : Option PictureFormat → List ℕ → List ℕ → Result Change Reason
placed None data' file = Err unknown_format
placed (Some (Container known.Jpeg)) data' file = as_read (rewritten_jpeg Exif (Some data') file)
placed (Some (Container known.WebP)) data' file = as_read (rewritten_webp Exif (Some data') file)
placed (Some Png) data' file = as_read (if_whole (png_rewritten Exif (Some data') file))
placed (Some JpegXl) data' file = as_read (placed_in_jxl data' file)
placed (Some format) data' file = Err target_refused
