-- The Exif data of a picture, by its format, where they are a block of their own that can be put
-- into another picture.
use Rattle.std.specs.Prelude.{ℕ, List, take, codes, Option, None, Some, Result, Err}
use Rattle.exif_types.specs.Refusals.{Refusal, not_supported, ◌>>=◌}
use Rattle.exif_containers.specs.Container.{container_answer, data_of, unknown_format}
use Rattle.exif_containers.specs.declared.container.Format.TheVariants as known
use Rattle.exif_formats.specs.Jxl.{jxl_answer}
use Rattle.exif_formats.specs.Raf.{raf_answer}
use Rattle.exif_formats.specs.Formats.{format_in}
use Rattle.exif_formats.specs.Pictures.{png_data}
use Rattle.exif_formats.specs.declared.format.PictureFormat.{PictureFormat}
use Rattle.exif_formats.specs.declared.format.PictureFormat.TheVariants.{Container, Png, JpegXl, Raf, Orf, Rw2, Cr3}
use Rattle.exif_change.specs.Reading.{Contents, data_contents}

-- the format of a picture, by its first 4096 bytes
abbrev pub format_for : List ℕ → Option PictureFormat
format_for file = format_in (take 4096 file)

-- a TIFF file is such data as a whole, with the picture in them
abbrev pub tiff_refused : Refusal
tiff_refused =
    not_supported (codes "no Exif data are copied from TIFF files, which are such data as a whole")

-- so are most raw files, and others have their fields in several parts
abbrev pub raw_refused : Refusal
raw_refused = not_supported (codes "no Exif data are copied from raw files")

-- the Exif data of a file of a format
abbrev pub data_found : Option PictureFormat → List ℕ → Result (List ℕ) Refusal
data_found None file = Err unknown_format
data_found (Some (Container known.Jpeg)) file = container_answer file
data_found (Some (Container known.Heif)) file = container_answer file
data_found (Some (Container known.WebP)) file = container_answer file
data_found (Some Png) file = png_data file
data_found (Some JpegXl) file = data_of (jxl_answer file)
data_found (Some Raf) file = data_of (raf_answer file)
data_found (Some (Container known.Tiff)) file = Err tiff_refused
data_found (Some Orf) file = Err raw_refused
data_found (Some Rw2) file = Err raw_refused
data_found (Some Cr3) file = Err raw_refused

-- those of a picture, with what is read of them
abbrev pub exif_found : List ℕ → Result Contents Refusal
exif_found file = data_found (format_for file) file >>= data_contents
