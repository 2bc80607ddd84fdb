-- The formats of pictures, and their signatures.
use Rattle.std.specs.Prelude.{ℕ, List, take, codes, Bool, ◌||◌, if◌then◌else◌, Option, None, Some}
use Rattle.std.specs.Str.{bytes_eq}
use Rattle.exif_containers.specs.Container as container
use Rattle.exif_containers.specs.declared.container.Format.{Format}
use Rattle.exif_containers.specs.declared.container.Format.TheVariants as known
use Rattle.exif_formats.specs.Jxl.{begins_codestream, begins_jxl}
use Rattle.exif_containers.specs.Png.{begins_png}
use Rattle.exif_formats.specs.Cr3.{begins_cr3}
use Rattle.exif_formats.specs.Raf.{begins_raf}
use Rattle.exif_formats.specs.declared.format.PictureFormat.{PictureFormat}
use Rattle.exif_formats.specs.declared.format.PictureFormat.TheVariants.{Container, Png, JpegXl, Raf, Orf, Rw2, Cr3}

-- whether bytes begin a JPEG XL file (ISO/IEC 18181-2, 9.1; ISO/IEC 18181-1, Annex B)
abbrev pub begins_jpeg_xl : List ℕ → Bool
begins_jpeg_xl bytes = begins_jxl bytes || begins_codestream bytes

-- whether bytes begin a raw file of Olympus
abbrev pub begins_orf : List ℕ → Bool
begins_orf bytes =
    bytes_eq (take 4 bytes) (codes "IIRO") || bytes_eq (take 4 bytes) (codes "IIRS")
    || bytes_eq (take 4 bytes) (codes "MMOR")

-- whether bytes begin a raw file of Panasonic
abbrev pub begins_rw2 : List ℕ → Bool
begins_rw2 bytes = bytes_eq (take 4 bytes) (codes "IIU\0")

-- the format that a signature begins, beside the containers of Exif data
unfoldable pub other_format_in : List ℕ → Option PictureFormat
other_format_in signature =
    if begins_png signature then Some Png else
    (if begins_jpeg_xl signature then Some JpegXl else
    (if begins_raf signature then Some Raf else
    (if begins_orf signature then Some Orf else
    (if begins_rw2 signature then Some Rw2 else
    (if begins_cr3 signature then Some Cr3 else None)))))

-- the format of a container, or another one
abbrev pub known_or : Option Format → Option PictureFormat → Option PictureFormat
known_or (Some format) other = Some (Container format)
known_or None other = other

-- the format that a signature begins
unfoldable pub format_in : List ℕ → Option PictureFormat
format_in signature = known_or (container.format_in signature) (other_format_in signature)

-- the name of a format
abbrev pub format_name : PictureFormat → List ℕ
format_name (Container known.Tiff) = codes "TIFF"
format_name (Container known.Jpeg) = codes "JPEG"
format_name (Container known.Heif) = codes "HEIF"
format_name (Container known.WebP) = codes "WebP"
format_name Png = codes "PNG"
format_name JpegXl = codes "JPEG XL"
format_name Raf = codes "RAF"
format_name Orf = codes "ORF"
format_name Rw2 = codes "RW2"
format_name Cr3 = codes "CR3"
