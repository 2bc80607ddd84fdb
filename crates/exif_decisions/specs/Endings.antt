-- What files are by the endings of their names.
use Rattle.std.specs.Prelude.{ℕ, List, Bool, ◌||◌, ◌-◌, if◌then◌else◌, Option, None, Some, drop, length, codes}
use Rattle.std.specs.Str.{str_eq_ignore_ascii_case}
use Rattle.exif_decisions.specs.declared.endings.Ending.{Ending}
use Rattle.exif_decisions.specs.declared.endings.Ending.TheVariants.{Jpeg, Png, Tiff, Heif, WebP, JpegXl, Raw, Gif, Bmp, Photoshop, Jpeg2000, Svg, Pdf, Video, Xmp, Aae, Thm}

-- whether a name has an ending, whatever the case of its letters
abbrev pub has : List ℕ → List ℕ → Bool
has name ending = str_eq_ignore_ascii_case (drop (length name - length ending) name) ending

abbrev pub is_jpeg : List ℕ → Bool
is_jpeg name = has name (codes ".jpg") || has name (codes ".jpeg") || has name (codes ".jpe")
    || has name (codes ".jfif") || has name (codes ".jif")

abbrev pub is_heif : List ℕ → Bool
is_heif name = has name (codes ".heic") || has name (codes ".heif") || has name (codes ".hif")
    || has name (codes ".heics") || has name (codes ".heifs") || has name (codes ".avif")
    || has name (codes ".avifs")

-- raw files that are TIFF data
abbrev pub is_raw_tiff : List ℕ → Bool
is_raw_tiff name = has name (codes ".dng") || has name (codes ".nef") || has name (codes ".nrw")
    || has name (codes ".cr2") || has name (codes ".arw") || has name (codes ".sr2")
    || has name (codes ".srf") || has name (codes ".srw") || has name (codes ".pef")
    || has name (codes ".erf") || has name (codes ".3fr") || has name (codes ".iiq")

-- other raw files
abbrev pub is_raw_other : List ℕ → Bool
is_raw_other name = has name (codes ".cr3") || has name (codes ".crw") || has name (codes ".raf")
    || has name (codes ".orf") || has name (codes ".rw2") || has name (codes ".rwl")
    || has name (codes ".raw") || has name (codes ".x3f") || has name (codes ".mrw")
    || has name (codes ".kdc") || has name (codes ".dcr") || has name (codes ".mef")

abbrev pub is_jpeg2000 : List ℕ → Bool
is_jpeg2000 name = has name (codes ".jp2") || has name (codes ".jpx") || has name (codes ".jpf")
    || has name (codes ".j2k") || has name (codes ".j2c")

abbrev pub is_video : List ℕ → Bool
is_video name = has name (codes ".mov") || has name (codes ".mp4") || has name (codes ".m4v")
    || has name (codes ".3gp") || has name (codes ".3g2") || has name (codes ".avi")
    || has name (codes ".mts") || has name (codes ".m2ts") || has name (codes ".mkv")
    || has name (codes ".webm") || has name (codes ".insv") || has name (codes ".lrv")
    || has name (codes ".mpg") || has name (codes ".wmv")

-- what files with the remaining endings of pictures are
abbrev pub other_picture : List ℕ → Option Ending
other_picture name =
    if has name (codes ".png") then Some Png
    else if has name (codes ".tif") || has name (codes ".tiff") then Some Tiff
    else if has name (codes ".webp") then Some WebP
    else if has name (codes ".jxl") then Some JpegXl
    else if has name (codes ".gif") then Some Gif
    else if has name (codes ".bmp") then Some Bmp
    else if has name (codes ".psd") || has name (codes ".psb") then Some Photoshop
    else if has name (codes ".svg") || has name (codes ".svgz") then Some Svg
    else if has name (codes ".pdf") then Some Pdf
    else None

-- what a file is by the ending of its name
abbrev pub ending_in : List ℕ → Option Ending
ending_in name =
    if is_jpeg name then Some Jpeg
    else if is_heif name then Some Heif
    else if is_raw_tiff name || is_raw_other name then Some Raw
    else if is_jpeg2000 name then Some Jpeg2000
    else if is_video name then Some Video
    else if has name (codes ".xmp") then Some Xmp
    else if has name (codes ".aae") then Some Aae
    else if has name (codes ".thm") then Some Thm
    else other_picture name

-- what a message names it
abbrev pub ending_text : Ending → List ℕ
ending_text Jpeg = codes "JPEG"
ending_text Png = codes "PNG"
ending_text Tiff = codes "TIFF"
ending_text Heif = codes "HEIF"
ending_text WebP = codes "WebP"
ending_text JpegXl = codes "JPEG XL"
ending_text Raw = codes "raw"
ending_text Gif = codes "GIF"
ending_text Bmp = codes "BMP"
ending_text Photoshop = codes "PSD"
ending_text Jpeg2000 = codes "JPEG 2000"
ending_text Svg = codes "SVG"
ending_text Pdf = codes "PDF"
ending_text Video = codes "video"
ending_text Xmp = codes "XMP"
ending_text Aae = codes "AAE"
ending_text Thm = codes "THM"
