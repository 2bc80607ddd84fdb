-- The signatures of formats that are not read.
use Rattle.std.specs.Prelude.{ℕ, List, [], ◌∷◌, ◌++◌, Bool, ◌||◌, ◌&&◌, not, if◌then◌else◌, Option, None, Some, drop, nat_eq, codes}
use Rattle.std.specs.List.{starts_with}
use Rattle.std.specs.Option.{option_or}
use Rattle.exif_decisions.specs.declared.formats.Unsupported.{Unsupported}
use Rattle.exif_decisions.specs.declared.formats.Unsupported.TheVariants.{Gif, Bmp, Psd, Raw, Video, Jpeg2000, BigTiff, Svg, Pdf}

-- raw files of Fujifilm, Canon (CRW, CR3), Panasonic, Olympus, Minolta and Sigma
abbrev pub begins_raw : List ℕ → Bool
begins_raw head = starts_with nat_eq head (codes "FUJIFILMCCD-RAW")
    || starts_with nat_eq (drop 6 head) (codes "HEAPCCDR")
    || starts_with nat_eq (drop 4 head) (codes "ftypcrx ")
    || starts_with nat_eq head (codes "IIU" ++ 0 ∷ [])
    || starts_with nat_eq head (codes "IIR")
    || starts_with nat_eq head (codes "MMOR")
    || starts_with nat_eq head (0 ∷ codes "MRM")
    || starts_with nat_eq head (codes "FOVb")

-- JPEG 2000: the signature box (ISO/IEC 15444-1, I.5.1), or SOC and SIZ of a codestream (A.4)
abbrev pub begins_jpeg2000 : List ℕ → Bool
begins_jpeg2000 head =
    starts_with nat_eq (drop 4 head) (codes "jP  " ++ 0x0d ∷ 0x0a ∷ 0x87 ∷ 0x0a ∷ [])
    || starts_with nat_eq head (0xff ∷ 0x4f ∷ 0xff ∷ 0x51 ∷ [])

-- BigTIFF: the number 43 in either byte order
abbrev pub begins_big_tiff : List ℕ → Bool
begins_big_tiff head = starts_with nat_eq head (codes "II" ++ 43 ∷ 0 ∷ [])
    || starts_with nat_eq head (codes "MM" ++ 0 ∷ 43 ∷ [])

-- HEIF and AVIF files by the first three bytes of their major brand (ISO/IEC 23008-12, annex B)
abbrev pub begins_still : List ℕ → Bool
begins_still head = starts_with nat_eq (drop 8 head) (codes "hei")
    || starts_with nat_eq (drop 8 head) (codes "hev")
    || starts_with nat_eq (drop 8 head) (codes "avi")
    || starts_with nat_eq (drop 8 head) (codes "mif")
    || starts_with nat_eq (drop 8 head) (codes "msf")

-- videos: a first box of ISO/IEC 14496-12 or of QuickTime, the EBML header of Matroska, AVI
abbrev pub begins_video : List ℕ → Bool
begins_video head = starts_with nat_eq (drop 4 head) (codes "ftyp") && not (begins_still head)
    || starts_with nat_eq (drop 4 head) (codes "moov")
    || starts_with nat_eq (drop 4 head) (codes "mdat")
    || starts_with nat_eq (drop 4 head) (codes "wide")
    || starts_with nat_eq (drop 4 head) (codes "pnot")
    || starts_with nat_eq head (0x1a ∷ 0x45 ∷ 0xdf ∷ 0xa3 ∷ [])
    || starts_with nat_eq head (codes "RIFF") && starts_with nat_eq (drop 8 head) (codes "AVI ")

-- GIF89a (section 17), BMP (its reserved fields are 0), Photoshop, and raw formats
abbrev pub picture : List ℕ → Option Unsupported
picture head =
    if starts_with nat_eq head (codes "GIF8") then Some Gif
    else if starts_with nat_eq head (codes "BM") && starts_with nat_eq (drop 6 head) (0 ∷ 0 ∷ 0 ∷ 0 ∷ []) then Some Bmp
    else if starts_with nat_eq head (codes "8BPS") then Some Psd
    else if begins_raw head then Some Raw
    else None

-- those above, and PDF (ISO 32000-1, 7.5.2)
abbrev pub other : List ℕ → Option Unsupported
other head =
    if begins_jpeg2000 head then Some Jpeg2000
    else if begins_big_tiff head then Some BigTiff
    else if starts_with nat_eq head (codes "%PDF-") then Some Pdf
    else if begins_video head then Some Video
    else None

-- a picture, or another format
abbrev pub unsupported : List ℕ → Option Unsupported
unsupported head = option_or (picture head) (other head)

-- what a message names a format
abbrev pub format_text : Unsupported → List ℕ
format_text Gif = codes "GIF"
format_text Bmp = codes "BMP"
format_text Psd = codes "PSD"
format_text Raw = codes "raw"
format_text Video = codes "video"
format_text Jpeg2000 = codes "JPEG 2000"
format_text BigTiff = codes "BigTIFF"
format_text Svg = codes "SVG"
format_text Pdf = codes "PDF"
