-- A JPEG XL file written again: the boxes of its inventory that stay, in their order, and new Exif
-- data (ISO/IEC 18181-2, clause 9).
use Rattle.std.specs.Prelude.{ℕ, zero, suc, ◌+◌, List, [], ◌∷◌, ◌++◌, length, take, drop, codes, nat_lt, Bool, not, ◌&&◌, ◌||◌, ◌==◌, if◌then◌else◌, Option, None, Some, Result, Ok, Err}
use Rattle.std.specs.Str.{bytes_eq}
use Rattle.std.specs.Int.{from_be_bytes, to_be_bytes, w32}
use Rattle.exif_types.specs.Refusals.{Refusal, invalid_format, not_supported, ◌>>=◌}
use Rattle.exif_inventory.specs.JxlPieces.{box_piece, is_cut_box, is_jxl}
use Rattle.exif_inventory.specs.declared.piece.Piece.{Piece}
use Rattle.exif_segments.specs.Removing.{too_large}
use Rattle.exif_segments.specs.declared.remove.Remove.{Remove}
use Rattle.exif_parts.specs.Kept.{stays}
use Rattle.exif_parts.specs.Markers.{is_broken}
use Rattle.exif_parts.specs.Written.{Written}
use Rattle.exif_parts.specs.declared.rewritten.Ended.TheVariants.{Whole, Cut}

-- ---- refusals

-- a codestream without a container has no place for Exif data
abbrev pub no_container : Refusal
no_container = not_supported (codes "JPEG XL codestream without a container")

-- the file is shorter than its first box
abbrev pub broken_jxl : Refusal
broken_jxl = invalid_format (codes "Broken JPEG XL file")

-- the file does not begin as a JPEG XL file does
abbrev pub not_jxl : Refusal
not_jxl = invalid_format (codes "Not a JPEG XL file")

-- whether bytes begin as a naked codestream does (ISO/IEC 18181-1, annex D)
abbrev pub is_codestream : List ℕ → Bool
is_codestream file = bytes_eq (take 2 file) (255 ∷ 10 ∷ [])

-- ---- boxes

-- whether a box, whose header has so many bytes, is one of Exif data: as they are, or compressed,
-- where the type of what is compressed comes first (ISO/IEC 18181-2, clause 9)
abbrev pub is_exif_box : ℕ → List ℕ → Bool
is_exif_box header box =
    bytes_eq (take 4 (drop 4 box)) (codes "Exif")
    || bytes_eq (take 4 (drop 4 box)) (codes "brob")
    && bytes_eq (take 4 (drop header box)) (codes "Exif")

-- whether a box stays: one that is cut off does if it is the picture's
abbrev pub box_stays : Remove → Piece → List ℕ → Bool
box_stays remove piece box =
    not (is_broken piece.kind) && stays remove piece.kind None
    && not (is_exif_box piece.front box)

-- what stays of the box at the front of bytes
abbrev pub kept_box : Remove → Piece → List ℕ → List ℕ
kept_box remove piece bytes =
    if box_stays remove piece (take piece.len bytes) then take piece.len bytes else []

-- the boxes that were kept so far, and what stays of at most n of those that are left; each box has
-- a byte at least
unfoldable pub boxes_filtered : ℕ → Remove → List ℕ → List ℕ → Written
boxes_filtered n remove [] out = record { bytes = out; ended = Whole }
boxes_filtered zero remove (b ∷ bytes) out = record { bytes = out; ended = Cut }
boxes_filtered (suc n) remove (b ∷ bytes) out =
    let piece = box_piece (b ∷ bytes) in
    let out' = out ++ kept_box remove piece (b ∷ bytes) in
    if is_cut_box (b ∷ bytes) then record { bytes = out'; ended = Cut } else
    boxes_filtered n remove (drop piece.len (b ∷ bytes)) out'

-- ---- the place of new data

-- whether a box has no box behind it: its size is 0, and it goes to the end of the file
abbrev pub is_last : List ℕ → Bool
is_last bytes = from_be_bytes w32 (take 4 bytes) == 0

-- whether bytes begin with the box of the file's type, and a box may be behind it
abbrev pub begins_typed : List ℕ → Bool
begins_typed bytes =
    bytes_eq (take 4 (drop 4 bytes)) (codes "ftyp") && not (is_cut_box bytes)
    && not (is_last bytes)

-- how many bytes it has
abbrev pub type_len : List ℕ → ℕ
type_len bytes = if begins_typed bytes then (box_piece bytes).len else 0

-- how many bytes come before new data: the first box, and that of the file's type behind it
abbrev pub front_len : List ℕ → ℕ
front_len file = 12 + type_len (drop 12 file)

-- ---- the new file

-- the box of new Exif data: its size, its type, an offset of 0 and the TIFF data
abbrev pub exif_box : List ℕ → List ℕ
exif_box payload =
    to_be_bytes w32 (12 + length payload) ++ (codes "Exif" ++ (0 ∷ 0 ∷ 0 ∷ 0 ∷ payload))

-- that of new data, whose size four bytes have to hold, or no bytes where there are none
abbrev pub box_of : Option (List ℕ) → Result (List ℕ) Refusal
box_of None = Ok []
box_of (Some payload) =
    if nat_lt 4294967283 (length payload) then Err too_large else Ok (exif_box payload)

-- a file with this box
abbrev pub with_box : Remove → List ℕ → List ℕ → Written
with_box remove file new =
    boxes_filtered (length (drop (front_len file) file)) remove (drop (front_len file) file)
    (take (front_len file) file ++ new)

-- a file, if it is one in its container
abbrev pub contained : List ℕ → Result (List ℕ) Refusal
contained file =
    if is_codestream file then Err no_container else
    if nat_lt (length file) 12 then Err broken_jxl else
    if is_jxl file then Ok file else Err not_jxl

-- the same, if it is a file in its container
abbrev pub if_contained : Remove → List ℕ → List ℕ → Result Written Refusal
if_contained remove file new =
    if is_codestream file then Err no_container else
    if nat_lt (length file) 12 then Err broken_jxl else
    if is_jxl file then Ok (with_box remove file new) else Err not_jxl

-- a JPEG XL file without its Exif data, or without all metadata, and with new Exif data if there are
-- some
abbrev pub jxl_rewritten : Remove → Option (List ℕ) → List ℕ → Result Written Refusal
jxl_rewritten remove put file = box_of put >>= λ new. if_contained remove file new
