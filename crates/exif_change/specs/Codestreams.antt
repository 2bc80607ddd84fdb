-- How much of its codestream a JPEG XL file has. A file in a container has it in a box `jxlc`, or
-- in boxes `jxlp`, of which the last one is marked (ISO/IEC 18181-2, clause 9).
use Rattle.std.specs.Prelude.{ℕ, zero, suc, nat_le, nat_lt, Bool, false, List, [], ◌∷◌, take, drop, length, codes, Option, Some, None, if◌then◌else◌}
use Rattle.std.specs.Str.{bytes_eq}
use Rattle.exif_formats.specs.Jxl.{begins_codestream}
use Rattle.exif_inventory.specs.BoxHeaders.{box_header}
use Rattle.exif_inventory.specs.declared.boxes.BoxHeader.{BoxHeader}
use Rattle.exif_inventory.specs.JxlPieces.{box_piece, is_cut_box}
use Rattle.exif_change.specs.declared.codestream.Codestream.{Codestream}
use Rattle.exif_change.specs.declared.codestream.Codestream.TheVariants.{Absent, CutOff, Whole}

-- whether the first bit of data is set, as that of the last part of a codestream is
abbrev pub is_marked : List ℕ → Bool
is_marked [] = false
is_marked (b ∷ bytes) = nat_le 128 b

-- whether a part of a codestream is the last one, by the header of its box and the data behind it
abbrev pub is_last : Option BoxHeader → List ℕ → Bool
is_last None bytes = false
is_last (Some header) bytes = is_marked (drop header.front bytes)

-- a codestream behind a part of it
abbrev pub with_part : List ℕ → Codestream
with_part bytes = if is_last (box_header bytes) bytes then Whole else CutOff

-- a codestream behind a box, if it has its type
abbrev pub with_box : Codestream → List ℕ → Codestream
with_box found bytes =
    if nat_lt (length bytes) 8 then found else
    if bytes_eq (take 4 (drop 4 bytes)) (codes "jxlc") then Whole else
    if bytes_eq (take 4 (drop 4 bytes)) (codes "jxlp") then with_part bytes else found

-- a codestream of a file that is cut off
abbrev pub cut_off : Codestream → Codestream
cut_off Absent = Absent
cut_off CutOff = CutOff
cut_off Whole = CutOff

-- the codestream behind at most n boxes that are left; each box has a byte at least
unfoldable pub stepped : ℕ → Codestream → List ℕ → Codestream
stepped n found [] = found
stepped zero found (b ∷ bytes) = found
stepped (suc n) found (b ∷ bytes) =
    let piece = box_piece (b ∷ bytes) in
    let next = with_box found (take piece.len (b ∷ bytes)) in
    if is_cut_box (b ∷ bytes) then cut_off next else stepped n next (drop piece.len (b ∷ bytes))

-- the codestream of boxes
abbrev pub boxed_codestream : List ℕ → Codestream
boxed_codestream bytes = stepped (length bytes) Absent bytes

-- the codestream of a file; of one without a container it is not known where it ends
abbrev pub codestream_of : List ℕ → Codestream
codestream_of file = if begins_codestream file then Whole else boxed_codestream file
