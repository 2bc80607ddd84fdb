-- How many bytes the boxes of a JPEG XL file have (ISO/IEC 18181-2, clause 9).
use Rattle.std.specs.Prelude.{ℕ, List, length, codes, nat_le, Bool, false, ◌&&◌, ◌||◌, ◌==◌, Option, Some, None, if◌then◌else◌}
use Rattle.std.specs.Str.{bytes_eq}
use Rattle.exif_inventory.specs.BoxHeaders.{content_of, head_of, name_of}
use Rattle.exif_inventory.specs.JxlPieces.{box_piece}
use Rattle.exif_inventory.specs.declared.boxes.Head.{Head}
use Rattle.exif_lengths.specs.Index.{index_fits}
use Rattle.exif_lengths.specs.declared.step.Step.{Step}

-- a box of this type: the signature has four bytes; the type of the file is a brand, a version and
-- the one brand that it is compatible with, since more of them may spell a text; a level is a byte;
-- a part of a codestream has a number of four bytes
abbrev pub content_fits : List ℕ → List ℕ → Bool
content_fits name content =
    if bytes_eq name (codes "JXL ") then length content == 4 else
    if bytes_eq name (codes "ftyp") then length content == 12 else
    if bytes_eq name (codes "jxll") then length content == 1 else
    if bytes_eq name (codes "jxli") then index_fits content else
    if bytes_eq name (codes "jxlp") then nat_le 4 (length content) else
    bytes_eq name (codes "jxlc")

-- whether a box that is cut off may be of any length: it is a codestream, or a part of one
abbrev pub is_stream : List ℕ → Bool
is_stream name = bytes_eq name (codes "jxlc") || bytes_eq name (codes "jxlp")

-- a box with this header, or one that is cut off
abbrev pub box_fits : List ℕ → Option Head → Bool
box_fits bytes None = nat_le 8 (length bytes) && is_stream (name_of bytes)
box_fits bytes (Some head) = content_fits (name_of bytes) (content_of head bytes)

-- the box at the front of bytes
abbrev pub jxl_step : List ℕ → Step
jxl_step bytes = record {
  len = (box_piece bytes).len;
  fits = box_fits bytes (head_of bytes);
  scanning = false;
}
