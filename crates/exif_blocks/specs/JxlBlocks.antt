-- A JPEG XL file with another XMP packet (ISO/IEC 18181-2, clause 9).
use Rattle.std.specs.Prelude.{ℕ, ◌+◌, List, [], ◌++◌, length, take, drop, codes, nat_lt, Result, Ok, Err, if◌then◌else◌}
use Rattle.std.specs.Int.{to_be_bytes, w32}
use Rattle.exif_types.specs.Refusals.{Refusal, ◌>>=◌}
use Rattle.exif_inventory.specs.declared.piece.State.TheVariants.{JxlBoxes}
use Rattle.exif_blocks.specs.Blocks.{blocks_put, exif_in}
use Rattle.exif_parts.specs.Jxl.{contained, front_len}
use Rattle.exif_blocks.specs.PutRefusals.{packet_too_large}
use Rattle.exif_blocks.specs.PutViews.{Packet, packet_alone}
use Rattle.exif_blocks.specs.declared.blocks.Block.TheVariants.{Xmp}
use Rattle.exif_blocks.specs.declared.step.Place.TheVariants.{BehindExif}

-- the box of a packet: its size, its type and the packet
abbrev pub xmp_box : List ℕ → List ℕ
xmp_box packet = to_be_bytes w32 (8 + length packet) ++ (codes "xml " ++ packet)

-- a file with a box behind its Exif data, or in front of them where they are the last box
abbrev pub behind_exif : List ℕ → List ℕ → List ℕ
behind_exif new file =
    blocks_put (length (drop 12 file)) Xmp BehindExif JxlBoxes new (drop 12 file) (take 12 file)

-- a file with a box where new Exif data go
abbrev pub behind_type : List ℕ → List ℕ → List ℕ
behind_type new file =
    let at = front_len file in
    blocks_put (length (drop at file)) Xmp BehindExif JxlBoxes [] (drop at file)
    (take at file ++ new)

-- a file with a box in place of its packets
abbrev pub jxl_put : List ℕ → List ℕ → List ℕ
jxl_put new file = if exif_in file then behind_exif new file else behind_type new file

-- a file with this packet in place of its own; four bytes hold the size of the box
abbrev pub with_packet : List ℕ → List ℕ → Result (List ℕ) Refusal
with_packet packet file =
    if nat_lt 4294967287 (length packet) then Err packet_too_large else
    Ok (jxl_put (xmp_box packet) file)

abbrev pub jxl_with_xmp : Packet → List ℕ → Result (List ℕ) Refusal
jxl_with_xmp xmp file =
    contained file >>= λ file. packet_alone xmp >>= λ packet. with_packet packet file
