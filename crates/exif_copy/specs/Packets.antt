-- The XMP packet of the first picture of a file (XMP part 3, 1.1).
use Rattle.std.specs.Prelude.{ℕ, List, [], ◌∷◌, ◌++◌, codes, None, Some, Result, Ok, Err}
use Rattle.exif_types.specs.Refusals.{Refusal, invalid_format, not_supported}
use Rattle.exif_inventory.specs.declared.part.Part.{Part}
use Rattle.exif_inventory.specs.Walks.{inventory}
use Rattle.exif_blocks.specs.PutViews.{Packet}
use Rattle.exif_blocks.specs.declared.blocks.Block.TheVariants.{Xmp}
use Rattle.exif_copy.specs.Parts.{first_data, if_extension}

-- these bytes, and then the segments that go on with a packet
abbrev pub extension_of : List Part → List ℕ → List ℕ → List ℕ
extension_of [] file made = made
extension_of (part ∷ parts) file made = extension_of parts file (made ++ if_extension part file)

-- no packet
abbrev pub no_packet : Refusal
no_packet = invalid_format (codes "File without an XMP packet")

-- another format
abbrev pub no_source : Refusal
no_source =
    not_supported (codes "XMP packets are copied from JPEG, PNG, WebP and JPEG XL files only")

-- the packet of a file of these parts
abbrev pub packet_in : List Part → List ℕ → Result Packet Refusal
packet_in parts file = elim (first_data Xmp parts file) [
  | Some packet ↦ Ok (record { packet = packet; extension = extension_of parts file [] })
  | None ↦ Err no_packet
]

-- the packet of a file
abbrev pub xmp_of : List ℕ → Result Packet Refusal
xmp_of file = elim (inventory file) [
  | Some parts ↦ packet_in parts file
  | None ↦ Err no_source
]
