-- The XMP packets and the IPTC data of a file.
use Rattle.std.specs.Prelude.{ℕ, ◌==◌, List, take, drop, Option, None, Some, if◌then◌else◌}
use Rattle.std.specs.List.{filter_map}
use Rattle.std.specs.Option.{option_map}
use Rattle.exif_inventory.specs.declared.kind.Kind.{Kind}
use Rattle.exif_inventory.specs.declared.kind.Kind.TheVariants as kind
use Rattle.exif_inventory.specs.declared.part.Part.{Part}
use Rattle.exif_inventory.specs.Walks.{inventory}
use Rattle.exif_inventory_heif.specs.Inventories.{heif_inventory}
use Rattle.exif_packets.specs.declared.packet.Form.{Form}
use Rattle.exif_packets.specs.declared.packet.Form.TheVariants.{Xmp, XmpPortion, Iptc}
use Rattle.exif_packets.specs.declared.packet.Packet.{Packet}

-- the form of what a part of this kind holds; the resources 1028 and 1060 of Photoshop hold IPTC
-- data and an XMP packet (Photoshop File Formats, "Image Resource IDs")
abbrev pub form_of : Kind → Option Form
form_of kind.Xmp = Some Xmp
form_of kind.PhotoshopXmp = Some Xmp
form_of kind.ExtendedXmp = Some XmpPortion
form_of kind.Iptc = Some Iptc
form_of _ = None

-- what a part holds, as a packet of a form
abbrev pub packet_with : Part → Form → Packet
packet_with part form =
    record { form = form; offset = part.data_offset; len = part.data_len }

-- the packet that a part of the first picture holds
abbrev pub packet_of : Part → Option Packet
packet_of part =
    if part.picture == 0 then option_map (packet_with part) (form_of part.kind) else None

-- those of parts
abbrev pub packets_in : List Part → List Packet
packets_in parts = filter_map packet_of parts

-- the parts of a file by one inventory, or else by that of HEIF and AVIF files
abbrev pub parts_or : List ℕ → Option (List Part) → Option (List Part)
parts_or file (Some parts) = Some parts
parts_or file None = heif_inventory file

abbrev pub parts_of : List ℕ → Option (List Part)
parts_of file = parts_or file (inventory file)

-- those of a file, if its format is known
abbrev pub packets : List ℕ → Option (List Packet)
packets file = option_map packets_in (parts_of file)

-- the bytes from an offset on, so many if there are
abbrev pub slice : ℕ → ℕ → List ℕ → List ℕ
slice offset len bytes = take len (drop offset bytes)

-- the bytes of a packet
abbrev pub content_of : Packet → List ℕ → List ℕ
content_of packet file = slice packet.offset packet.len file
