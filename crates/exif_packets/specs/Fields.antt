-- Packets in the values of fields.
use Rattle.std.specs.Prelude.{ℕ, ◌==◌, Bool, List, Option, None, Some, if◌then◌else◌}
use Rattle.std.specs.List.{filter_map, flat_map}
use Rattle.std.specs.Option.{option_map}
use Rattle.byteorder.specs.Endian.{big_bytes, little_bytes}
use Rattle.exif_table.specs.declared.context.Context.TheVariants.{Tiff, Exif, Gps, Interop}
use Rattle.exif_types.specs.declared.field.Field.{Field}
use Rattle.exif_types.specs.declared.tag.Tag.{Tag}
use Rattle.exif_types.specs.declared.value.Value.{Value}
use Rattle.exif_types.specs.declared.value.Value.TheVariants as value
use Rattle.exif_packets.specs.declared.field.FieldPacket.{FieldPacket}
use Rattle.exif_packets.specs.declared.packet.Form.{Form}
use Rattle.exif_packets.specs.declared.packet.Form.TheVariants.{Xmp, Iptc}

-- a packet, and what it is
pub record Held : Type 0 where
  pub form : Form
  pub content : List ℕ

-- that of the program
abbrev pub held_view : FieldPacket → Held
held_view packet = record { form = packet.form; content = packet.content.items }

-- what the value of a tag with this number is: an XMP packet (XMP part 3, 1.1.1) or IPTC data (ISO
-- 12234-2, "IPTC/NAA")
abbrev pub form_by : ℕ → Option Form
form_by number =
    if number == 700 then Some Xmp else (if number == 33723 then Some Iptc else None)

-- the same of a tag: those of the chain of directories
abbrev pub form_in : Tag → Option Form
form_in tag = elim tag.0 [
  | Tiff ↦ form_by tag.1
  | Exif ↦ None
  | Gps ↦ None
  | Interop ↦ None
]

-- the bytes of a 32-bit number in the order of the data
abbrev pub number_bytes : Bool → ℕ → List ℕ
number_bytes little x = if little then little_bytes 4 x else big_bytes 4 x

-- the bytes of a value as the data have them: bytes, or 32-bit numbers, as which Photoshop writes IPTC
-- data; no packet has another type
abbrev pub value_bytes : Bool → Value → Option (List ℕ)
value_bytes little (value.Byte items) = Some items
value_bytes little (value.Undefined items offset) = Some items
value_bytes little (value.Long items) = Some (flat_map (number_bytes little) items)
value_bytes little _ = None

-- bytes as a packet of a form
abbrev pub held_as : Form → List ℕ → Held
held_as form content = record { form = form; content = content }

-- the packet of a form that a value is
abbrev pub packet_as : Bool → Value → Option Form → Option Held
packet_as little value' None = None
packet_as little value' (Some form) = option_map (held_as form) (value_bytes little value')

-- the packet that a field holds
abbrev pub packet_in : Bool → Field → Option Held
packet_in little field = packet_as little field.value (form_in field.tag)

-- those of fields
abbrev pub packets_of_fields : Bool → List Field → List Held
packets_of_fields little fields = filter_map (packet_in little) fields
