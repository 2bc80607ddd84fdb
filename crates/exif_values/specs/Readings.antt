-- The packets of a picture, read.
use Rattle.std.specs.Prelude.{ℕ, ◌&&◌, not, Bool, true, false, List, [], ◌∷◌, Option, None, Some, Result, Ok, Err, if◌then◌else◌}
use Rattle.std.specs.List.{list_any}
use Rattle.std.specs.Option.{option_map}
use Rattle.exif_packets.specs.Fields.{Held, packets_of_fields}
use Rattle.exif_packets.specs.Packets.{content_of, packets}
use Rattle.exif_packets.specs.PngPackets.{InText, png_packets}
use Rattle.exif_packets.specs.Portions.{is_portion, joined}
use Rattle.exif_packets.specs.declared.packet.Form.{Form}
use Rattle.exif_packets.specs.declared.packet.Form.TheVariants.{Xmp, XmpPortion, Iptc}
use Rattle.exif_packets.specs.declared.packet.Packet.{Packet}
use Rattle.exif_packets.specs.declared.png_packet.TextFault.{TextFault}
use Rattle.exif_types.specs.declared.field.Field.{Field}
use Rattle.exif_xmp.specs.Properties.{PropertyView}
use Rattle.exif_xmp.specs.Reading as xmp
use Rattle.exif_xmp.specs.declared.fault.Refusal.{Refusal}
use Rattle.exif_values.specs.Extensions.{extension_id, names_one}
use Rattle.exif_values.specs.Values.{Found, nothing, with_fault, with_iptc, with_properties}
use Rattle.exif_values.specs.declared.fault.Cause.TheVariants as cause

-- with the properties of a packet of which this is read
abbrev pub with_answer : Result (List PropertyView) Refusal → Option ℕ → Found → Found
with_answer (Ok properties) offset found = with_properties offset properties found
with_answer (Err refusal) offset found = with_fault (cause.Xmp refusal) offset found

-- with those of an XMP packet
abbrev pub with_xmp : Option ℕ → List ℕ → Found → Found
with_xmp offset content found = with_answer (xmp.read content) offset found

-- with those of the rest of a packet
abbrev pub with_joined : Result (List ℕ) ℕ → Option ℕ → Found → Found
with_joined (Ok rest) offset found = with_xmp offset rest found
with_joined (Err at) offset found = with_fault (cause.Portions at) offset found

abbrev pub with_extension : List ℕ → List Packet → List ℕ → Option ℕ → Found → Found
with_extension file all id offset found = with_joined (joined file all id) offset found

-- the same, if there is a rest
abbrev pub with_rest : List ℕ → List Packet → Option (List ℕ) → Option ℕ → Found → Found
with_rest file all None offset found = found
with_rest file all (Some id) offset found = with_extension file all id offset found

-- with the properties of a packet of which this is read, and of its rest
abbrev pub with_whole : List ℕ → List Packet → Result (List PropertyView) Refusal → Option ℕ
    → Found → Found
with_whole file all (Ok properties) offset found =
    with_rest file all (extension_id properties) offset
    (with_properties offset properties found)
with_whole file all (Err refusal) offset found = with_fault (cause.Xmp refusal) offset found

abbrev pub with_main : List ℕ → List Packet → Packet → Found → Found
with_main file all packet found =
    with_whole file all (xmp.read (content_of packet file)) (Some packet.offset) found

-- whether a packet is an XMP packet
abbrev pub is_xmp : Form → Bool
is_xmp Xmp = true
is_xmp Iptc = false
is_xmp XmpPortion = false

-- with what a packet has: the first XMP packet has a rest, whose portions are read with it
abbrev pub with_form : Bool → Form → List ℕ → List Packet → Packet → Found → Found
with_form first Xmp file all packet found =
    if first then with_main file all packet found
    else with_xmp (Some packet.offset) (content_of packet file) found
with_form first Iptc file all packet found =
    with_iptc (Some packet.offset) (content_of packet file) found
with_form first XmpPortion file all packet found = found

abbrev pub with_packet : Bool → List ℕ → List Packet → Packet → Found → Found
with_packet first file all packet found = with_form first packet.form file all packet found

-- with what packets have, one after another
abbrev pub with_packets : Bool → List ℕ → List Packet → List Packet → Found → Found
with_packets first file all [] found = found
with_packets first file all (packet ∷ rest) found =
    with_packets (first && not (is_xmp packet.form)) file all rest
    (with_packet first file all packet found)

-- whether there are portions that no packet names
abbrev pub has_strays : List Packet → Found → Bool
has_strays all found = list_any (λ p. is_portion p.form) all && not (names_one found.xmp)

-- with those named: all of their packet is missing
abbrev pub with_strays : List Packet → Found → Found
with_strays all found =
    if has_strays all found then with_fault (cause.Portions 0) None found else found

-- what these packets of a file have
abbrev pub read_all : List ℕ → List Packet → Found
read_all file all = with_strays all (with_packets true file all all nothing)

-- with what a packet in the value of a field has
abbrev pub with_held : Form → List ℕ → Found → Found
with_held Xmp content found = with_xmp None content found
with_held Iptc content found = with_iptc None content found
with_held XmpPortion content found = found

abbrev pub with_field_packet : Held → Found → Found
with_field_packet held found = with_held held.form held.content found

-- with what packets in values have, one after another
abbrev pub with_held_packets : List Held → Found → Found
with_held_packets [] found = found
with_held_packets (held ∷ rest) found = with_held_packets rest (with_field_packet held found)

-- with what the fields have
abbrev pub with_fields : Bool → List Field → Found → Found
with_fields little fields found = with_held_packets (packets_of_fields little fields) found

-- with what a packet in a text of a PNG file has
abbrev pub with_form_at : Form → ℕ → List ℕ → Found → Found
with_form_at Xmp offset content found = with_xmp (Some offset) content found
with_form_at Iptc offset content found = with_iptc (Some offset) content found
with_form_at XmpPortion offset content found = found

abbrev pub with_content : Form → ℕ → Result (List ℕ) TextFault → Found → Found
with_content form offset (Ok content) found = with_form_at form offset content found
with_content form offset (Err fault) found = with_fault (cause.Text fault) (Some offset) found

abbrev pub with_text : InText → Found → Found
with_text text found = with_content text.form text.offset text.content found

-- with what such packets have, one after another
abbrev pub with_texts : List InText → Found → Found
with_texts [] found = found
with_texts (text ∷ texts) found = with_texts texts (with_text text found)

-- what these packets of a file have, and those in its texts, each of at most 16 MiB
abbrev pub read_whole : List ℕ → List Packet → Found
read_whole file all = with_texts (png_packets 16777216 file) (read_all file all)

-- what the packets of a file have
abbrev pub read : List ℕ → Option Found
read file = option_map (read_whole file) (packets file)
