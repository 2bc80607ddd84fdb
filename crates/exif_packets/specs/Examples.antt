-- Worked packets: a JPEG file with an XMP packet and two portions of the rest of it.
use Rattle.std.specs.Prelude.{◌≡◌, refl, ℕ, List, [], ◌∷◌, ◌++◌, false, true, codes, replicate, Ok, Err, None, Some}
use Rattle.exif_inventory.specs.JpegPieces.{stream_piece}
use Rattle.exif_inventory.specs.Walks.{walked}
use Rattle.exif_types.specs.declared.value.Value.TheVariants as value
use Rattle.exif_packets.specs.Fields.{value_bytes}
use Rattle.exif_packets.specs.Heads.{head_by, head_len}
use Rattle.exif_packets.specs.Packets.{packets}
use Rattle.exif_packets.specs.Portions.{joined}
use Rattle.exif_packets.specs.declared.packet.Form.{Form}
use Rattle.exif_packets.specs.declared.packet.Form.TheVariants.{Xmp, XmpPortion}
use Rattle.exif_packets.specs.declared.packet.Packet.{Packet}

-- the identifier of the packet, and another one
abbrev pub id : List ℕ
id = replicate 32 65

abbrev pub other_id : List ℕ
other_id = replicate 32 66

-- a segment of a length with this identifier and these bytes
abbrev pub segment : ℕ → List ℕ → List ℕ → List ℕ
segment len name content = 255 ∷ 225 ∷ 0 ∷ len ∷ [] ++ (name ++ content)

-- a portion of a packet of 5 bytes, at an offset in that
abbrev pub portion : ℕ → ℕ → List ℕ → List ℕ
portion len offset bytes =
    segment len (codes "http://ns.adobe.com/xmp/extension/\0")
    (id ++ (0 ∷ 0 ∷ 0 ∷ 5 ∷ 0 ∷ 0 ∷ 0 ∷ offset ∷ [] ++ bytes))

abbrev pub file : List ℕ
file =
    255 ∷ 216 ∷ []
    ++ (segment 33 (codes "http://ns.adobe.com/xap/1.0/\0") (codes "AB")
    ++ (portion 80 0 (codes "abc") ++ (portion 79 3 (codes "de") ++ 255 ∷ 217 ∷ [])))

abbrev pub packet : Form → ℕ → ℕ → Packet
packet form offset len = record { form = form; offset = offset; len = len }

packets_of_a_file : packets file
    ≡ Some (packet Xmp 35 2 ∷ packet XmpPortion 76 43 ∷ packet XmpPortion 158 42 ∷ [])
unfolding walked stream_piece
packets_of_a_file = refl

-- it has no scan: its head is all of it, up to the end of the image
head_of_a_file : head_len file ≡ Some 202
unfolding head_by stream_piece
head_of_a_file = refl

-- a comment, and the header of a scan (T.81, B.2.3) with two bytes of the scan behind it
head_before_a_scan : head_len
    (255 ∷ 216 ∷ 255 ∷ 254 ∷ 0 ∷ 3 ∷ 1 ∷ 255 ∷ 218 ∷ 0 ∷ 8 ∷ 1 ∷ 1 ∷ 0 ∷ 0 ∷ 63 ∷ 0 ∷ 7 ∷ 8 ∷ [])
    ≡ Some 17
unfolding head_by stream_piece
head_before_a_scan = refl

-- the resources of Photoshop, with two bytes that fill the space before the next marker
head_behind_resources : head_len
    (255 ∷ 216 ∷ 255 ∷ 237 ∷ 0 ∷ 28 ∷ codes "Photoshop 3.0\0" ++ codes "8BIM"
    ++ 4 ∷ 4 ∷ 0 ∷ 0 ∷ 0 ∷ 0 ∷ 0 ∷ 0 ∷ 255 ∷ 255 ∷ 255 ∷ 217 ∷ 1 ∷ 2 ∷ 3 ∷ [])
    ≡ Some 36
unfolding head_by stream_piece
head_behind_resources = refl

-- a segment that goes on behind the bytes, a marker without its length, and no marker
cut_segment : head_len (255 ∷ 216 ∷ 255 ∷ 254 ∷ 0 ∷ 9 ∷ 1 ∷ []) ≡ None
unfolding head_by stream_piece
cut_segment = refl

cut_length : head_len (255 ∷ 216 ∷ 255 ∷ 218 ∷ 0 ∷ []) ≡ None
unfolding head_by stream_piece
cut_length = refl

no_marker : head_len (255 ∷ 216 ∷ 1 ∷ 2 ∷ []) ≡ None
unfolding head_by stream_piece
no_marker = refl

no_jpeg : head_len (codes "RIFF") ≡ None
no_jpeg = refl

portions_in_order :
    joined file (packet Xmp 35 2 ∷ packet XmpPortion 76 43 ∷ packet XmpPortion 158 42 ∷ []) id
    ≡ Ok (codes "abcde")
portions_in_order = refl

the_second_is_first :
    joined file (packet XmpPortion 158 42 ∷ packet XmpPortion 76 43 ∷ []) id ≡ Err 0
the_second_is_first = refl

the_second_is_missing : joined file (packet XmpPortion 76 43 ∷ []) id ≡ Err 3
the_second_is_missing = refl

the_first_twice :
    joined file (packet XmpPortion 76 43 ∷ packet XmpPortion 76 43 ∷ []) id ≡ Err 3
the_first_twice = refl

portions_of_another_packet :
    joined file (packet XmpPortion 76 43 ∷ packet XmpPortion 158 42 ∷ []) other_id ≡ Err 0
portions_of_another_packet = refl

-- IPTC data as 32-bit numbers: the header of the dataset 2:5 with three bytes, in either order
longs_in_the_order_of_the_data :
    value_bytes false (value.Long (0x1c020500 ∷ 0x03616263 ∷ []))
    ≡ Some (0x1c ∷ 2 ∷ 5 ∷ 0 ∷ 3 ∷ codes "abc")
longs_in_the_order_of_the_data = refl

longs_of_little_endian_data :
    value_bytes true (value.Long (0x0005021c ∷ 0x63626103 ∷ []))
    ≡ Some (0x1c ∷ 2 ∷ 5 ∷ 0 ∷ 3 ∷ codes "abc")
longs_of_little_endian_data = refl
