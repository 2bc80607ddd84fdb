-- What holds of packets with another text, whatever they are.
use Rattle.std.specs.Prelude.{◌≡◌, ℕ, ◌+◌, ◌-◌, ◌≤◌, List, length, drop, Option, None, Some, Ok}
use Rattle.exif_xml.specs.declared.span.Span.{Span}
use Rattle.exif_xmp.specs.Paths.{with_index}
use Rattle.exif_xmp.specs.Properties.{PropertyView}
use Rattle.exif_xmp.specs.Reading.{read}
use Rattle.exif_xmp_set.specs.declared.found.Found.{Found}
use Rattle.exif_xmp_set.specs.declared.items.Array.{Array}
use Rattle.exif_xmp_set.specs.declared.items.LastItem.{LastItem}
use Rattle.exif_xmp_set.specs.Added.{add_item, add_text, text_content}
use Rattle.exif_xmp_set.specs.Contents.{Content, contents, replaced, with_more}
use Rattle.exif_xmp_set.specs.Found.{settable}
use Rattle.exif_xmp_set.specs.Items.{last_item}
use Rattle.exif_xmp_set.specs.Padding.{padding_of}
use Rattle.exif_xmp_set.specs.Setting.{set_text, span_of, value_of}

-- the new packet has what the old one has, with the text replaced
abbrev pub ReadBack : Type 0
ReadBack =
    (packet namespace path text new : List ℕ) → set_text packet namespace path text ≡ Ok new →
    contents (read new) ≡ replaced namespace path text (read packet)

-- bytes in place of a span fit into it and the padding of the packet
pub record HasRoom (packet value : List ℕ) (span padding : Span) : Type 0 where
  pub order : span.start ≤ span.end
  pub within : span.end ≤ length packet
  pub is_padding : padding_of (drop span.end packet) ≡ Some padding
  pub room : length value ≤ (span.end - span.start) + (padding.end - padding.start)

-- a property is set in a packet that has room for its text, and the packet keeps its length
abbrev pub LengthStays : Type 0
LengthStays =
    (packet namespace path text new : List ℕ) (old : List PropertyView) (found : Found)
    (padding : Span) → set_text packet namespace path text ≡ Ok new → read packet ≡ Ok old →
    settable old namespace path ≡ Ok found →
    HasRoom packet (value_of packet found text) (span_of packet found) padding →
    length new ≡ length packet

-- the new packet has what the old one has, and the property behind it
abbrev pub AddedIsRead : Type 0
AddedIsRead =
    (packet namespace path text new : List ℕ) (old : List PropertyView)
    → add_text packet namespace path text ≡ Ok new → read packet ≡ Ok old
    → contents (read new) ≡ Ok (with_more (length old) (text_content namespace path text) old)

-- properties with an item more: behind the last one of the array, with the next index, or as the
-- only one of it behind all
abbrev pub item_more : Option LastItem → List ℕ → List ℕ → List ℕ → List PropertyView
    → List Content
item_more (Some last) namespace path text old =
    with_more (last.position + 1)
    (text_content namespace (with_index path (last.count + 1)) text) old
item_more None namespace path text old =
    with_more (length old) (text_content namespace (with_index path 1) text) old

-- the new packet has what the old one has, with the item
abbrev pub ItemIsRead : Type 0
ItemIsRead =
    (packet namespace path : List ℕ) (array : Array) (text new : List ℕ)
    (old : List PropertyView) → add_item packet namespace path array text ≡ Ok new
    → read packet ≡ Ok old
    → contents (read new) ≡ Ok (item_more (last_item namespace path old) namespace path text old)
