-- Where the data of the items are (ISO/IEC 14496-12, 8.11.3).
use Rattle.std.specs.Prelude.{ℕ, ◌+◌, ◌/◌, ◌%◌, ◌^◌, max, List, [], ◌∷◌, ◌++◌, length, drop, slice_index, nat_lt, nat_le, Bool, not, ◌&&◌, ◌||◌, ◌==◌, Option, Some, None, if◌then◌else◌}
use Rattle.std.specs.Option.{option_map}
use Rattle.exif_inventory.specs.declared.kind.Kind.{Kind}
use Rattle.exif_inventory.specs.declared.kind.Kind.TheVariants as kind
use Rattle.exif_inventory_heif.specs.Numbers.{number}
use Rattle.exif_inventory_heif.specs.Items.{kind_of}
use Rattle.exif_inventory_heif.specs.Loops.{repeated}
use Rattle.exif_inventory_heif.specs.declared.extents.EntryHead.{EntryHead}
use Rattle.exif_inventory_heif.specs.declared.extents.Extent.{Extent}
use Rattle.exif_inventory_heif.specs.declared.extents.Reading.{Reading}
use Rattle.exif_inventory_heif.specs.declared.extents.Room.{Room}
use Rattle.exif_inventory_heif.specs.declared.extents.Source.{Source}
use Rattle.exif_inventory_heif.specs.declared.extents.Widths.{Widths}
use Rattle.exif_inventory_heif.specs.declared.items.Item.{Item}
use Rattle.exif_inventory_heif.specs.declared.span.Span.{Span}

-- what is left of the list, and the extents before that
abbrev pub read_view : Reading → List ℕ × List Extent
read_view reading = (reading.rest.now, reading.found.items)

-- the widths that a version and four numbers of 4 bits say
unfoldable pub widths_of : ℕ → ℕ → Widths
widths_of version packed = record {
  number = if version == 2 then 4 else 2;
  method = if version == 0 then 0 else 2;
  base = packed / 16 % 16;
  index = if version == 0 then 0 else packed % 16;
  offset = packed / 4096 % 16;
  len = packed / 256 % 16;
}

-- whether a field may have this width
abbrev pub is_width : ℕ → Bool
is_width width = (width == 0) || (width == 4) || (width == 8)

-- whether all fields may have their widths
abbrev pub are_widths : Widths → Bool
are_widths w = is_width w.base && is_width w.index && is_width w.offset && is_width w.len

-- how many bytes come before the extents of an entry: its number, how it is put together, where
-- its data are, a base and a count
abbrev pub head_len : Widths → ℕ
head_len w = w.number + w.method + w.base + 4

-- how many bytes an extent takes
abbrev pub extent_len : Widths → ℕ
extent_len w = w.index + w.offset + w.len

-- how the data of an entry are put together: the low 4 bits of two bytes
abbrev pub method_of : Widths → List ℕ → ℕ
method_of w bytes = if w.method == 0 then 0 else slice_index bytes (w.number + 1) % 16

-- what an entry says of all its extents, with what follows how it is put together
abbrev pub method_head : Widths → List ℕ → ℕ → List ℕ → Option EntryHead
method_head w bytes method behind =
    if nat_lt 1 method || not (number 2 behind == 0) then None
    else Some (record {
      number = number w.number bytes;
      in_file = method == 0;
      base = number w.base (drop 2 behind);
      count = number 2 (drop (2 + w.base) behind);
    })

-- what an entry says of all its extents
unfoldable pub entry_head : Widths → List ℕ → Option EntryHead
entry_head w bytes =
    if nat_lt (length bytes) (head_len w) then None
    else method_head w bytes (method_of w bytes) (drop (w.number + w.method) bytes)

-- where the offsets of an entry count from: the file, or the data beside the lists
abbrev pub beside : Option Span → Option Source
beside None = None
beside (Some span) = Some (record { from = span.content; end = span.end })

abbrev pub source_of : Bool → Room → Option Source
source_of in_file room =
    if in_file then Some (record { from = 0; end = room.file }) else beside room.idat

-- where an extent ends: one without a length runs to the end
abbrev pub end_of : Source → ℕ → ℕ → Option ℕ
end_of source from len =
    if len == 0 then Some (max from source.end) else
    if nat_le (2 ^ 64) (from + len) then None else Some (from + len)

-- an extent that begins so
abbrev pub extent_from : Source → Kind → ℕ → ℕ → Option Extent
extent_from source k from len =
    if nat_le (2 ^ 64) from then None
    else option_map (λ end. record { kind = k; from = from; end = end }) (end_of source from len)

-- the extent at the front of bytes: an index, which says nothing here, an offset and a length
unfoldable pub extent_at : Widths → Source → ℕ → Kind → List ℕ → Option Extent
extent_at w source base k bytes =
    if nat_lt (length bytes) (extent_len w) then None
    else extent_from source k (source.from + base + number w.offset (drop w.index bytes))
    (number w.len (drop (w.index + w.offset) bytes))

-- one extent more
abbrev pub extent_step : Widths → Source → ℕ → Kind → List ℕ × List Extent
    → Option (List ℕ × List Extent)
extent_step w source base k (rest, found) =
    if nat_le 65536 (length found) then None
    else option_map (λ extent. (drop (extent_len w) rest, found ++ extent ∷ []))
    (extent_at w source base k rest)

-- what the data of an item are: metadata in more than one extent can't be read alone
abbrev pub item_kind : Kind → ℕ → Kind
item_kind kind.Picture count = kind.Picture
item_kind k count = if count == 1 then k else kind.Unknown

-- the extents of an entry that says so, from a source
abbrev pub source_step : Widths → Kind → EntryHead → List ℕ × List Extent → Option Source
    → Option (List ℕ × List Extent)
source_step w k head s None = None
source_step w k head s (Some source) =
    repeated (extent_step w source head.base (item_kind k head.count)) head.count s

-- the extents of one entry more
abbrev pub head_step : Widths → List Item → Room → List ℕ × List Extent → Option EntryHead
    → Option (List ℕ × List Extent)
head_step w items room s None = None
head_step w items room (rest, found) (Some head) =
    source_step w (kind_of head.number items) head (drop (head_len w) rest, found)
    (source_of head.in_file room)

unfoldable pub entry_step : Widths → List Item → Room → List ℕ × List Extent
    → Option (List ℕ × List Extent)
entry_step w items room (rest, found) =
    head_step w items room (rest, found) (entry_head w rest)

-- the extents of so many entries
unfoldable pub entries_in : Widths → List Item → Room → ℕ → List ℕ → Option (List Extent)
entries_in w items room count bytes =
    option_map (λ s. s.1) (repeated (entry_step w items room) count (bytes, []))

-- the extents of so many entries, if no more are read at most
abbrev pub counted_entries : Widths → List Item → Room → ℕ → List ℕ → Option (List Extent)
counted_entries w items room count bytes =
    if nat_lt 16384 count then None else entries_in w items room count bytes

-- the extents of a list from its count on, whose entries have these widths
unfoldable pub wide_entries : Widths → List Item → Room → List ℕ → Option (List Extent)
wide_entries w items room bytes =
    counted_entries w items room (number w.number bytes) (drop w.number bytes)

-- whether a list of this version, with entries of these widths, can be read
unfoldable pub is_known : ℕ → Widths → Bool
is_known version w = nat_le version 2 && are_widths w

-- the extents of a list of this version, with entries of these widths, if it can be read
abbrev pub known_entries : ℕ → Widths → List Item → Room → List ℕ → Option (List Extent)
known_entries version w items room body =
    if is_known version w then wide_entries w items room (drop 6 body) else None

-- the extents of a list, if it can be read
unfoldable pub extents_of : List Item → Room → List ℕ → Option (List Extent)
extents_of items room body =
    if nat_lt (length body) 10 then None
    else known_entries (slice_index body 0)
    (widths_of (slice_index body 0) (number 2 (drop 4 body))) items room body
