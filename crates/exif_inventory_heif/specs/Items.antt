-- The items of a file, and what the data of each are (ISO/IEC 14496-12, 8.11.6; ISO/IEC 23008-12,
-- 6.4.2, 6.6.2, annex A).
use Rattle.std.specs.Prelude.{ℕ, suc, ◌+◌, List, [], ◌∷◌, ◌++◌, length, take, drop, slice_index, codes, nat_lt, nat_le, Bool, true, ◌&&◌, ◌||◌, ◌==◌, Option, Some, None, if◌then◌else◌}
use Rattle.std.specs.List.{list_any}
use Rattle.std.specs.Option.{option_map}
use Rattle.std.specs.Str.{bytes_eq}
use Rattle.exif_inventory.specs.declared.kind.Kind.{Kind}
use Rattle.exif_inventory.specs.declared.kind.Kind.TheVariants as kind
use Rattle.exif_inventory.specs.BoxHeaders.{content_of, head_of, name_of}
use Rattle.exif_inventory_heif.specs.Numbers.{number}
use Rattle.exif_inventory_heif.specs.Loops.{and_then, repeated}
use Rattle.exif_inventory.specs.declared.boxes.Head.{Head}
use Rattle.exif_inventory_heif.specs.declared.items.Item.{Item}
use Rattle.exif_inventory_heif.specs.declared.items.ItemEntry.{ItemEntry}

-- how many bytes come before the first zero
abbrev pub text_len : List ℕ → ℕ
text_len [] = 0
text_len (b ∷ bytes) = if b == 0 then 0 else suc (text_len bytes)

-- what follows a text and the zero that ends it
abbrev pub behind_text : List ℕ → List ℕ
behind_text bytes = drop (text_len bytes + 1) bytes

-- whether no encoding is named: nothing follows, or an empty text
abbrev pub is_unencoded : List ℕ → Bool
is_unencoded [] = true
is_unencoded (b ∷ bytes) = b == 0

-- whether a content type, and what follows it, are those of an XMP packet
abbrev pub is_xmp : List ℕ → Bool
is_xmp content =
    nat_le 20 (length content) && bytes_eq (take 20 content) (codes "application/rdf+xml\0")
    && is_unencoded (drop 20 content)

-- what the data of an item with a content type are; its name and the type follow
abbrev pub mime_kind : List ℕ → Kind
mime_kind bytes = if is_xmp (behind_text bytes) then kind.Xmp else kind.Unknown

-- the types of items that make up pictures: coded ones, and those that are derived from them
abbrev pub is_picture_type : List ℕ → Bool
is_picture_type name =
    bytes_eq name (codes "hvc1") || bytes_eq name (codes "hev1") || bytes_eq name (codes "lhv1")
    || bytes_eq name (codes "av01") || bytes_eq name (codes "avc1")
    || bytes_eq name (codes "vvc1") || bytes_eq name (codes "jpeg")
    || bytes_eq name (codes "j2k1") || bytes_eq name (codes "unci")
    || bytes_eq name (codes "mski") || bytes_eq name (codes "grid")
    || bytes_eq name (codes "iden") || bytes_eq name (codes "iovl")
    || bytes_eq name (codes "tmap")

-- what the data of an item of a type are; its name and more follow
unfoldable pub type_kind : List ℕ → List ℕ → Kind
type_kind name bytes =
    if is_picture_type name then kind.Picture else
    if bytes_eq name (codes "Exif") then kind.Exif else
    if bytes_eq name (codes "mime") then mime_kind bytes else kind.Unknown

-- how many bytes the number of an item takes in an entry of this version; 0 is not known
abbrev pub item_width : ℕ → ℕ
item_width version = if version == 2 then 2 else if version == 3 then 4 else 0

-- the item that an entry is about, whose number has this width
abbrev pub wide_item : ℕ → List ℕ → Option Item
wide_item width body =
    if (width == 0) || nat_lt (length body) (width + 10) then None
    else Some (record {
      number = number width (drop 4 body);
      kind = type_kind (take 4 (drop (width + 6) body)) (drop (width + 10) body);
    })

-- the item that an entry is about
abbrev pub item_of : List ℕ → Option Item
item_of body =
    if nat_lt (length body) 12 then None else wide_item (item_width (slice_index body 0)) body

-- the entry at the front of bytes, whose header this is
abbrev pub headed_entry : List ℕ → Head → Option ItemEntry
headed_entry bytes head =
    if bytes_eq (name_of bytes) (codes "infe")
    then option_map (λ item. record { item = item; len = head.len })
    (item_of (content_of head bytes))
    else None

-- the entry at the front of bytes
abbrev pub item_entry : List ℕ → Option ItemEntry
item_entry bytes = and_then (head_of bytes) (headed_entry bytes)

-- one item more
abbrev pub item_step : List ℕ × List Item → Option (List ℕ × List Item)
item_step (rest, found) =
    option_map (λ entry. (drop entry.len rest, found ++ entry.item ∷ [])) (item_entry rest)

-- this many items
unfoldable pub items_in : ℕ → List ℕ → Option (List Item)
items_in count bytes = option_map (λ s. s.1) (repeated item_step count (bytes, []))

-- how many bytes the count of the items takes
abbrev pub count_width : ℕ → ℕ
count_width version = if version == 0 then 2 else 4

-- this many items, if no more are read at most
abbrev pub counted_items : ℕ → List ℕ → Option (List Item)
counted_items count bytes = if nat_lt 16384 count then None else items_in count bytes

-- the items of a list whose count has this width
abbrev pub wide_count : ℕ → List ℕ → Option (List Item)
wide_count width body = counted_items (number width (drop 4 body)) (drop (4 + width) body)

-- the items of a list, if it can be read
unfoldable pub items_of : List ℕ → Option (List Item)
items_of body =
    if nat_lt (length body) 8 then None else wide_count (count_width (slice_index body 0)) body

-- whether an item has this number
abbrev pub is_listed : ℕ → List Item → Bool
is_listed number items = list_any (λ item. item.number == number) items

-- what the data of the item with a number are: not known, where no item or more than one has it
abbrev pub kind_of : ℕ → List Item → Kind
kind_of number [] = kind.Unknown
kind_of number (item ∷ items) =
    if item.number == number
    then (if is_listed number items then kind.Unknown else item.kind)
    else kind_of number items
