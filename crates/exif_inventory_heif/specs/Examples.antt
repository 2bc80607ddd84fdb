-- Worked examples: the parts of files, by bytes written by hand.
use Rattle.std.specs.Prelude.{◌≡◌, refl, ℕ, List, [], ◌∷◌, ◌++◌, codes, Some, None}
use Rattle.exif_inventory.specs.declared.kind.Kind.{Kind}
use Rattle.exif_inventory.specs.declared.kind.Kind.TheVariants as kind
use Rattle.exif_inventory.specs.declared.part.Part.{Part}
use Rattle.exif_inventory.specs.BoxHeaders.{box_header, head_of}
use Rattle.exif_inventory_heif.specs.Numbers.{number}
use Rattle.exif_inventory_heif.specs.Carving.{carve_one, carved, cut_one, exif_content, item_span}
use Rattle.exif_inventory_heif.specs.Extents.{entries_in, entry_head, entry_step, extent_at, extents_of, is_known, wide_entries, widths_of}
use Rattle.exif_inventory_heif.specs.Gaps.{gaps_from}
use Rattle.exif_inventory_heif.specs.Inventories.{heif_inventory, layout_of}
use Rattle.exif_inventory_heif.specs.Items.{items_in, items_of, type_kind}
use Rattle.exif_inventory_heif.specs.Loops.{repeated}
use Rattle.exif_inventory_heif.specs.Pieces.{child_piece, top_piece}
use Rattle.exif_inventory_heif.specs.Walks.{walked}
use Rattle.exif_inventory_heif.specs.declared.extents.Extent.{Extent}

-- a part from an offset on, with its data
abbrev part : Kind → ℕ → ℕ → ℕ → ℕ → Part
part k offset len from data_len = record {
  kind = k;
  picture = 0;
  offset = offset;
  len = len;
  data_offset = from;
  data_len = data_len;
}

-- the front of a file: 20 bytes
abbrev brands : List ℕ
brands = 0 ∷ 0 ∷ 0 ∷ 20 ∷ codes "ftypheic" ++ 0 ∷ 0 ∷ 0 ∷ 0 ∷ codes "mif1"

-- a `meta` of so many bytes, with what is in it: 12 bytes and those
abbrev meta : ℕ → List ℕ → List ℕ
meta len children = 0 ∷ 0 ∷ 0 ∷ len ∷ codes "meta" ++ 0 ∷ 0 ∷ 0 ∷ 0 ∷ children

-- an entry of an item with this number and type: 21 bytes
abbrev entry : ℕ → List ℕ → List ℕ
entry n type = 0 ∷ 0 ∷ 0 ∷ 21 ∷ codes "infe" ++ 2 ∷ 0 ∷ 0 ∷ 0 ∷ 0 ∷ n ∷ 0 ∷ 0 ∷ type ++ 0 ∷ []

-- that of an XMP packet: 41 bytes
abbrev xmp_entry : ℕ → List ℕ
xmp_entry n =
    0 ∷ 0 ∷ 0 ∷ 41 ∷ codes "infe" ++ 2 ∷ 0 ∷ 0 ∷ 0 ∷ 0 ∷ n ∷ 0 ∷ 0 ∷ codes "mime\0"
    ++ codes "application/rdf+xml\0"

-- where an item is, in one extent of the file: 14 bytes
abbrev location : ℕ → ℕ → ℕ → List ℕ
location n offset len =
    0 ∷ n ∷ 0 ∷ 0 ∷ 0 ∷ 1 ∷ 0 ∷ 0 ∷ 0 ∷ offset ∷ 0 ∷ 0 ∷ 0 ∷ len ∷ []

-- a picture of 3 bytes, Exif data of 6 with 2 of TIFF data, an XMP packet of 2, and a byte that no
-- item has
abbrev three_items : List ℕ
three_items =
    brands
    ++ meta 167 (
    0 ∷ 0 ∷ 0 ∷ 97 ∷ codes "iinf" ++ 0 ∷ 0 ∷ 0 ∷ 0 ∷ 0 ∷ 3 ∷ entry 1 (codes "hvc1")
    ++ entry 2 (codes "Exif") ++ xmp_entry 3
    ++ 0 ∷ 0 ∷ 0 ∷ 58 ∷ codes "iloc" ++ 0 ∷ 0 ∷ 0 ∷ 0 ∷ 0x44 ∷ 0 ∷ 0 ∷ 3 ∷ location 1 195 3
    ++ location 2 198 6 ++ location 3 204 2)
    ++ 0 ∷ 0 ∷ 0 ∷ 20 ∷ codes "mdat" ++ 1 ∷ 2 ∷ 3 ∷ 0 ∷ 0 ∷ 0 ∷ 0 ∷ 4 ∷ 5 ∷ 6 ∷ 7 ∷ 8 ∷ []

parts_of_three : heif_inventory three_items
    ≡ Some (part kind.Picture 0 20 0 20 ∷ part kind.Picture 20 12 20 12
    ∷ part kind.Picture 32 97 32 97 ∷ part kind.Picture 129 58 129 58
    ∷ part kind.Picture 187 11 187 11 ∷ part kind.Exif 198 6 202 2 ∷ part kind.Xmp 204 2 204 2
    ∷ part kind.Unknown 206 1 206 1 ∷ [])
unfolding layout_of gaps_from walked top_piece child_piece head_of box_header number items_of items_in repeated type_kind extents_of is_known widths_of wide_entries entries_in entry_step entry_head extent_at carved carve_one cut_one item_span exif_content
parts_of_three = refl

-- data of two pictures that share a byte, and of a third one: what is between them is zeros
abbrev of_pictures : List Extent
of_pictures =
    record { kind = kind.Picture; from = 6; end = 7 }
    ∷ record { kind = kind.Picture; from = 1; end = 3 }
    ∷ record { kind = kind.Picture; from = 2; end = 4 } ∷ []

gaps_between : gaps_from (1 ∷ 2 ∷ 3 ∷ 4 ∷ 0 ∷ 0 ∷ 7 ∷ 8 ∷ 9 ∷ []) of_pictures 9 9 0
    ≡ record { kind = kind.Unknown; from = 0; end = 1 }
    ∷ record { kind = kind.Unknown; from = 7; end = 9 } ∷ []
unfolding gaps_from
gaps_between = refl

-- two items that share their bytes, of which one is a picture: what holds them is not known
abbrev shared : List ℕ
shared =
    brands
    ++ meta 112 (
    0 ∷ 0 ∷ 0 ∷ 56 ∷ codes "iinf" ++ 0 ∷ 0 ∷ 0 ∷ 0 ∷ 0 ∷ 2 ∷ entry 1 (codes "hvc1")
    ++ entry 2 (codes "Exif")
    ++ 0 ∷ 0 ∷ 0 ∷ 44 ∷ codes "iloc" ++ 0 ∷ 0 ∷ 0 ∷ 0 ∷ 0x44 ∷ 0 ∷ 0 ∷ 2 ∷ location 1 140 3
    ++ location 2 142 4)
    ++ 0 ∷ 0 ∷ 0 ∷ 16 ∷ codes "mdat" ++ 1 ∷ 2 ∷ 3 ∷ 4 ∷ 5 ∷ 6 ∷ 7 ∷ 8 ∷ []

parts_of_shared : heif_inventory shared
    ≡ Some (part kind.Picture 0 20 0 20 ∷ part kind.Unknown 20 12 20 12
    ∷ part kind.Unknown 32 56 32 56 ∷ part kind.Unknown 88 44 88 44
    ∷ part kind.Unknown 132 16 132 16 ∷ [])
unfolding layout_of walked top_piece child_piece head_of box_header number items_of items_in repeated type_kind extents_of is_known widths_of wide_entries entries_in entry_step entry_head extent_at carved carve_one cut_one item_span exif_content
parts_of_shared = refl

-- a file with no items: free space, some of it used, an XMP packet in a box of its own, and bytes
-- that begin no box
abbrev no_items : List ℕ
no_items =
    brands ++ 0 ∷ 0 ∷ 0 ∷ 9 ∷ codes "free" ++ 0 ∷ 0 ∷ 0 ∷ 0 ∷ 9 ∷ codes "skip" ++ 7
    ∷ 0 ∷ 0 ∷ 0 ∷ 26 ∷ codes "uuid" ++ 0xbe ∷ 0x7a ∷ 0xcf ∷ 0xcb ∷ 0x97 ∷ 0xa9 ∷ 0x42 ∷ 0xe8
    ∷ 0x9c ∷ 0x71 ∷ 0x99 ∷ 0x94 ∷ 0x91 ∷ 0xe3 ∷ 0xaf ∷ 0xac ∷ 5 ∷ 6
    ∷ 0 ∷ 0 ∷ 0 ∷ 9 ∷ codes "mdat" ++ 1 ∷ 0 ∷ 0 ∷ []

parts_of_none : heif_inventory no_items
    ≡ Some (part kind.Picture 0 20 0 20 ∷ part kind.Picture 20 9 20 9
    ∷ part kind.Unknown 29 9 37 1 ∷ part kind.Xmp 38 26 62 2 ∷ part kind.Unknown 64 9 64 9
    ∷ part kind.Broken 73 2 73 2 ∷ [])
unfolding layout_of walked top_piece child_piece head_of box_header number
parts_of_none = refl

-- a file of another format
of_none : heif_inventory (codes "II*\0") ≡ None
unfolding head_of box_header
of_none = refl
