-- Worked examples: what becomes of files, by bytes written by hand.
use Rattle.std.specs.Prelude.{◌≡◌, refl, ℕ, List, [], ◌∷◌, ◌++◌, codes, replicate, Ok, Some}
use Rattle.exif_inventory.specs.declared.kind.Kind.{Kind}
use Rattle.exif_inventory.specs.declared.kind.Kind.TheVariants as kind
use Rattle.exif_inventory.specs.declared.part.Part.{Part}
use Rattle.exif_inventory.specs.BoxHeaders.{box_header, head_of}
use Rattle.exif_inventory_heif.specs.Numbers.{number}
use Rattle.exif_inventory_heif.specs.Carving.{carve_one, carved, cut_one, exif_content, item_span}
use Rattle.exif_inventory_heif.specs.Extents.{entries_in, entry_head, entry_step, extent_at, extents_of, is_known, wide_entries, widths_of}
use Rattle.exif_inventory_heif.specs.Gaps.{gaps_from}
use Rattle.exif_inventory_heif.specs.Inventories.{layout_of}
use Rattle.exif_inventory_heif.specs.Items.{items_in, items_of, type_kind}
use Rattle.exif_inventory_heif.specs.Loops.{repeated}
use Rattle.exif_inventory_heif.specs.Pieces.{child_piece, top_piece}
use Rattle.exif_inventory_heif.specs.Walks.{walked}
use Rattle.exif_blanks.specs.HeifBlanks.{blanked}
use Rattle.exif_scrub.specs.HeifScrubbing.{scrubbed}
use Rattle.exif_blanks.specs.Steps.{bared_from}

-- the front of a file: 20 bytes
abbrev brands : List ℕ
brands = 0 ∷ 0 ∷ 0 ∷ 20 ∷ codes "ftypheic" ++ 0 ∷ 0 ∷ 0 ∷ 0 ∷ codes "mif1"

-- a part from an offset on, with its data
abbrev part : Kind → ℕ → ℕ → ℕ → ℕ → Part
part k offset len from data_len = record {
  kind = k;
  picture = 0;
  offset = offset;
  len = len;
  data_offset = from;
  data_len = data_len;
}

-- of a file without items a box of an XMP packet becomes free space; a box that is not known, the
-- data, and what is cut off, stay and are answered
scrubbed_file : scrubbed (brands ++ 0 ∷ 0 ∷ 0 ∷ 26 ∷ codes "uuid" ++ 0xbe ∷ 0x7a ∷ 0xcf ∷ 0xcb
    ∷ 0x97 ∷ 0xa9 ∷ 0x42 ∷ 0xe8 ∷ 0x9c ∷ 0x71 ∷ 0x99 ∷ 0x94 ∷ 0x91 ∷ 0xe3 ∷ 0xaf ∷ 0xac ∷ 5 ∷ 6
    ∷ 0 ∷ 0 ∷ 0 ∷ 10 ∷ codes "udta" ++ 5 ∷ 6 ∷ 0 ∷ 0 ∷ 0 ∷ 9 ∷ codes "mdat" ++ 1 ∷ 2 ∷ 3 ∷ [])
    ≡ Ok (
      brands ++ 0 ∷ 0 ∷ 0 ∷ 26 ∷ codes "free" ++ replicate 18 0
          ++ 0 ∷ 0 ∷ 0 ∷ 10 ∷ codes "udta" ++ 5 ∷ 6 ∷ 0 ∷ 0 ∷ 0 ∷ 9 ∷ codes "mdat"
          ++ 1 ∷ 2 ∷ 3 ∷ [],
      Some (part kind.Unknown 46 10 54 2 ∷ part kind.Unknown 56 9 56 9
          ∷ part kind.Broken 65 2 65 2 ∷ []),
    )
unfolding layout_of walked top_piece head_of box_header number blanked
scrubbed_file = refl

-- an entry of an item with this number and type: 21 bytes
abbrev entry : ℕ → List ℕ → List ℕ
entry n type = 0 ∷ 0 ∷ 0 ∷ 21 ∷ codes "infe" ++ 2 ∷ 0 ∷ 0 ∷ 0 ∷ 0 ∷ n ∷ 0 ∷ 0 ∷ type ++ 0 ∷ []

-- that of an XMP packet: 41 bytes
abbrev xmp_entry : ℕ → List ℕ
xmp_entry n =
    0 ∷ 0 ∷ 0 ∷ 41 ∷ codes "infe" ++ 2 ∷ 0 ∷ 0 ∷ 0 ∷ 0 ∷ n ∷ 0 ∷ 0 ∷ codes "mime\0"
    ++ codes "application/rdf+xml\0"

-- where an item is, in one extent of the file: 14 bytes
abbrev location : ℕ → ℕ → ℕ → List ℕ
location n offset len =
    0 ∷ n ∷ 0 ∷ 0 ∷ 0 ∷ 1 ∷ 0 ∷ 0 ∷ 0 ∷ offset ∷ 0 ∷ 0 ∷ 0 ∷ len ∷ []

-- a picture of 3 bytes, an Exif item of 20, an XMP packet of 2, a byte of no item, and a box
abbrev three_items : List ℕ → List ℕ → ℕ → List ℕ → List ℕ
three_items exif xmp unused box =
    brands ++ 0 ∷ 0 ∷ 0 ∷ 167 ∷ codes "meta" ++ 0 ∷ 0 ∷ 0 ∷ 0
    ∷ 0 ∷ 0 ∷ 0 ∷ 97 ∷ codes "iinf" ++ 0 ∷ 0 ∷ 0 ∷ 0 ∷ 0 ∷ 3 ∷ entry 1 (codes "hvc1")
    ++ entry 2 (codes "Exif") ++ xmp_entry 3
    ++ 0 ∷ 0 ∷ 0 ∷ 58 ∷ codes "iloc" ++ 0 ∷ 0 ∷ 0 ∷ 0 ∷ 0x44 ∷ 0 ∷ 0 ∷ 3 ∷ location 1 195 3
    ++ location 2 198 20 ++ location 3 218 2
    ++ 0 ∷ 0 ∷ 0 ∷ 34 ∷ codes "mdat" ++ 1 ∷ 2 ∷ 3 ∷ exif ++ xmp ++ unused ∷ box

-- where the items are understood, the byte becomes zero, the box free space too, and nothing is left
scrubbed_items : scrubbed (three_items (0 ∷ 0 ∷ 0 ∷ 0 ∷ replicate 16 7) (5 ∷ 6 ∷ []) 8
    (0 ∷ 0 ∷ 0 ∷ 10 ∷ codes "udta" ++ 5 ∷ 6 ∷ []))
    ≡ Ok (
      three_items (0 ∷ 0 ∷ 0 ∷ 0 ∷ 0x4d ∷ 0x4d ∷ 0 ∷ 42 ∷ 0 ∷ 0 ∷ 0 ∷ 8 ∷ replicate 8 0)
          (32 ∷ 32 ∷ []) 0 (0 ∷ 0 ∷ 0 ∷ 10 ∷ codes "free" ++ 0 ∷ 0 ∷ []),
      Some [],
    )
unfolding layout_of walked top_piece child_piece head_of box_header number items_of items_in repeated type_kind extents_of is_known widths_of wide_entries entries_in entry_step entry_head extent_at carved carve_one cut_one item_span exif_content gaps_from blanked bared_from
scrubbed_items = refl
