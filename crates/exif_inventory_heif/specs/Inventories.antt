-- The parts of a HEIF or AVIF file (ISO/IEC 14496-12, 4.2, 4.3, 8.11; ISO/IEC 23008-12, 10.2).
use Rattle.std.specs.Prelude.{ℕ, List, [], ◌∷◌, length, drop, map, codes, nat_lt, Bool, false, not, ◌&&◌, ◌||◌, Option, Some, None, if◌then◌else◌}
use Rattle.std.specs.Str.{bytes_eq}
use Rattle.exif_inventory.specs.declared.part.Part.{Part}
use Rattle.exif_inventory.specs.BoxHeaders.{content_of, head_of, name_of}
use Rattle.exif_inventory_heif.specs.Carving.{carved}
use Rattle.exif_inventory_heif.specs.Extents.{extents_of}
use Rattle.exif_inventory_heif.specs.Gaps.{gaps_cut}
use Rattle.exif_inventory_heif.specs.Items.{items_of}
use Rattle.exif_inventory_heif.specs.Loops.{and_then}
use Rattle.exif_inventory_heif.specs.Spans.{has, only, part_of, payload}
use Rattle.exif_inventory_heif.specs.Walks.{spans_of}
use Rattle.exif_inventory.specs.declared.boxes.Head.{Head}
use Rattle.exif_inventory_heif.specs.declared.extents.Extent.{Extent}
use Rattle.exif_inventory_heif.specs.declared.extents.Room.{Room}
use Rattle.exif_inventory_heif.specs.declared.items.Item.{Item}
use Rattle.exif_inventory_heif.specs.declared.role.Role.TheVariants.{ItemData, ItemInfo, ItemLocation, Movie}
use Rattle.exif_inventory_heif.specs.declared.span.Span.{Span}

-- whether a brand is one of HEIF
abbrev pub is_brand : List ℕ → Bool
is_brand brand = bytes_eq brand (codes "mif1") || bytes_eq brand (codes "msf1")

-- whether one of the brands, of 4 bytes each, is one of HEIF
abbrev pub any_brand : List ℕ → Bool
any_brand (a ∷ b ∷ c ∷ d ∷ brands) = is_brand (a ∷ b ∷ c ∷ d ∷ []) || any_brand brands
any_brand brands = false

-- whether the compatible brands of a file, behind its own and its version, have one of HEIF
abbrev pub has_brand : List ℕ → Bool
has_brand content = if nat_lt (length content) 8 then false else any_brand (drop 8 content)

-- whether a box is the one that begins a HEIF file
abbrev pub begins_heif : List ℕ → Option Head → Bool
begins_heif file None = false
begins_heif file (Some head) =
    bytes_eq (name_of file) (codes "ftyp") && has_brand (content_of head file)

-- whether a file begins as a HEIF file does
abbrev pub is_heif : List ℕ → Bool
is_heif file = begins_heif file (head_of file)

-- the items of a file with these spans
abbrev pub items_in_file : List ℕ → List Span → Option (List Item)
items_in_file file spans = and_then (only ItemInfo spans) (λ span. items_of (payload span file))

-- where the items' data can be
abbrev pub room_of : List ℕ → List Span → Room
room_of file spans = record { file = length file; idat = only ItemData spans }

-- the extents of these items in a file with these spans
abbrev pub extents_with : List ℕ → List Span → List Item → Option (List Extent)
extents_with file spans items =
    and_then (only ItemLocation spans)
    (λ span. extents_of items (room_of file spans) (payload span file))

-- the extents of the items of a file with these spans
abbrev pub extents_in : List ℕ → List Span → Option (List Extent)
extents_in file spans = and_then (items_in_file file spans) (extents_with file spans)

-- the spans of a file with the metadata cut out of them, and what no item has, and whether what is
-- left is judged: if the items can be read, and the file has no tracks
abbrev pub settled : List ℕ → List Span → Option (List Extent) → List Span × Bool
settled file spans None = (spans, false)
settled file spans (Some extents) =
    gaps_cut file extents (carved file extents (spans, not (has Movie spans)))

-- the parts of a file that spans are
abbrev pub judged_parts : List Span × Bool → List Part
judged_parts (spans, judged) = map (part_of judged) spans

-- the layout of a HEIF file
unfoldable pub layout_of : List ℕ → List Span × Bool
layout_of file = settled file (spans_of file) (extents_in file (spans_of file))

-- the parts of a HEIF file
abbrev pub parts_of : List ℕ → List Part
parts_of file = judged_parts (layout_of file)

-- the layout of a file, if it is a HEIF file
abbrev pub heif_layout : List ℕ → Option (List Span × Bool)
heif_layout file = if is_heif file then Some (layout_of file) else None

-- the parts of a file, if it is a HEIF file
abbrev pub heif_inventory : List ℕ → Option (List Part)
heif_inventory file = if is_heif file then Some (parts_of file) else None
