-- The parts of files in which locations are erased.
use Rattle.std.specs.Prelude.{ℕ, ◌-◌, ◌&&◌, ◌||◌, not, Bool, true, false, List, [], ◌∷◌, length, map, take, drop, codes, Option, Some, None, if◌then◌else◌}
use Rattle.std.specs.Option.{option_map}
use Rattle.std.specs.Str.{bytes_eq}
use Rattle.exif_blanks.specs.HeifBlanks.{is_blank, span_blank}
use Rattle.exif_inventory_heif.specs.Inventories.{heif_layout}
use Rattle.exif_inventory_heif.specs.Spans.{part_of}
use Rattle.exif_inventory_heif.specs.declared.span.Span.{Span}
use Rattle.exif_lengths.specs.Walks.{measured_inventory}
use Rattle.exif_inventory.specs.declared.kind.Kind.{Kind}
use Rattle.exif_inventory.specs.declared.kind.Kind.TheVariants as kind
use Rattle.exif_inventory.specs.declared.part.Part.{Part}

-- whether a file is TIFF data (TIFF 6.0, section 2, "Image File Header")
abbrev pub is_tiff : List ℕ → Bool
is_tiff file = bytes_eq (take 4 file) (codes "II*\0") || bytes_eq (take 4 file) (codes "MM\0*")

-- all of a TIFF file as Exif data, which have its form (Exif 2.32, 4.5.2)
abbrev pub tiff_part : ℕ → Part
tiff_part len = record {
  kind = kind.Exif;
  picture = 0;
  offset = 0;
  len = len;
  data_offset = 0;
  data_len = len;
}

abbrev pub is_picture : Kind → Bool
is_picture kind.Picture = true
is_picture k = false

-- whether a box of a HEIF file that describes its picture holds something else, too: a name, a text,
-- or bytes behind its fields, in whose place a scrubbed file has others
abbrev pub holds_more : List ℕ → Bool → Span → Bool
holds_more file judged span =
    is_picture (part_of judged span).kind
    && not (is_blank (span_blank judged span) (take (span.end - span.from) (drop span.from file)))

-- a part that is not known
abbrev pub as_unknown : Part → Part
as_unknown part = record {
  kind = kind.Unknown;
  picture = part.picture;
  offset = part.offset;
  len = part.len;
  data_offset = part.data_offset;
  data_len = part.data_len;
}

-- the part of a HEIF file that a span is: one that holds something else, too, is not known
abbrev pub heif_part : List ℕ → Bool → Span → Part
heif_part file judged span =
    if holds_more file judged span then as_unknown (part_of judged span) else part_of judged span

-- the parts of a HEIF or AVIF file
abbrev pub heif_parts : List ℕ → Option (List Part)
heif_parts file =
    option_map (λ (layout : List Span × Bool). map (heif_part file layout.1) layout.0)
    (heif_layout file)

-- the parts of a file by one inventory, or else by that of HEIF and AVIF files
abbrev pub parts_or : List ℕ → Option (List Part) → Option (List Part)
parts_or file (Some parts) = Some parts
parts_or file None = heif_parts file

-- the parts of a file, if its format is known; pieces of the picture whose length is not the one
-- that their standard gives are parts that are not known
abbrev pub parts_of : List ℕ → Option (List Part)
parts_of file =
    if is_tiff file then Some (tiff_part (length file) ∷ [])
    else parts_or file (measured_inventory file)
