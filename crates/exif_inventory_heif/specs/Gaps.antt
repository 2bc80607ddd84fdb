-- Bytes of the boxes with items' data that no item has (ISO/IEC 14496-12, 8.1.1, 8.11.3, 8.11.11).
use Rattle.std.specs.Prelude.{ℕ, zero, suc, ◌-◌, max, min, List, [], ◌∷◌, ◌++◌, length, take, drop, nat_lt, nat_le, Bool, true, false, not, ◌&&◌, ◌||◌, if◌then◌else◌}
use Rattle.std.specs.List.{flat_map}
use Rattle.exif_inventory.specs.declared.kind.Kind.TheVariants as kind
use Rattle.exif_inventory_heif.specs.Carving.{carved, may_hold}
use Rattle.exif_inventory_heif.specs.Roles.{is_zeros}
use Rattle.exif_inventory_heif.specs.declared.extents.Extent.{Extent}
use Rattle.exif_inventory_heif.specs.declared.gaps.Stretch.{Stretch}
use Rattle.exif_inventory_heif.specs.declared.span.Span.{Span}

-- whether an extent has the byte at an offset
abbrev pub has_byte : ℕ → Extent → Bool
has_byte at extent = nat_le extent.from at && nat_lt at extent.end

-- how far bytes of one item reach from an offset on, with an extent more
abbrev pub reach_at : ℕ → ℕ → Extent → ℕ
reach_at at far extent = if has_byte at extent then max far extent.end else far

abbrev pub reach_of : ℕ → ℕ → List Extent → ℕ
reach_of at far [] = far
reach_of at far (extent ∷ extents) = reach_of at (reach_at at far extent) extents

-- where the next byte of an item is behind an offset, with an extent more
abbrev pub next_at : ℕ → ℕ → Extent → ℕ
next_at at near extent = if nat_lt at extent.from then min near extent.from else near

abbrev pub next_of : ℕ → ℕ → List Extent → ℕ
next_of at near [] = near
next_of at near (extent ∷ extents) = next_of at (next_at at near extent) extents

-- the bytes from an offset on, up to an end: those that one item has, or those that none has
abbrev pub stretch_at : ℕ → ℕ → List Extent → Stretch
stretch_at at end extents =
    if nat_lt at (reach_of at at extents)
    then record { used = true; end = reach_of at at extents }
    else record { used = false; end = next_of at end extents }

-- the bytes between two offsets, if they are not all zeros
abbrev pub gap_at : List ℕ → ℕ → ℕ → List Extent
gap_at file from end =
    if is_zeros (drop from (take end file)) then []
    else record { kind = kind.Unknown; from = from; end = end } ∷ []

abbrev pub unused_at : List ℕ → ℕ → Stretch → List Extent
unused_at file at stretch = if stretch.used then [] else gap_at file at stretch.end

-- what is in no extent, from an offset on, in at most n stretches of a byte at least
unfoldable pub gaps_from : List ℕ → List Extent → ℕ → ℕ → ℕ → List Extent
gaps_from file extents end zero at = []
gaps_from file extents end (suc n) at =
    if nat_lt at end
    then unused_at file at (stretch_at at end extents)
    ++ gaps_from file extents end n (stretch_at at end extents).end
    else []

-- what of the content of a span with items' data is in no extent
abbrev pub span_gaps : List ℕ → List Extent → Span → List Extent
span_gaps file extents span =
    if may_hold span.role
    then gaps_from file extents span.end (span.end - span.content) span.content else []

-- the same of all spans
abbrev pub gaps_of : List ℕ → List Extent → List Span → List Extent
gaps_of file extents spans = flat_map (span_gaps file extents) spans

-- judged spans with these bytes cut out; extents are searched if they are not many
abbrev pub gaps_cut : List ℕ → List Extent → List Span × Bool → List Span × Bool
gaps_cut file extents (spans, judged) =
    if not judged || nat_lt 16384 (length extents) then (spans, false)
    else carved file (gaps_of file extents spans) (spans, judged)
