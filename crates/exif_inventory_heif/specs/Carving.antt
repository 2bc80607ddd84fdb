-- The data of the items, cut out of the spans that hold them.
use Rattle.std.specs.Prelude.{ℕ, ◌+◌, ◌-◌, List, [], ◌∷◌, ◌++◌, length, drop, nat_lt, nat_le, count_by, Bool, true, false, not, ◌&&◌, ◌||◌, ◌==◌, Option, Some, None, if◌then◌else◌}
use Rattle.std.specs.List.{flat_map, list_any}
use Rattle.exif_inventory.specs.declared.kind.Kind.{Kind}
use Rattle.exif_inventory.specs.declared.kind.Kind.TheVariants as kind
use Rattle.exif_inventory_heif.specs.Numbers.{number}
use Rattle.exif_inventory_heif.specs.declared.span.Layout.{Layout}
use Rattle.exif_inventory_heif.specs.declared.extents.Extent.{Extent}
use Rattle.exif_inventory_heif.specs.declared.role.Role.{Role}
use Rattle.exif_inventory_heif.specs.declared.role.Role.TheVariants.{Known, ItemData, MediaData}
use Rattle.exif_inventory_heif.specs.declared.span.Span.{Span}

-- the spans of a file, and whether what is left of those with items' data is the picture's
abbrev pub layout_view : Layout → List Span × Bool
layout_view c = (c.spans.items, c.judged)

-- whether data are those of a picture
abbrev pub is_picture : Kind → Bool
is_picture kind.Picture = true
is_picture k = false

-- whether two extents share a byte
abbrev pub meets : Extent → Extent → Bool
meets a b = nat_lt a.from b.end && nat_lt b.from a.end

-- whether an extent, which is one of these, shares no byte with another one
abbrev pub is_alone : Extent → List Extent → Bool
is_alone extent all = count_by (meets extent) all == 1

-- whether a span may hold data of items
abbrev pub may_hold : Role → Bool
may_hold ItemData = true
may_hold MediaData = true
may_hold role = false

-- whether a span holds an extent, which has a byte at least
abbrev pub holds : Extent → Span → Bool
holds extent span =
    may_hold span.role && nat_le span.content extent.from && nat_lt extent.from extent.end
    && nat_le extent.end span.end

-- whether one of these holds it
abbrev pub is_held : Extent → List Span → Bool
is_held extent spans = list_any (holds extent) spans

-- an offset behind the first 4 bytes of an extent and so many more, if it is not behind the extent
abbrev pub offset_behind : Extent → ℕ → Option ℕ
offset_behind extent n =
    if nat_lt (extent.end - extent.from - 4) n then None else Some (extent.from + 4 + n)

-- where the TIFF data of an Exif item begin: behind 4 bytes, and as many as these say (ISO/IEC
-- 23008-12, A.2.1)
unfoldable pub exif_content : Extent → List ℕ → Option ℕ
exif_content extent file =
    if nat_lt (extent.end - extent.from) 4 || nat_lt (length file) extent.end then None
    else offset_behind extent (number 4 (drop extent.from file))

-- the span of an item's data
abbrev pub known_span : Kind → Extent → ℕ → Span
known_span k extent content =
    record { role = Known k; from = extent.from; content = content; end = extent.end }

abbrev pub exif_span : Extent → Option ℕ → Span
exif_span extent None = known_span kind.Broken extent extent.from
exif_span extent (Some content) = known_span kind.Exif extent content

abbrev pub kind_span : Kind → Extent → List ℕ → Span
kind_span kind.Exif extent file = exif_span extent (exif_content extent file)
kind_span k extent file = known_span k extent extent.from

unfoldable pub item_span : Extent → List ℕ → Span
item_span extent file = kind_span extent.kind extent file

-- a span, if it has a byte
abbrev pub some_span : Span → List Span
some_span span = if nat_lt span.from span.end then span ∷ [] else []

-- what is left of a span before an extent, and behind it
abbrev pub before : Extent → Span → Span
before extent span = record {
  role = span.role;
  from = span.from;
  content = span.content;
  end = extent.from;
}

abbrev pub behind : Extent → Span → Span
behind extent span = record {
  role = span.role;
  from = extent.end;
  content = extent.end;
  end = span.end;
}

-- a span with an extent cut out
abbrev pub pieces : List ℕ → Extent → Span → List Span
pieces file extent span =
    some_span (before extent span) ++ item_span extent file ∷ []
    ++ some_span (behind extent span)

-- the same if it holds it
unfoldable pub cut_one : List ℕ → Extent → Span → List Span
cut_one file extent span = if holds extent span then pieces file extent span else span ∷ []

-- spans with an extent cut out of the one that holds it
abbrev pub cut : List ℕ → Extent → List Span → List Span
cut file extent spans = flat_map (cut_one file extent) spans

-- spans with an extent of metadata cut out; if it can't be, or if no span with items' data holds an
-- extent of a picture, these spans are not judged
unfoldable pub carve_one : List ℕ → List Extent → Extent → List Span × Bool → List Span × Bool
carve_one file all extent (spans, judged) =
    if is_picture extent.kind then (spans, judged && is_held extent spans) else
    if is_alone extent all && is_held extent spans then (cut file extent spans, judged)
    else (spans, false)

-- the same with each of these extents
abbrev pub carve_each : List ℕ → List Extent → List Extent → List Span × Bool → List Span × Bool
carve_each file all [] carving = carving
carve_each file all (extent ∷ extents) carving =
    carve_each file all extents (carve_one file all extent carving)

-- whether more extents of metadata are there than are cut out at most
abbrev pub are_many : List Extent → Bool
are_many extents = nat_lt 256 (count_by (λ extent. not (is_picture extent.kind)) extents)

-- spans with all extents of metadata cut out, if these are not many, nor the spans
unfoldable pub carved : List ℕ → List Extent → List Span × Bool → List Span × Bool
carved file extents (spans, judged) =
    if are_many extents || nat_lt 4096 (length spans) then (spans, false)
    else carve_each file extents extents (spans, judged)
