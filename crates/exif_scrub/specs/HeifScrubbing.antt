-- A file without its metadata.
use Rattle.std.specs.Global.{Global}
use Rattle.std.specs.List.{flat_map, list_all}
use Rattle.std.specs.Option.{option_map}
use Rattle.std.specs.Prelude.{Vec, ℕ, ◌-◌, List, [], ◌∷◌, ◌++◌, take, drop, Bool, true, false, ◌&&◌, Option, None, Some, Result, Ok, Err, if◌then◌else◌}
use Rattle.exif_inventory.specs.declared.kind.Kind.{Kind}
use Rattle.exif_inventory.specs.declared.kind.Kind.TheVariants as kind
use Rattle.exif_inventory.specs.declared.part.Part.{Part}
use Rattle.exif_inventory_heif.specs.Inventories.{heif_layout}
use Rattle.exif_inventory_heif.specs.Spans.{part_of}
use Rattle.exif_inventory_heif.specs.declared.span.Span.{Span}
use Rattle.exif_blanks.specs.HeifBlanks.{blanked, is_blank, span_blank}
use Rattle.exif_blanks.specs.declared.blank.Blank.{Blank}
use Rattle.exif_blanks.specs.declared.blank.Blank.TheVariants.{Nothing}
use Rattle.exif_scrub.specs.declared.heif.fault.Fault.{Fault}
use Rattle.exif_scrub.specs.declared.heif.fault.Fault.TheVariants.{Unstable}

-- the bytes of a span
abbrev pub bytes_of : Span → List ℕ → List ℕ
bytes_of span file = take (span.end - span.from) (drop span.from file)

-- a file with other bytes in a span
abbrev pub with_bytes : Span → List ℕ → List ℕ → List ℕ
with_bytes span new file = take span.from file ++ (new ++ drop span.end file)

-- whether a part is not the picture's
abbrev pub is_other : Kind → Bool
is_other kind.Picture = false
is_other k = true

-- whether nothing becomes of a span's bytes
abbrev pub stays : Blank → Bool
stays Nothing = true
stays how = false

-- the part that a span is, if it stays and may hold metadata
abbrev pub left_of : Bool → Span → List Part
left_of judged span =
    if stays (span_blank judged span) && is_other (part_of judged span).kind
    then part_of judged span ∷ [] else []

-- a file without the metadata of a span
abbrev pub span_emptied : Bool → Span → List ℕ → List ℕ
span_emptied judged span file =
    with_bytes span (blanked (span_blank judged span) (bytes_of span file)) file

-- the same with spans one after the other
abbrev pub spans_emptied : Bool → List Span → List ℕ → List ℕ
spans_emptied judged [] file = file
spans_emptied judged (span ∷ spans) file =
    spans_emptied judged spans (span_emptied judged span file)

-- whether a file has a layout, and the file without the metadata of its spans
abbrev pub emptied_by : List ℕ → Option (List Span × Bool) → Bool × List ℕ
emptied_by file None = (false, file)
emptied_by file (Some (spans, judged)) = (true, spans_emptied judged spans file)

-- the same by its own layout
abbrev pub emptied : List ℕ → Bool × List ℕ
emptied file = emptied_by file (heif_layout file)

-- whether scrubbing would leave the bytes of a span as they are
abbrev pub is_settled : Bool → List ℕ → Span → Bool
is_settled judged file span = is_blank (span_blank judged span) (bytes_of span file)

-- of these spans, the parts that stay and may hold metadata
abbrev pub left_parts : Bool → List Span → List Part
left_parts judged spans = flat_map (left_of judged) spans

-- the parts that stay of a file with this layout, if scrubbing it would change nothing
abbrev pub settled_by : List ℕ → Option (List Span × Bool) → Result (List Part) Fault
settled_by file None = Err Unstable
settled_by file (Some (spans, judged)) =
    if list_all (is_settled judged file) spans then Ok (left_parts judged spans) else Err Unstable

-- the same by its own layout
abbrev pub settled : List ℕ → Result (List Part) Fault
settled file = settled_by file (heif_layout file)

-- a file with the parts that stay
abbrev pub with_left : List ℕ → Result (List Part) Fault
    → Result (List ℕ × Option (List Part)) Fault
with_left file (Ok left) = Ok (file, Some left)
with_left file (Err fault) = Err fault

-- a file that was emptied, with the parts that stay; a file of another format as it is
abbrev pub if_emptied : Bool × List ℕ → Result (List ℕ × Option (List Part)) Fault
if_emptied (false, file) = Ok (file, None)
if_emptied (true, new) = with_left new (settled new)

-- a file without its metadata, and the parts that stay and may hold some, if it is a HEIF file
abbrev pub scrubbed : List ℕ → Result (List ℕ × Option (List Part)) Fault
scrubbed file = if_emptied (emptied file)

-- the parts that a call answered
abbrev pub parts_made : Result (Vec Part Global) Fault → Result (List Part) Fault
parts_made (Ok left) = Ok left.items
parts_made (Err fault) = Err fault

-- the file that a call left, with the parts that it answered
abbrev pub answered : List ℕ → Result (Option (Vec Part Global)) Fault
    → Result (List ℕ × Option (List Part)) Fault
answered file (Ok left) = Ok (file, option_map (λ v. v.items) left)
answered file (Err fault) = Err fault
