-- Spans in order are parts in order.
use Rattle.std.proofs.Common.{◌≡◌, ◌≤◌, ◌+◌, ◌-◌, ℕ, Bool, not, List, [], ◌∷◌, length, map, All, Option, Some, None, ap, sym, ◌∙◌, subst, arith}
use Rattle.std.proofs.lemmas.List.Elements.{All-cons, All-nil}
use Rattle.exif_inventory.proofs.WalkSteps.{all_inside}
use Rattle.exif_inventory.specs.Promises.{AreInOrder, EndsIn, IsWithin}
use Rattle.exif_inventory.specs.declared.part.Part.{Part}
use Rattle.exif_inventory_heif.specs.Carving.{carved}
use Rattle.exif_inventory_heif.specs.Inventories.{extents_in, judged_parts, layout_of, parts_of, settled}
use Rattle.exif_inventory_heif.specs.Spans.{data_from, data_within, has, part_of}
use Rattle.exif_inventory_heif.specs.Walks.{AreSpans, IsInside}
use Rattle.exif_inventory_heif.specs.declared.extents.Extent.{Extent}
use Rattle.exif_inventory_heif.specs.declared.role.Role.{Role}
use Rattle.exif_inventory_heif.specs.declared.role.Role.TheVariants.{Known, Movie}
use Rattle.exif_inventory_heif.specs.declared.span.Span.{Span}
use Rattle.exif_inventory_heif.proofs.SpanOrder.{carved_ordered, gaps_ordered}

-- the data of a span are in it
data_in : (role : Role) (span : Span) → span.from ≤ span.content → span.content ≤ span.end
    → (span.from ≤ data_within role span) × (data_within role span ≤ span.end)
data_in (Known k) span f c = (f, c)
data_in Movie span f c = (f, c)
data_in _ span f c = (omega arith, omega arith)

part_within : (judged : Bool) (span : Span) → span.from ≤ span.content → span.content ≤ span.end → IsWithin (part_of judged span)
part_within judged span f c =
    let d = data_in span.role span f c in
    let least : span.from ≤ data_from span = d.0 in
    let most : data_from span ≤ span.end = d.1 in
    (least, omega arith)

parts_within : (judged : Bool) (from : ℕ) (spans : List Span) (end : ℕ) → AreSpans from spans end → All IsWithin (map (part_of judged) spans)
parts_within judged from [] end h = All-nil IsWithin
parts_within judged from (s ∷ spans) end h =
    All-cons IsWithin (part_of judged s) (map (part_of judged) spans) (part_within judged s h.1 h.2) (parts_within judged s.end spans end h.3)

parts_ordered : (judged : Bool) (from : ℕ) (spans : List Span) (end : ℕ) → AreSpans from spans end → AreInOrder from (map (part_of judged) spans) end
parts_ordered judged from [] end h = h
parts_ordered judged from (s ∷ spans) end h =
    let at : s.from ≡ from = h.0 in
    let f : s.from ≤ s.content = h.1 in
    let c : s.content ≤ s.end = h.2 in
    let e : s.end ≡ from + (s.end - s.from) = omega arith in
    (at, subst (λ n. AreInOrder n (map (part_of judged) spans) end) e (parts_ordered judged s.end spans end h.3))

settled_ordered : (file : List ℕ) (spans : List Span) (extents : Option (List Extent)) (end : ℕ) → AreSpans 0 spans end
    → AreSpans 0 (settled file spans extents).0 end
settled_ordered file spans None end h = h
settled_ordered file spans (Some extents) end h =
    gaps_ordered file extents (carved file extents (spans, not (has Movie spans))) end (carved_ordered file extents spans (not (has Movie spans)) end h)

-- the layout of a file is in order
pub layout_ordered : (file : List ℕ) (found spans : List Span) (judged : Bool) → AreSpans 0 found (length file)
    → (spans, judged) ≡ settled file found (extents_in file found) → AreSpans 0 spans (length file)
layout_ordered file found spans judged ordered s =
    subst (λ (c : List Span × Bool). AreSpans 0 c.0 (length file)) (sym s) (settled_ordered file found (extents_in file found) (length file) ordered)

not_before : (from : ℕ) (spans : List Span) (end : ℕ) → AreSpans from spans end → from ≤ end
not_before from [] end h = omega arith
not_before from (s ∷ spans) end h =
    let at : s.from ≡ from = h.0 in
    let f : s.from ≤ s.content = h.1 in
    let c : s.content ≤ s.end = h.2 in
    let l = not_before s.end spans end h.3 in
    omega arith

-- spans in order are within the bytes up to the end of the last one
pub spans_inside : (from : ℕ) (spans : List Span) (end : ℕ) → AreSpans from spans end → All (IsInside end) spans
spans_inside from [] end h = All-nil (IsInside end)
spans_inside from (s ∷ spans) end h =
    let f : s.from ≤ s.content = h.1 in
    let c : s.content ≤ s.end = h.2 in
    All-cons (IsInside end) s spans (omega arith, not_before s.end spans end h.3) (spans_inside s.end spans end h.3)

-- the parts of a file are in order, and their data are in them
pub parts_are : (file : List ℕ) (spans : List Span) (judged : Bool) (out : List Part) → AreSpans 0 spans (length file)
    → (spans, judged) ≡ layout_of file → out ≡ judged_parts (spans, judged)
    → (out ≡ parts_of file) × AreInOrder 0 out (length file) × All IsWithin out × All (EndsIn (length file)) out
parts_are file spans judged out ordered l o =
    let n = length file in
    let covers : AreInOrder 0 out n = subst (λ (ps : List Part). AreInOrder 0 ps n) (sym o) (parts_ordered judged 0 spans n ordered) in
    let within : All IsWithin out = subst (λ (ps : List Part). All IsWithin ps) (sym o) (parts_within judged 0 spans n ordered) in
    (o ∙ ap judged_parts l, covers, within, all_inside 0 out n covers within)
