-- The parts of a HEIF file end in it.
use Rattle.std.proofs.Common.{◌≡◌, ◌≤◌, ℕ, Bool, true, false, List, [], ◌∷◌, map, All, arith}
use Rattle.std.specs.Prelude.{if◌then◌else◌}
use Rattle.std.proofs.lemmas.List.Elements.{All-cons, All-nil}
use Rattle.exif_inventory.specs.Promises.{EndsIn}
use Rattle.exif_inventory.specs.declared.part.Part.{Part}
use Rattle.exif_inventory_heif.specs.Spans.{data_from, data_within, part_of}
use Rattle.exif_inventory_heif.specs.Walks.{AreSpans}
use Rattle.exif_inventory_heif.specs.declared.role.Role.{Role}
use Rattle.exif_inventory_heif.specs.declared.role.Role.TheVariants.{Known, Movie}
use Rattle.exif_inventory_heif.specs.declared.span.Span.{Span}
use Rattle.exif_privacy.specs.Files.{as_unknown, heif_part, holds_more}

-- the data of a span begin in it
data_begin : (role : Role) (span : Span) → span.from ≤ span.content → span.content ≤ span.end
    → data_within role span ≤ span.end
data_begin (Known k) span f c = c
data_begin Movie span f c = c
data_begin _ span f c = omega arith

-- so its part ends in a file that it ends in, whatever it is
part_ends : (judged : Bool) (span : Span) (n : ℕ) → span.from ≤ span.content
    → span.content ≤ span.end → span.end ≤ n → EndsIn n (part_of judged span)
part_ends judged span n f c e =
    let d : data_from span ≤ span.end = data_begin span.role span f c in omega arith

known_ends : (b : Bool) (part : Part) (n : ℕ) → EndsIn n part
    → EndsIn n (if b then as_unknown part else part)
known_ends true part n h = h
known_ends false part n h = h

-- spans in order end before the last of them does
ends_behind : (from : ℕ) (spans : List Span) (end : ℕ) → AreSpans from spans end → from ≤ end
ends_behind from [] end h = omega arith
ends_behind from (s ∷ spans) end h =
    let at : s.from ≡ from = h.0 in
    let f : s.from ≤ s.content = h.1 in
    let c : s.content ≤ s.end = h.2 in
    let e : s.end ≤ end = ends_behind s.end spans end h.3 in
    omega arith

-- the parts of spans in order end in their file
pub parts_end : (file : List ℕ) (judged : Bool) (from : ℕ) (spans : List Span) (end : ℕ)
    → AreSpans from spans end → All (EndsIn end) (map (heif_part file judged) spans)
parts_end file judged from [] end h = All-nil (EndsIn end)
parts_end file judged from (s ∷ spans) end h =
    All-cons (EndsIn end) (heif_part file judged s) (map (heif_part file judged) spans)
    (known_ends (holds_more file judged s) (part_of judged s) end
    (part_ends judged s end h.1 h.2 (ends_behind s.end spans end h.3)))
    (parts_end file judged s.end spans end h.3)
