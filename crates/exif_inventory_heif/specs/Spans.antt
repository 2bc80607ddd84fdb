-- Spans of a file, each with its role.
use Rattle.std.specs.Prelude.{ℕ, ◌-◌, List, [], ◌∷◌, take, drop, Bool, Option, Some, None, if◌then◌else◌}
use Rattle.std.specs.List.{list_any}
use Rattle.exif_inventory.specs.declared.kind.Kind.{Kind}
use Rattle.exif_inventory.specs.declared.kind.Kind.TheVariants as kind
use Rattle.exif_inventory.specs.declared.part.Part.{Part}
use Rattle.exif_inventory_heif.specs.Roles.{same_role}
use Rattle.exif_inventory_heif.specs.declared.role.Role.{Role}
use Rattle.exif_inventory_heif.specs.declared.role.Role.TheVariants.{Known, Movie}
use Rattle.exif_inventory_heif.specs.declared.span.Span.{Span}

-- whether a span has this role
abbrev pub has : Role → List Span → Bool
has wanted spans = list_any (λ span. same_role wanted span.role) spans

-- the span with this role, if there is one, and no other
abbrev pub only : Role → List Span → Option Span
only wanted [] = None
only wanted (span ∷ spans) =
    if same_role wanted span.role then (if has wanted spans then None else Some span)
    else only wanted spans

-- what a span of a file holds, as far as the file has it
abbrev pub payload : Span → List ℕ → List ℕ
payload span file = drop span.content (take span.end file)

-- what a span is; what may hold both the picture and metadata is the picture's, if the items are
-- understood
abbrev pub part_kind : Bool → Role → Kind
part_kind judged (Known k) = k
part_kind judged Movie = kind.Unknown
part_kind judged role = if judged then kind.Picture else kind.Unknown

-- where the data of a span of this role begin: with it, if it may hold both
abbrev pub data_within : Role → Span → ℕ
data_within (Known k) span = span.content
data_within Movie span = span.content
data_within role span = span.from

abbrev pub data_from : Span → ℕ
data_from span = data_within span.role span

-- the part of the file that a span is
abbrev pub part_of : Bool → Span → Part
part_of judged span = record {
  kind = part_kind judged span.role;
  picture = 0;
  offset = span.from;
  len = span.end - span.from;
  data_offset = data_from span;
  data_len = span.end - data_from span;
}
