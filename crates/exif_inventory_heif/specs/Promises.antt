-- What is promised of the parts of a file whose items are understood.
use Rattle.std.specs.Prelude.{◌≡◌, ◌≤◌, ◌⊎◌, ℕ, List, All, Bool, true, false, Some}
use Rattle.exif_inventory_heif.specs.Carving.{is_picture}
use Rattle.exif_inventory_heif.specs.Inventories.{extents_in}
use Rattle.exif_inventory_heif.specs.Spans.{part_kind}
use Rattle.exif_inventory_heif.specs.Walks.{spans_of}
use Rattle.exif_inventory_heif.specs.declared.extents.Extent.{Extent}
use Rattle.exif_inventory_heif.specs.declared.span.Span.{Span}

-- an extent and a span share no byte
abbrev pub IsApart : Extent → Span → Type 0
IsApart extent span = (extent.end ≤ span.from) ⊎ (span.end ≤ extent.from)

-- the same if the span is the picture's
abbrev pub Avoids : Extent → Span → Type 0
Avoids extent span = is_picture (part_kind true span.role) ≡ true → IsApart extent span

-- where the items are understood, the picture shares no byte with data of an item that is none
abbrev pub PictureIsApart : List ℕ → List Span × Bool → Type 0
PictureIsApart file (spans, judged) =
    judged ≡ true → (extents : List Extent) → extents_in file (spans_of file) ≡ Some extents
    → All (λ extent. is_picture extent.kind ≡ false → All (Avoids extent) spans) extents
