-- Which stretches of the data patches change.
use Rattle.std.specs.Prelude.{◌≡◌, ℕ, ◌||◌, Bool, List, length}
use Rattle.std.specs.List.{list_any}
use Rattle.exif_base.specs.Bytes.{Reading}
use Rattle.exif_tiff.specs.Footprint.{Stretch}
use Rattle.exif_edit_base.specs.declared.patch.Patch.{Patch}
use Rattle.exif_edit.specs.Erasing.{gps_spans}
use Rattle.exif_edit_base.specs.Spans.{value_space}
use Rattle.exif_edit.specs.Sharing.{changed_entry, overlaps}

-- whether a patch has a byte of a stretch
abbrev pub covers : Stretch → Patch → Bool
covers t p = overlaps (record { offset = p.offset; len = length p.bytes }) t

-- whether one of patches has
abbrev pub changes : List Patch → Stretch → Bool
changes ps t = list_any (covers t) ps

-- patches change bytes of the entry at e and of the space of its value, and no others
abbrev pub ChangeEntry : Reading → List ℕ → ℕ → List Patch → Type 0
ChangeEntry number bytes e ps =
    (t : Stretch)
    → changes ps t ≡ (overlaps (changed_entry e) t || overlaps (value_space number bytes e) t)

-- patches change bytes of GPS directories and of their values, and no others
abbrev pub ChangeOffsets : Reading → List ℕ → List Patch → Type 0
ChangeOffsets number bytes ps =
    (t : Stretch) → changes ps t ≡ list_any (λ s. overlaps s t) (gps_spans number bytes)
