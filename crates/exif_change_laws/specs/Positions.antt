-- Where dates are in files, and which shifts leave them there.
use Rattle.std.specs.Prelude.{◌≡◌, ⊤, ℕ, List, [], ◌∷◌, Result, Ok, Err}
use Rattle.exif_base.specs.Orders.{number_of}
use Rattle.exif_base.specs.declared.endian.Order.{Order}
use Rattle.exif_types.specs.Lookup.{last_named}
use Rattle.exif_types.specs.declared.field.Field.{Field}
use Rattle.exif_types.specs.declared.tag.Tag.{Tag}
use Rattle.exif_tiff.specs.Trace.{header}
use Rattle.exif_isobmff.specs.declared.locations.Extent.{Extent}
use Rattle.exif_containers.specs.Located.{located_answer}
use Rattle.exif_edit_base.specs.Causes.{Cause, no_field, of_container, of_data, or_cause, ◌>>=◌}
use Rattle.exif_edit_base.specs.Finding.{last_located}
use Rattle.exif_edit_base.specs.Locations.{located}
use Rattle.exif_edit_base.specs.Spans.{value_space}
use Rattle.exif_edit_base.specs.declared.patch.Span.{Span}
use Rattle.exif_datetime.specs.Shift.{opposite}
use Rattle.exif_datetime.specs.declared.shift.ClockShift.{ClockShift}
use Rattle.exif_change.specs.Changed.{Change, whole}
use Rattle.exif_change.specs.Reading.{file_contents, primary}
use Rattle.exif_setting.specs.Shifting.{tag_moved, tags_of}
use Rattle.exif_setting.specs.declared.dates.Dates.{Dates}

-- where a date is: the extents of the Exif data, their byte order, and in the data the entry of the
-- date and the space of its value
pub record Position : Type 0 where
  pub extents : List Extent
  pub order : Order
  pub entry : ℕ
  pub space : Span

-- the position of the last date of a tag in a file
abbrev pub position_of : Tag → List ℕ → Result Position Cause
position_of tag file = do
  at ← of_container (located_answer file)
  order ← of_data (header at.bytes)
  found ← or_cause (last_located tag primary (located at.bytes)) no_field
  Ok (record {
    extents = at.ranges;
    order = order;
    entry = found.entry;
    space = value_space (number_of order) at.bytes found.entry;
  })

-- the extents of the Exif data of a file
abbrev pub extents : List ℕ → Result (List Extent) Cause
extents file = of_container (located_answer file) >>= λ at. Ok at.ranges

-- each date is set where the old file has it
abbrev pub StaysPut : List ℕ → ClockShift → List Field → List Tag → Change → Type 0
StaysPut old by fields [] change = ⊤
StaysPut old by fields (tag ∷ tags) change =
    (position_of tag change.file ≡ position_of tag old)
    × StaysPut old by fields tags (tag_moved by tag (last_named fields tag primary) change)

-- the fields that are read of a file
abbrev pub fields_of_file : List ℕ → List Field
fields_of_file file = elim (file_contents file) [ Ok contents ↦ contents.fields | Err refusal ↦ [] ]

-- a shift and its opposite set each date where the old file has it, and leave the Exif data in the
-- extents where they were
pub record KeepsPositions (by : ClockShift) (which : Dates) (file new back : List ℕ) : Type 0 where
  pub there : StaysPut file by (fields_of_file file) (tags_of which) (whole file)
  pub again : StaysPut file (opposite by) (fields_of_file new) (tags_of which) (whole new)
  pub extents : extents back ≡ extents file
