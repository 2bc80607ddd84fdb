-- The Exif data of one picture copied into another one.
use Rattle.std.specs.Prelude.{ℕ, List, [], Result, Ok, Err}
use Rattle.exif_types.specs.Refusals.{Refusal}
use Rattle.exif_types.specs.declared.field.Field.{Field}
use Rattle.exif_change.specs.Changed.{Change}
use Rattle.exif_change.specs.Reading.{Contents}
use Rattle.exif_change.specs.Refusals.{Reason, as_edited, as_read, ◌>>=◌}
use Rattle.exif_copy.specs.Found.{exif_found, format_for}
use Rattle.exif_copy.specs.Placed.{placed}
use Rattle.exif_copy.specs.Shaped.{with_shape}
use Rattle.exif_copy.specs.declared.copying.Shape.{Shape}
use Rattle.exif_copy.specs.declared.copying.Shape.TheVariants as shape

-- the fields by which a picture tells its shape: none where it has no Exif data that are read
abbrev pub own_fields : Result Contents Refusal → List Field
own_fields (Ok contents) = contents.fields
own_fields (Err refusal) = []

-- data as they are put into a picture
abbrev pub shaped : Shape → Contents → List ℕ → Result (List ℕ) Reason
shaped shape.Source contents to = Ok contents.bytes
shaped shape.Target contents to =
    as_edited (with_shape contents.fields (own_fields (exif_found to)) contents.bytes)

-- a picture with data of another one in place of its own
abbrev pub placed_shaped : Shape → List ℕ → Contents → Result Change Reason
placed_shaped shape to contents =
    shaped shape contents to >>= λ data'. placed (format_for to) data' to

-- a picture with the Exif data of another one in place of its own
abbrev pub copied : Shape → List ℕ → List ℕ → Result Change Reason
copied shape from to = as_read (exif_found from) >>= placed_shaped shape to
