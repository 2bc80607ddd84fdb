-- A file in which fields are set whose values are at hand.
use Rattle.std.specs.Prelude.{ℕ, List, [], ◌∷◌, Some, None, Result, Ok, Err}
use Rattle.exif_types.specs.declared.field.Field.{Field}
use Rattle.exif_containers.specs.Container.{format_in}
use Rattle.exif_containers.specs.declared.container.Format.{Format}
use Rattle.exif_change.specs.Changed.{Change}
use Rattle.exif_change.specs.Reading.{file_contents}
use Rattle.exif_change.specs.Refusals.{Reason, unknown_format, ◌>>=◌}
use Rattle.exif_setting.specs.Setting.{fields_or_none, sets_set, with_field}

-- fields that are to be set in a file with these fields, in place and in the data, and more of them
abbrev pub fields_behind : List Field → List Field → List Field × List Field
    → List Field × List Field
fields_behind own [] sets = sets
fields_behind own (field ∷ fields) sets = fields_behind own fields (with_field own field sets)

-- those of a file, by the fields that it has
abbrev pub given_fields : List ℕ → List Field → Result (List Field × List Field) Reason
given_fields file fields =
    fields_or_none (file_contents file) >>= λ own. Ok (fields_behind own fields ([], []))

-- a file of a format with fields set
abbrev pub fields_set_as : Format → List Field → List ℕ → Result Change Reason
fields_set_as format fields file =
    given_fields file fields >>= (λ sets. sets_set format sets file)

-- a file with fields set: over the old ones where they fit, or else in Exif data that become longer
abbrev pub fields_set : List Field → List ℕ → Result Change Reason
fields_set fields file = elim (format_in file) [
  | Some format ↦ fields_set_as format fields file
  | None ↦ Err unknown_format
]
