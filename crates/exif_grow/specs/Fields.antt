-- Several fields set, one after the other.
use Rattle.std.specs.Prelude.{ℕ, List, [], ◌∷◌, Result, Ok}
use Rattle.exif_types.specs.declared.field.Field.{Field}
use Rattle.exif_edit_base.specs.Causes.{Cause, ◌>>=◌}
use Rattle.exif_grow.specs.Growing.{grown}
use Rattle.exif_grow.specs.Setting.{grow_answer}
use Rattle.exif_grow.specs.Alike.{made_alike}

-- the new data with a field: its value is set, and then all fields of its name are made alike
unfoldable pub field_grown : Field → List ℕ → Result (List ℕ) Cause
field_grown field bytes = do
  a ← grow_answer bytes field.tag field.ifd_num field.value
  made_alike (grown a bytes) field.tag field.ifd_num

-- the same with several, one after the other
abbrev pub fields_grown : List Field → List ℕ → Result (List ℕ) Cause
fields_grown [] bytes = Ok bytes
fields_grown (field ∷ fields) bytes = field_grown field bytes >>= fields_grown fields
