-- Where the values of entries are (TIFF 6.0, section 2, "IFD Entry").
use Rattle.std.specs.Prelude.{ℕ, ◌+◌, ◌*◌, nat_le, List, length, if◌then◌else◌}
use Rattle.exif_base.specs.Bytes.{Reading, number_at}
use Rattle.exif_text.specs.FieldTypes.{type_of, known_length}
use Rattle.exif_edit_base.specs.declared.patch.Span.{Span}

-- no span
abbrev pub nowhere : Span
nowhere = record { offset = 0; len = 0 }

-- the space of a value of this size at an offset: nothing if the value is in its entry
abbrev pub space_of : ℕ → ℕ → Span
space_of offset size =
    if nat_le size 4 then record { offset = 0; len = 0 } else record { offset = offset; len = size }

-- where the value of the entry at e is, outside of the entry
abbrev pub value_space : Reading → List ℕ → ℕ → Span
value_space number bytes e =
    space_of (number_at number 4 bytes (e + 8))
    (known_length (type_of (number_at number 2 bytes (e + 2))) * number_at number 4 bytes (e + 4))

-- a span that lies in data of a length; else none
abbrev pub within : ℕ → Span → Span
within total s = if nat_le (s.offset + s.len) total then s else nowhere

-- the same, if it lies in the data
abbrev pub value_span : Reading → List ℕ → ℕ → Span
value_span number bytes e = within (length bytes) (value_space number bytes e)
