-- Values as TIFF data spell them (TIFF 6.0, section 2).
use Rattle.std.specs.Prelude.{ℕ, List, slice_index, Some, None}
use Rattle.std.specs.Int.{w8, w16, w32, cast_signed}
use Rattle.exif_base.specs.Bytes.{Reading, number_at, bytes_at, items_at}
use Rattle.exif_text.specs.FieldTypes.{type_of}
use Rattle.exif_types.specs.Texts.{texts}
use Rattle.exif_tiff.specs.Rationals.{rational_at, srational_at}
use Rattle.exif_types.specs.declared.value.Value.{Value}
use Rattle.exif_types.specs.declared.value.Value.TheVariants as value
use Rattle.exif_text.specs.declared.field_type.FieldType.{FieldType}
use Rattle.exif_text.specs.declared.field_type.FieldType.TheVariants as field_type

-- the value of a type, with count items from an offset on
abbrev pub decode_as : Reading → FieldType → ℕ → List ℕ → ℕ → Value
decode_as number field_type.Byte count bytes offset = value.Byte (bytes_at count bytes offset)
decode_as number field_type.Ascii count bytes offset =
    value.Ascii (texts (bytes_at count bytes offset))
decode_as number field_type.Short count bytes offset =
    value.Short (items_at (number_at number 2 bytes) 2 count offset)
decode_as number field_type.Long count bytes offset =
    value.Long (items_at (number_at number 4 bytes) 4 count offset)
decode_as number field_type.Rational count bytes offset =
    value.Rational (items_at (rational_at number bytes) 8 count offset)
decode_as number field_type.SByte count bytes offset =
    value.SByte (items_at (λ p. cast_signed w8 (slice_index bytes p)) 1 count offset)
decode_as number field_type.Undefined count bytes offset =
    value.Undefined (bytes_at count bytes offset) offset
decode_as number field_type.SShort count bytes offset =
    value.SShort (items_at (λ p. cast_signed w16 (number_at number 2 bytes p)) 2 count offset)
decode_as number field_type.SLong count bytes offset =
    value.SLong (items_at (λ p. cast_signed w32 (number_at number 4 bytes p)) 4 count offset)
decode_as number field_type.SRational count bytes offset =
    value.SRational (items_at (srational_at number bytes) 8 count offset)
decode_as number field_type.Float count bytes offset =
    value.Float (items_at (number_at number 4 bytes) 4 count offset)
decode_as number field_type.Double count bytes offset =
    value.Double (items_at (number_at number 8 bytes) 8 count offset)

-- the value of the type with a number; a number that names no type is kept with the count and the
-- offset
abbrev pub decode : Reading → ℕ → ℕ → List ℕ → ℕ → Value
decode number type count bytes offset =
    elim (type_of type) [
      | Some t ↦ decode_as number t count bytes offset
      | None ↦ value.Unknown type count offset
    ]
