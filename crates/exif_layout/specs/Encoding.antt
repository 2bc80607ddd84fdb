-- The bytes that spell values (TIFF 6.0, section 2, "Types").
use Rattle.std.specs.Prelude.{ℕ, ◌*◌, List, [], ◌∷◌, ◌++◌}
use Rattle.std.specs.List.{flat_map}
use Rattle.std.specs.Int.{w8, w16, w32, cast_unsigned}
use Rattle.byteorder.specs.Endian.{big_bytes, little_bytes}
use Rattle.exif_base.specs.declared.endian.Order.{Order}
use Rattle.exif_base.specs.declared.endian.Order.TheVariants.{Big, Little}
use Rattle.exif_text.specs.FieldTypes.{unit}
use Rattle.exif_types.specs.Texts.{ended}
use Rattle.exif_types.specs.ValueTypes.{type_number, count_of}
use Rattle.exif_types.specs.declared.value.Value.{Value}
use Rattle.exif_types.specs.declared.value.Value.TheVariants.{Byte, Ascii, Short, Long, Rational, SByte, Undefined, SShort, SLong, SRational, Float, Double, Unknown}

-- the n bytes that spell a number, in an order
abbrev pub spelled : Order → ℕ → ℕ → List ℕ
spelled Big n x = big_bytes n x
spelled Little n x = little_bytes n x

-- the bytes of a value; one of an unknown type has none
abbrev pub encode : Order → Value → List ℕ
encode order (Byte xs) = xs
encode order (Ascii xs) = flat_map ended xs
encode order (Short xs) = flat_map (spelled order 2) xs
encode order (Long xs) = flat_map (spelled order 4) xs
encode order (Rational xs) = flat_map (λ x. spelled order 4 x.num ++ spelled order 4 x.denom) xs
encode order (SByte xs) = flat_map (λ x. cast_unsigned w8 x ∷ []) xs
encode order (Undefined xs offset) = xs
encode order (SShort xs) = flat_map (λ x. spelled order 2 (cast_unsigned w16 x)) xs
encode order (SLong xs) = flat_map (λ x. spelled order 4 (cast_unsigned w32 x)) xs
encode order (SRational xs) =
    flat_map
    (λ x. spelled order 4 (cast_unsigned w32 x.num) ++ spelled order 4 (cast_unsigned w32 x.denom))
    xs
encode order (Float xs) = flat_map (spelled order 4) xs
encode order (Double xs) = flat_map (spelled order 8) xs
encode order (Unknown type count offset) = []

-- how many bytes a value takes
abbrev pub value_len : Value → ℕ
value_len value = unit (type_number value) * count_of value

-- the value with the offset where its bytes are now
abbrev pub moved_to : ℕ → Value → Value
moved_to offset (Undefined xs old) = Undefined xs offset
moved_to offset value = value
