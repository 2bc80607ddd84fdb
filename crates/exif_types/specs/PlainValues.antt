-- A value as texts are made of it.
use Rattle.exif_text.specs.Contents.{Plain, Bytes, Texts, Shorts, Longs, Rationals, SignedBytes, Undefined, SignedShorts, SignedLongs, SignedRationals, Floats, Doubles, Unknown}
use Rattle.exif_types.specs.declared.value.Value.{Value}
use Rattle.exif_types.specs.declared.value.Value.TheVariants as value

-- the kind and the list of a value; the offset of undefined bytes is not shown
abbrev pub plain_of : Value → Plain
plain_of (value.Byte ns) = Bytes ns
plain_of (value.Ascii texts) = Texts texts
plain_of (value.Short ns) = Shorts ns
plain_of (value.Long ns) = Longs ns
plain_of (value.Rational rs) = Rationals rs
plain_of (value.SByte ns) = SignedBytes ns
plain_of (value.Undefined bytes offset) = Undefined bytes
plain_of (value.SShort ns) = SignedShorts ns
plain_of (value.SLong ns) = SignedLongs ns
plain_of (value.SRational rs) = SignedRationals rs
plain_of (value.Float bits) = Floats bits
plain_of (value.Double bits) = Doubles bits
plain_of (value.Unknown type count offset) = Unknown type count offset
