-- Fractions in TIFF data.
use Rattle.std.specs.Prelude.{ℕ, ◌+◌, List}
use Rattle.std.specs.Int.{w32, cast_signed}
use Rattle.exif_base.specs.Bytes.{Reading, number_at}
use Rattle.exif_text.specs.declared.rational.Rational.{Rational}
use Rattle.exif_text.specs.declared.rational.SRational.{SRational}

-- two numbers of 32 bits
abbrev pub rational_at : Reading → List ℕ → ℕ → Rational
rational_at number bytes offset = record {
  num = number_at number 4 bytes offset;
  denom = number_at number 4 bytes (offset + 4);
}

-- the signed fraction at an offset
abbrev pub srational_at : Reading → List ℕ → ℕ → SRational
srational_at number bytes offset = record {
  num = cast_signed w32 (number_at number 4 bytes offset);
  denom = cast_signed w32 (number_at number 4 bytes (offset + 4));
}
