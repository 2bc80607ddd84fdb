-- What every field that was read has.
use Rattle.std.specs.Prelude.{◌≢◌, ◌<◌, All, ⊤}
use Rattle.exif_types.specs.declared.value.Value.{Value}
use Rattle.exif_types.specs.declared.value.Value.TheVariants as value
use Rattle.exif_types.specs.declared.field.Field.{Field}

-- no text of the value holds a zero byte
abbrev pub HasPlainTexts : Value → Type 0
HasPlainTexts (value.Ascii texts) = All (All (λ b. b ≢ 0)) texts
HasPlainTexts _ = ⊤

-- the same in the field, and its directory is one of the first eight
pub record IsRead (field : Field) : Type 0 where
  pub plain : HasPlainTexts field.value
  pub number : field.ifd_num.0 < 8
