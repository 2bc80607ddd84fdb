-- What a value holds, without references (TIFF 6.0, section 2, "Types").
use Rattle.std.specs.Prelude.{ℕ, List, [], ◌∷◌, ℤ, Option, Some, None}
use Rattle.exif_text.specs.declared.rational.Rational.{Rational}
use Rattle.exif_text.specs.declared.rational.SRational.{SRational}
use Rattle.exif_text.specs.declared.contents.Contents.{Contents}
use Rattle.exif_text.specs.declared.contents.Contents.TheVariants as C

-- the contents of a value: its kind and its list
pub data Plain : Type 0 where
  Bytes : List ℕ → Plain
  Texts : List (List ℕ) → Plain
  Shorts : List ℕ → Plain
  Longs : List ℕ → Plain
  Rationals : List Rational → Plain
  SignedBytes : List ℤ → Plain
  Undefined : List ℕ → Plain
  SignedShorts : List ℤ → Plain
  SignedLongs : List ℤ → Plain
  SignedRationals : List SRational → Plain
  Floats : List ℕ → Plain
  Doubles : List ℕ → Plain
  Unknown : ℕ → ℕ → ℕ → Plain

-- borrowed contents without their references
abbrev pub contents_view : Contents → Plain
contents_view (C.Byte xs) = Bytes xs.now
contents_view (C.Ascii xs) = Texts xs.now
contents_view (C.Text x) = Texts (x.now ∷ [])
contents_view (C.Short xs) = Shorts xs.now
contents_view (C.Long xs) = Longs xs.now
contents_view (C.Rational xs) = Rationals xs.now
contents_view (C.SByte xs) = SignedBytes xs.now
contents_view (C.Undefined xs) = Undefined xs.now
contents_view (C.SShort xs) = SignedShorts xs.now
contents_view (C.SLong xs) = SignedLongs xs.now
contents_view (C.SRational xs) = SignedRationals xs.now
contents_view (C.Float xs) = Floats xs.now
contents_view (C.Double xs) = Doubles xs.now
contents_view (C.Unknown kind count offset) = Unknown kind count offset

-- the first of the texts
abbrev pub first_text : Plain → Option (List ℕ)
first_text (Texts (text ∷ texts)) = Some text
first_text v = None

-- the only byte of a text
abbrev pub letter_in : Option (List ℕ) → Option ℕ
letter_in (Some (letter ∷ [])) = Some letter
letter_in text = None

-- the first of bytes of any meaning
abbrev pub undefined_byte : Plain → Option ℕ
undefined_byte (Undefined (byte ∷ bytes)) = Some byte
undefined_byte v = None
