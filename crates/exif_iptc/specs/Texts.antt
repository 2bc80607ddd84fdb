-- Texts of values (IIM 4.2, dataset 1:90; ISO 8859-1; Windows code page 1252).
use Rattle.std.specs.Prelude.{ℕ, ◌-◌, nat_lt, nat_le, ◌&&◌, if◌then◌else◌, List, [], ◌∷◌, map, slice_index, encode_utf8_all}
use Rattle.std.specs.Str.Lossy.{utf8_lossy}
use Rattle.exif_iptc.specs.declared.charset.Charset.{Charset}
use Rattle.exif_iptc.specs.declared.charset.Charset.TheVariants.{Latin1, Utf8, Unknown}
use Rattle.exif_iptc.specs.Datasets.{all_zero}

-- the characters of Windows code page 1252 from 80 to 9f; where it has none, that of Latin-1
abbrev pub windows_1252 : List ℕ
windows_1252 =
    0x20ac ∷ 0x81 ∷ 0x201a ∷ 0x192 ∷ 0x201e ∷ 0x2026 ∷ 0x2020 ∷ 0x2021 ∷
    0x2c6 ∷ 0x2030 ∷ 0x160 ∷ 0x2039 ∷ 0x152 ∷ 0x8d ∷ 0x17d ∷ 0x8f ∷
    0x90 ∷ 0x2018 ∷ 0x2019 ∷ 0x201c ∷ 0x201d ∷ 0x2022 ∷ 0x2013 ∷ 0x2014 ∷
    0x2dc ∷ 0x2122 ∷ 0x161 ∷ 0x203a ∷ 0x153 ∷ 0x9d ∷ 0x17e ∷ 0x178 ∷ []

-- the character of a byte: in Latin-1 it has the same number
abbrev pub latin_char : ℕ → ℕ
latin_char b = if nat_le 0x80 b && nat_lt b 0xa0 then slice_index windows_1252 (b - 0x80) else b

-- bytes without the zeros at their end
abbrev pub without_zeros : List ℕ → List ℕ
without_zeros [] = []
without_zeros (b ∷ bs) = if all_zero (b ∷ bs) then [] else b ∷ without_zeros bs

-- the text of bytes in a character set, in UTF-8
abbrev pub decoded : Charset → List ℕ → List ℕ
decoded Utf8 bytes = utf8_lossy bytes
decoded Latin1 bytes = encode_utf8_all (map latin_char bytes)
decoded Unknown bytes = encode_utf8_all (map latin_char bytes)

-- the text of a value
abbrev pub text_of : Charset → List ℕ → List ℕ
text_of charset value = decoded charset (without_zeros value)
