-- Character sets (IIM 4.2, dataset 1:90, and appendix C; ISO 2022; ISO-IR 196 for UTF-8).
use Rattle.std.specs.Prelude.{ℕ, ◌==◌, ◌&&◌, Bool, if◌then◌else◌, List, [], ◌∷◌}
use Rattle.std.specs.Str.{bytes_eq}
use Rattle.exif_iptc.specs.declared.charset.Charset.{Charset}
use Rattle.exif_iptc.specs.declared.charset.Charset.TheVariants.{Latin1, Utf8, Unknown}
use Rattle.exif_iptc.specs.declared.dataset.Dataset.{Dataset}
use Rattle.exif_iptc.specs.Datasets.{value_bytes}
use Rattle.exif_iptc.specs.Texts.{without_zeros}

-- a dataset is 1:90
abbrev pub names_charset : Dataset → Bool
names_charset d = (d.record_number == 1) && (d.number == 90)

-- the character set of an escape sequence, without zeros at its end: ESC % G is UTF-8
abbrev pub charset_named : List ℕ → Charset
charset_named value =
    if bytes_eq (without_zeros value) (27 ∷ 37 ∷ 71 ∷ []) then Utf8 else Unknown

-- the character set of data with these datasets
abbrev pub charset_of : List ℕ → List Dataset → Charset
charset_of input [] = Latin1
charset_of input (d ∷ ds) =
    if names_charset d then charset_named (value_bytes input d) else charset_of input ds
