-- Fixed texts of values (TIFF 6.0, section 8; Exif 2.32, sections 4.6.4 to 4.6.6).
use Rattle.std.specs.Prelude.{ℕ, ◌==◌, List, ◌++◌, codes, Option, Some, None}
use Rattle.std.specs.List.{find}
use Rattle.std.specs.Option.{option_map, option_and_then}
use Rattle.exif_table.specs.declared.fixed.Choice.{Choice}
use Rattle.exif_table.specs.declared.fixed.Choice.TheVariants.{FirstNumber, UndefinedByte, Letter}
use Rattle.exif_table.specs.Fixed as F
use Rattle.exif_text.specs.Contents.{Plain, first_text, letter_in, undefined_byte}
use Rattle.exif_text.specs.Plain.{plain_text}
use Rattle.exif_text.specs.Unsigned.{number_at}

-- what of a value chooses its text
abbrev pub chosen_by : Choice → Plain → Option ℕ
chosen_by FirstNumber v = number_at v 0
chosen_by UndefinedByte v = undefined_byte v
chosen_by Letter v = letter_in (first_text v)

-- the text of a number or letter
abbrev pub text_for : F.Texts → ℕ → Option (List ℕ)
text_for texts key = option_map (λ p. p.1) (find (λ p. p.0 == key) texts.texts)

-- `[reserved NAME VALUE]`
abbrev pub reserved : List ℕ → Plain → List ℕ
reserved name v = codes "[reserved " ++ (name ++ (codes " " ++ (plain_text v ++ codes "]")))

-- the text, or that the value is reserved
abbrev pub text_or_reserved : List ℕ → Plain → Option (List ℕ) → List ℕ
text_or_reserved name v None = reserved name v
text_or_reserved name v (Some text) = text

-- the text that a value chooses, or that it is reserved
abbrev pub fixed_text : F.Texts → Plain → List ℕ
fixed_text texts v =
    text_or_reserved texts.name v (option_and_then (text_for texts) (chosen_by texts.chosen_by v))
