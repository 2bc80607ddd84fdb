-- The unsigned whole numbers of a value.
use Rattle.std.specs.Prelude.{ℕ, List, Option}
use Rattle.exif_text.specs.Unsigned as plain
use Rattle.exif_types.specs.PlainValues.{plain_of}
use Rattle.exif_types.specs.declared.value.Value.{Value}

-- the numbers of a value of unsigned whole numbers, which no other value has
abbrev pub numbers_of : Value → Option (List ℕ)
numbers_of value = plain.numbers_of (plain_of value)

-- the number at an index, if there is one
abbrev pub number_in : Value → ℕ → Option ℕ
number_in value index = plain.number_at (plain_of value) index
