-- What is noted of a value that is to be written.
use Rattle.std.specs.Prelude.{ℕ, ◌≡◌, ◌≤◌}
use Rattle.exif_types.specs.ValueTypes.{type_number, count_of}
use Rattle.exif_types.specs.declared.value.Value.{Value}

-- the values that notes are taken of
abbrev pub Pushed : Type 0
Pushed = Value

-- a type's number and a count that are a value's; a count is right where 32 bits hold it
pub record IsNoted (value : Value) (type count : ℕ) : Type 0 where
  pub typed : type ≡ type_number value
  pub counted : count_of value ≤ 4294967295 → count ≡ count_of value
