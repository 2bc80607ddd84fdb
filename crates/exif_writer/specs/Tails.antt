-- What a count of entries says of them.
use Rattle.std.specs.Prelude.{◌≡◌, ℕ, List}
use Rattle.std.specs.Option.{option_map}
use Rattle.exif_writer.specs.declared.measure.Tail.{Tail}
use Rattle.exif_layout.specs.Slots.{Slot, content_len}
use Rattle.exif_layout.specs.Measuring.{span, last_out}

-- a slot's tag and how many bytes its value takes
abbrev pub measure : Slot → ℕ × ℕ
measure slot = (slot.tag, content_len slot.content)

-- a count holds the bytes of values outside of entries, and the measure of the last in tag order
pub record Tells (tail : Tail) (slots : List Slot) : Type 0 where
  pub bytes : tail.bytes ≡ span slots
  pub last : tail.last ≡ option_map measure (last_out slots)
