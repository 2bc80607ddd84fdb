-- The length of values, measured over entries in any order of tags.
use Rattle.std.specs.Prelude.{SomeIff, ◌<◌, ◌^◌, ℕ, ◌+◌, ◌-◌, ◌%◌, nat_le, nat_lt, List, [], ◌∷◌, Bool, Option, Some, None, if◌then◌else◌}
use Rattle.exif_layout.specs.Slots.{Slot, content_len}
use Rattle.exif_layout.specs.Offsets.{even}

-- a number is answered where 32 bits hold it
abbrev pub MeasuredAs : Option ℕ → ℕ → Type 0
MeasuredAs answer n = SomeIff answer (n < 2 ^ 32) n

-- the value is in its entry
abbrev pub fits : Slot → Bool
fits slot = nat_le (content_len slot.content) 4

-- how many bytes the values outside of the entries take, each made even
abbrev pub span : List Slot → ℕ
span [] = 0
span (slot ∷ slots) = (if fits slot then 0 else even (content_len slot.content)) + span slots

-- of a slot and the last one in tag order of those behind it, the last in tag order
abbrev pub later : Slot → Option Slot → Option Slot
later slot None = Some slot
later slot (Some last) = if nat_lt last.tag slot.tag then Some slot else Some last

-- of the slots whose values are outside, the last in tag order
abbrev pub last_out : List Slot → Option Slot
last_out [] = None
last_out (slot ∷ slots) = if fits slot then last_out slots else later slot (last_out slots)

-- where values end that begin at an offset and take so many bytes, each made even but for the last
-- one's own length
abbrev pub end_from : ℕ → ℕ → Option Slot → ℕ
end_from offset bytes None = offset
end_from offset bytes (Some last) = even offset + bytes - content_len last.content % 2
