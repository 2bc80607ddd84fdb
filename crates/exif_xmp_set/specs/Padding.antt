-- The padding of a packet (XMP Specification, Part 1, 7.3.2 and 7.3.3).
use Rattle.std.specs.Prelude.{ℕ, ◌+◌, ◌-◌, ◌==◌, nat_le, if◌then◌else◌, List, [], ◌∷◌, ◌++◌, drop, take, codes, replicate, Option, Some, None}
use Rattle.exif_xml.specs.declared.span.Span.{Span}
use Rattle.exif_xml.specs.Scans.{begins, is_space}

-- the white space just before the last `<`, or else `gap`; white space that goes on at an offset
-- begins at `start`
abbrev pub last_gap : Span → ℕ → ℕ → List ℕ → Span
last_gap gap start offset [] = gap
last_gap gap start offset (b ∷ bs) =
    last_gap (if b == 60 then record { start = start; end = offset } else gap)
    (if is_space b then start else offset + 1) (offset + 1) bs

abbrev pub trailing_gap : List ℕ → Span
trailing_gap tail = last_gap (record { start = 0; end = 0 }) 0 0 tail

-- the padding is the white space before the trailer, which has the last `<` of a packet
abbrev pub padding_of : List ℕ → Option Span
padding_of tail =
    if begins (drop (trailing_gap tail).end tail) (codes "<?xpacket end=")
    then Some (trailing_gap tail)
    else None

-- the padding, if it has room for a value that grows from `old` bytes to `new`
abbrev pub room_in : Option Span → ℕ → ℕ → Option Span
room_in None old new = None
room_in (Some p) old new = if nat_le (new - old) (p.end - p.start) then Some p else None

abbrev pub room_of : ℕ → ℕ → List ℕ → Option Span
room_of old new tail = room_in (padding_of tail) old new

-- a value that grows takes the first bytes of the padding, and one that shrinks adds spaces to it
abbrev pub fitted_by : Option Span → ℕ → ℕ → List ℕ → List ℕ
fitted_by None old new tail = tail
fitted_by (Some p) old new tail =
    take p.start tail ++ (replicate (old - new) 32 ++ drop (p.start + (new - old)) tail)

-- the end of a packet, behind a value that has `new` bytes where it had `old`
abbrev pub fitted : ℕ → ℕ → List ℕ → List ℕ
fitted old new tail = fitted_by (room_of old new tail) old new tail
