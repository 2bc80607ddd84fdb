-- The index of frames of a JPEG XL file (ISO/IEC 18181-2, the box `jxli`).
use Rattle.std.specs.Prelude.{ℕ, suc, ◌+◌, ◌*◌, ◌%◌, List, [], ◌∷◌, length, drop, slice_index, nat_lt, nat_le, Bool, false, ◌&&◌, ◌==◌, Option, Some, None, if◌then◌else◌}

-- how many bytes at the front say that a number goes on behind them: each has seven bits of it, the
-- lowest first (ISO/IEC 18181-1, "Varint")
abbrev pub more_len : List ℕ → ℕ
more_len [] = 0
more_len (byte ∷ bytes) = if nat_lt byte 128 then 0 else suc (more_len bytes)

-- seven bits of a number
abbrev pub bits_at : List ℕ → ℕ → ℕ
bits_at bytes n = slice_index bytes n % 128

-- a number behind whose first byte so many others come, of which none are added from the fourth on
abbrev pub number_of : List ℕ → ℕ → ℕ
number_of bytes more =
    bits_at bytes 0 + (if nat_le 1 more then 128 * bits_at bytes 1 else 0)
    + (if nat_le 2 more then 16384 * bits_at bytes 2 else 0)
    + (if nat_le 3 more then 2097152 * bits_at bytes 3 else 0)

-- how many numbers bytes are, behind so many and within one that has so many bytes yet; a number has
-- at most nine bytes, which are 63 bits
abbrev pub numbers : ℕ → ℕ → List ℕ → Option ℕ
numbers begun count [] = if begun == 0 then Some count else None
numbers begun count (byte ∷ bytes) =
    if nat_lt byte 128 then numbers 0 (count + 1) bytes else
    if nat_lt begun 8 then numbers (begun + 1) count bytes else None

-- whether there are so many numbers
abbrev pub has_numbers : ℕ → Option ℕ → Bool
has_numbers wanted (Some count) = count == wanted
has_numbers wanted None = false

-- an index: how many frames it has, as a number whose first byte is followed by so many others; the
-- units of time, of four bytes each; and three numbers for each frame. One of 2^28 frames and more,
-- which would have 768 MB, has no length that fits.
abbrev pub index_fits_by : ℕ → List ℕ → Bool
index_fits_by more content =
    nat_lt more 4 && nat_le (more + 9) (length content)
    && has_numbers (3 * number_of content more) (numbers 0 0 (drop (more + 9) content))

abbrev pub index_fits : List ℕ → Bool
index_fits content = index_fits_by (more_len content) content
