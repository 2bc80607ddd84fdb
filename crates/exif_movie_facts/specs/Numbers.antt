-- Numbers in big-endian order (ISO/IEC 14496-12:2015, 4.2: the most significant byte is first).
use Rattle.std.specs.Prelude.{ℕ, List, take}
use Rattle.std.specs.Int.{from_be_bytes, w16, w32, w64}

-- the number in the first two bytes
unfoldable pub u16_of : List ℕ → ℕ
u16_of bytes = from_be_bytes w16 (take 2 bytes)

-- the number in the first four bytes
unfoldable pub u32_of : List ℕ → ℕ
u32_of bytes = from_be_bytes w32 (take 4 bytes)

-- the number in the first eight bytes
unfoldable pub u64_of : List ℕ → ℕ
u64_of bytes = from_be_bytes w64 (take 8 bytes)
