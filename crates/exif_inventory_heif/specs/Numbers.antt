-- Numbers in bytes.
use Rattle.std.specs.Prelude.{ℕ, List, take, ◌==◌, if◌then◌else◌}
use Rattle.std.specs.Int.{from_be_bytes, w16, w32, w64}

-- the number in the first 2, 4 or 8 bytes, the highest first; in other lengths 0
unfoldable pub number : ℕ → List ℕ → ℕ
number width bytes =
    if width == 2 then from_be_bytes w16 (take 2 bytes) else
    if width == 4 then from_be_bytes w32 (take 4 bytes) else
    if width == 8 then from_be_bytes w64 (take 8 bytes) else 0
