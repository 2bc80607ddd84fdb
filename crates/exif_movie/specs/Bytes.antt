-- Bytes compared.
use Rattle.std.specs.Prelude.{ℕ, List, [], ◌∷◌, length, take, nat_le, Bool, true, ◌&&◌, ◌==◌}
use Rattle.std.specs.Int.{from_be_bytes, w32}
use Rattle.std.specs.Str.{bytes_eq}

-- the big-endian number in the first four bytes
unfoldable pub number : List ℕ → ℕ
number bytes = from_be_bytes w32 (take 4 bytes)

-- whether all bytes are zero
abbrev pub is_zeros : List ℕ → Bool
is_zeros [] = true
is_zeros (b ∷ bytes) = (b == 0) && is_zeros bytes

-- whether bytes begin with a prefix
abbrev pub begins : List ℕ → List ℕ → Bool
begins prefix bytes =
    nat_le (length prefix) (length bytes) && bytes_eq (take (length prefix) bytes) prefix
