-- Numbers in big-endian order (IIM, section 1.5: the most significant octet is first).
use Rattle.std.specs.Prelude.{ℕ, ◌+◌, ◌*◌, List, fold}

-- the number that bytes are
abbrev pub big_endian : List ℕ → ℕ
big_endian bytes = fold (λ number byte. number * 256 + byte) 0 bytes
