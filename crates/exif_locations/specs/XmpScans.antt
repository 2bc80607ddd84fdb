-- How far a run of bytes goes.
use Rattle.std.specs.Prelude.{ℕ, suc, ◌==◌, ◌&&◌, ◌||◌, nat_le, Bool, if◌then◌else◌, List, [], ◌∷◌, Option, Some, None}
use Rattle.std.specs.Option.{option_map}

-- white space
abbrev pub is_space : ℕ → Bool
is_space b = (b == 32) || (b == 9) || (b == 10) || (b == 13)

-- a byte of a name: letters, digits, `:`, `_`, `-`, `.`, and any of a character beyond ASCII
abbrev pub is_name_byte : ℕ → Bool
is_name_byte b =
    (nat_le 97 b && nat_le b 122) || (nat_le 65 b && nat_le b 90) || (nat_le 48 b && nat_le b 58)
    || (b == 95) || (b == 45) || (b == 46) || nat_le 128 b

-- how many bytes at the front pass a test
abbrev pub run : (ℕ → Bool) → List ℕ → ℕ
run test [] = 0
run test (b ∷ bs) = if test b then suc (run test bs) else 0

-- how many bytes there are up to the first `>` that is behind n bytes c, and it; `seen` of these
-- are before
abbrev pub ended : ℕ → ℕ → ℕ → List ℕ → Option ℕ
ended c n seen [] = None
ended c n seen (b ∷ bs) =
    if (b == 62) && nat_le n seen then Some 1 else
    option_map suc (ended c n (if b == c then suc seen else 0) bs)

-- how many bytes there are up to a quote, and it; `<` is in no value
abbrev pub quoted : ℕ → List ℕ → Option ℕ
quoted q [] = None
quoted q (b ∷ bs) =
    if b == q then Some 1 else (if b == 60 then None else option_map suc (quoted q bs))
