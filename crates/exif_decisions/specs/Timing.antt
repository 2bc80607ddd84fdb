-- When a line of progress is written again.
use Rattle.std.specs.Prelude.{ℕ, nat_le, Bool, true, Option, Some, None}

-- a tenth of a second after it was written last, in milliseconds
abbrev pub is_line_due : Option ℕ → Bool
is_line_due None = true
is_line_due (Some since) = nat_le 100 since
