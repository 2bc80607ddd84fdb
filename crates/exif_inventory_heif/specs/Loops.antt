-- Steps one after the other, any of which may fail.
use Rattle.std.specs.Prelude.{ℕ, zero, suc, Option, Some, None}

-- what follows, if there is something
abbrev pub and_then : {S T : Type 0} → Option S → (S → Option T) → Option T
and_then None next = None
and_then (Some s) next = next s

-- n steps
unfoldable pub repeated : {S : Type 0} → (S → Option S) → ℕ → S → Option S
repeated step zero s = Some s
repeated step (suc n) s = and_then (step s) (repeated step n)
