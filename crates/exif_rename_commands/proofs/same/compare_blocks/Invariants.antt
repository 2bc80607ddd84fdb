use Rattle.std.proofs.Common.{◌≡◌, length}
use Rattle.exif_rename_commands.specs.Same.{IsSameQuestion}
use Rattle.exif_rename_commands.proofs.same.compare_blocks.Given as goal

-- the question is that of what is left
abbrev pub invariant-loop : goal.invariant-loop
invariant-loop g l = length l.fn.left ≡ length l.fn.right
    → IsSameQuestion (g.A.Source.left l.fn.a) (g.B.Source.left l.fn.b) (g.A.Source.left l.a) (g.B.Source.left l.b)
