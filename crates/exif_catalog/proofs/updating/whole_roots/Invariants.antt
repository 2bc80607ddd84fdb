use Rattle.std.specs.Prelude.{All, Contains}
use Rattle.exif_catalog.proofs.updating.whole_roots.Given as goal

-- the roots so far
abbrev pub invariant-loop-root : goal.invariant-loop-root
invariant-loop-root g l = All (λ root. Contains l.roots root) l.whole.items
