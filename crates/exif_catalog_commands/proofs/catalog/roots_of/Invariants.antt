use Rattle.std.proofs.Common.{◌≡◌, length}
use Rattle.exif_catalog_commands.proofs.catalog.roots_of.Given as goal

-- there is a root for each of the paths so far
abbrev pub invariant-loop-path : goal.invariant-loop-path
invariant-loop-path l = length l.roots.items ≡ l.path-index
