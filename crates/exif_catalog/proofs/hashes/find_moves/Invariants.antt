use Rattle.std.proofs.Common.{◌≡◌, take}
use Rattle.std.specs.Prelude.{map}
use Rattle.exif_catalog.specs.Moves.{moved_paths, paths_of}
use Rattle.exif_catalog.proofs.hashes.find_moves.Given as goal

-- the moves so far
abbrev pub invariant-loop-moved : goal.invariant-loop-moved
invariant-loop-moved l = map moved_paths l.moves.items ≡ map paths_of (take l.moved-index l.moved-items)
