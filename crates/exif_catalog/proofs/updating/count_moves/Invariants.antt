use Rattle.std.proofs.Common.{◌≡◌, drop}
use Rattle.exif_catalog.specs.Runs.{moved_times}
use Rattle.exif_catalog.proofs.updating.count_moves.Given as goal

-- what is counted so far, and of the moves that are left, is what is counted of all
abbrev pub invariant-loop-moved : goal.invariant-loop-moved
invariant-loop-moved l =
    moved_times l.totals (drop l._moved-index l.moves) ≡ moved_times l.initial.totals l.moves
