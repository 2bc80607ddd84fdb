use Rattle.std.proofs.Common.{◌≡◌, ℕ, List, drop}
use Rattle.std.specs.BTreeMap.{get_by_text}
use Rattle.exif_catalog.specs.Runs.{forgotten}
use Rattle.exif_catalog.proofs.catalog.forget_moved.Given as goal

-- what the moves that are left leave of what is known so far, is what all leave
abbrev pub invariant-loop-moved : goal.invariant-loop-moved
invariant-loop-moved l = (q : List ℕ)
    → forgotten (drop l.moved-index l.moves) (get_by_text l.rows q) q
    ≡ forgotten l.moves (get_by_text l.initial.rows q) q
