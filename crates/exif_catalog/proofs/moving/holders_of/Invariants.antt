use Rattle.std.proofs.Common.{◌≡◌, ℕ, List, take}
use Rattle.std.specs.BTreeMap.{get_by_text}
use Rattle.exif_catalog.specs.Moves.{held, held_by, with_hash}
use Rattle.exif_catalog.proofs.moving.holders_of.Given as goal

-- the pictures so far
abbrev pub invariant-loop-picture : goal.invariant-loop-picture
invariant-loop-picture l = (q : List ℕ)
    → held (get_by_text l.holders q) ≡ held_by (with_hash q (take l.picture-index l.pictures))
