use Rattle.std.proofs.Common.{◌≡◌, drop}
use Rattle.exif_rename.specs.Patterns.{parts_in}
use Rattle.exif_rename.proofs.Parsed.{with_parts}
use Rattle.exif_rename.proofs.pattern.parts_in.Given as goal

abbrev pub invariant-loop-at : goal.invariant-loop-at
invariant-loop-at l =
    parts_in 0 0 l.all ≡ with_parts l.parts.items (parts_in l.taken l.at (drop l.at l.all))
