use Rattle.std.proofs.Common.{[]}
use Rattle.exif_parts.specs.Webp.{filtered}
use Rattle.exif_parts.proofs.WebpSteps.{Runs}
use Rattle.exif_parts.proofs.webp.filtered.Given as goal

-- what is left becomes what all becomes
abbrev pub invariant-loop-left : goal.invariant-loop-left
invariant-loop-left l =
    Runs l.remove l.put (filtered l.space l.remove l.put l.space l.body []) l.left l.rest l.chunks.items

abbrev pub decreases-loop-left : goal.decreases-loop-left
decreases-loop-left l = l.left
