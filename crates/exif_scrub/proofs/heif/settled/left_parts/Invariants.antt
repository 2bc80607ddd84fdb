use Rattle.std.proofs.Common.{◌≡◌, take}
use Rattle.exif_scrub.specs.HeifScrubbing.{left_parts}
use Rattle.exif_scrub.proofs.heif.settled.left_parts.Given as goal

-- the parts so far
abbrev pub invariant-loop-span : goal.invariant-loop-span
invariant-loop-span l = l.left.items ≡ left_parts l.judged (take l.span-index l.spans)
