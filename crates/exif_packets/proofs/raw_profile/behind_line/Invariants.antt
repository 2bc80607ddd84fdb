use Rattle.std.proofs.Common.{◌≡◌, length}
use Rattle.exif_packets.specs.RawProfiles.{behind_line}
use Rattle.exif_packets.proofs.raw_profile.behind_line.Given as goal

-- no line has ended yet
abbrev pub invariant-loop-first : goal.invariant-loop-first
invariant-loop-first l = behind_line l.rest ≡ behind_line l.text

abbrev pub decreases-loop-first : goal.decreases-loop-first
decreases-loop-first l = length l.rest
