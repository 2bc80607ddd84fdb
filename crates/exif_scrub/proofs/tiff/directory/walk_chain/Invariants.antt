use Rattle.std.proofs.Common.{◌≡◌}
use Rattle.exif_scrub.specs.Directories.{chain_walked}
use Rattle.exif_scrub.proofs.tiff.directory.walk_chain.Given as goal

-- what the directories that are left make of the new file is what all make of it
abbrev pub invariant-loop-at : goal.invariant-loop-at
invariant-loop-at l =
    chain_walked l.old.order l.old.bytes.now l.pass l.left l.at l.new
    ≡ chain_walked l.fn.old.order l.fn.old.bytes.now l.fn.pass l.fn.most l.fn.first l.fn.new

abbrev pub decreases-loop-at : goal.decreases-loop-at
decreases-loop-at l = l.left
