use Rattle.std.proofs.Common.{◌≡◌, ◌-◌}
use Rattle.exif_scrub.specs.Directories.{children_from}
use Rattle.exif_scrub.proofs.tiff.directory.walk_children.Given as goal

-- what the directories that are left make of the new file is what all make of it
abbrev pub invariant-loop-index : goal.invariant-loop-index
invariant-loop-index l =
    children_from l.old.order l.old.bytes.now l.pass l.entry (l.children - l.index) l.index l.new
    ≡ children_from l.fn.old.order l.fn.old.bytes.now l.fn.pass l.entry l.children 0 l.fn.new
