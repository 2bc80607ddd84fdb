use Rattle.std.proofs.Common.{◌≡◌, ◌++◌, drop}
use Rattle.exif_edit_base.specs.Locations.{gps_of}
use Rattle.exif_edit_base.proofs.walk.gps_of.Given as goal

-- what is left of the directories adds what all of them do
abbrev pub invariant-loop-directory : goal.invariant-loop-directory
invariant-loop-directory l =
    l.offsets.items ++ gps_of (drop l.directory-index l.directories) ≡ gps_of l.directories
