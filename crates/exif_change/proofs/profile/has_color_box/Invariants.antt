use Rattle.std.proofs.Common.{◌≡◌, drop}
use Rattle.exif_change.specs.Profiles.{has_color_box}
use Rattle.exif_change.proofs.profile.has_color_box.Given as goal

abbrev pub invariant-loop-at : goal.invariant-loop-at
invariant-loop-at l = has_color_box l.file ≡ has_color_box (drop l.at l.file)
