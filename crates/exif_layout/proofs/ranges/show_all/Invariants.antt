use Rattle.std.proofs.Common.{All, take}
use Rattle.exif_layout.proofs.ranges.show_all.Given as goal

abbrev pub invariant-loop-item : goal.invariant-loop-item
invariant-loop-item g l = All g.T.Ranged.fits (take l.item-index l.items)
