use Rattle.std.proofs.Common.{◌≡◌, None, drop}
use Rattle.exif_xmp_set.specs.Added.{rdf_end}
use Rattle.exif_xmp_set.proofs.adding.rdf_end.Given as goal

-- the last one of the bytes that remain, or else the one so far, is that of all
abbrev pub invariant-loop-i : goal.invariant-loop-i
invariant-loop-i l = rdf_end None 0 l.packet ≡ rdf_end l.found l.i (drop l.i l.packet)
