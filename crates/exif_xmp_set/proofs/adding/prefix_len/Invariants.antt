use Rattle.std.proofs.Common.{◌≡◌, ◌+◌, drop}
use Rattle.exif_xml.specs.Scans.{run}
use Rattle.exif_xmp_set.specs.Added.{is_no_colon}
use Rattle.exif_xmp_set.proofs.adding.prefix_len.Given as goal

-- the bytes so far are no colons
abbrev pub invariant-loop-i : goal.invariant-loop-i
invariant-loop-i l = run is_no_colon l.path ≡ l.i + run is_no_colon (drop l.i l.path)
