use Rattle.std.proofs.Common.{◌≡◌, drop}
use Rattle.exif_xmp.specs.Paths.{root_from, uri_or}
use Rattle.exif_xmp.proofs.path.root_of.Given as goal

abbrev pub invariant-loop-i : goal.invariant-loop-i
invariant-loop-i l =
    let other = uri_or l.top (uri_or l.last (record { start = 0; end = 0 })) in
    root_from l.frames other ≡ root_from (drop l.i l.frames) other
