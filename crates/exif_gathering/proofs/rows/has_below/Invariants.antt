use Rattle.std.proofs.Common.{◌≡◌, drop, map}
use Rattle.std.specs.String.{string_bytes}
use Rattle.exif_gathering.specs.Rows.{any_below}
use Rattle.exif_gathering.proofs.rows.has_below.Given as goal

-- none of the paths so far is one
abbrev pub invariant-loop-path : goal.invariant-loop-path
invariant-loop-path l =
    any_below (map string_bytes l.paths) l.root ≡ any_below (map string_bytes (drop l.path-index l.paths)) l.root
