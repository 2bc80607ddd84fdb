use Rattle.std.proofs.Common.{◌≡◌, drop, map}
use Rattle.std.specs.Prelude.{string_bytes}
use Rattle.exif_inputs.specs.Dated.{dated_behind, dated_count}
use Rattle.exif_inputs.proofs.dated.dated_count.Given as goal

-- the rest of the files decides
abbrev pub invariant-loop-path : goal.invariant-loop-path
invariant-loop-path l =
    dated_count (map string_bytes l.paths)
    ≡ dated_behind l.count (map string_bytes (drop l.path-index l.paths))
