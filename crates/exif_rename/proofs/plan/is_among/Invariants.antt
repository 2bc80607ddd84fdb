use Rattle.std.proofs.Common.{◌≡◌, drop, map}
use Rattle.std.specs.String.{string_bytes}
use Rattle.exif_files.specs.Each.{is_among}
use Rattle.exif_rename.proofs.plan.is_among.Given as goal

abbrev pub invariant-loop-other : goal.invariant-loop-other
invariant-loop-other l =
    is_among l.path (map string_bytes l.paths) ≡ is_among l.path (map string_bytes (drop l.other-index l.paths))
