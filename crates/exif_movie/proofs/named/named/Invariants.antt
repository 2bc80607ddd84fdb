use Rattle.std.proofs.Common.{◌≡◌, ◌++◌, drop, None}
use Rattle.exif_movie.specs.Named.{named}
use Rattle.exif_movie.proofs.named.named.Given as goal

-- the parts so far, with those that are left, are all
abbrev pub invariant-loop-part : goal.invariant-loop-part
invariant-loop-part l =
    l.found.items ++ named l.file l.keys (drop l.part-index l.parts) ≡ named l.file None l.parts
