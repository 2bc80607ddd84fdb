use Rattle.std.proofs.Common.{◌≡◌, take}
use Rattle.exif_movie.specs.Walks.{opened}
use Rattle.exif_movie.proofs.open.opened.Given as goal

-- those so far are opened
abbrev pub invariant-loop-part : goal.invariant-loop-part
invariant-loop-part l = l.found.items ≡ opened l.file l.level (take l.part-index l.parts)
