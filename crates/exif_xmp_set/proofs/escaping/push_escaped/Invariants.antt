use Rattle.std.proofs.Common.{◌≡◌, ◌++◌, take}
use Rattle.exif_xmp_set.specs.Escaping.{escaped}
use Rattle.exif_xmp_set.proofs.escaping.push_escaped.Given as goal

-- the bytes so far are written
abbrev pub invariant-loop-byte : goal.invariant-loop-byte
invariant-loop-byte l = l.out.items ≡ l.initial.out.items ++ escaped l.context (take l.byte-index l.text)
