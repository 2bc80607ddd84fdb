use Rattle.std.proofs.Common.{◌≡◌, ◌++◌, take}
use Rattle.std.specs.String.{string_bytes}
use Rattle.exif_columns.specs.Texts.{latin1}
use Rattle.exif_columns.proofs.texts.push_latin1.Given as goal

-- the characters so far
abbrev pub invariant-loop-byte : goal.invariant-loop-byte
invariant-loop-byte l = string_bytes l.text ≡ string_bytes l.initial.text ++ latin1 (take l.byte-index l.bytes)
