use Rattle.std.proofs.Common.{◌≡◌, take}
use Rattle.std.specs.String.{string_bytes}
use Rattle.exif_gathering.specs.Rows.{hex_text}
use Rattle.exif_gathering.proofs.rows.hex_of.Given as goal

-- the digits of the bytes so far
abbrev pub invariant-loop-byte : goal.invariant-loop-byte
invariant-loop-byte l = string_bytes l.text ≡ hex_text (take l.byte-index l.bytes)
