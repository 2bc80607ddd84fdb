use Rattle.std.proofs.Common.{◌≡◌, take}
use Rattle.std.specs.String.{string_bytes}
use Rattle.exif_catalog_file.specs.Text.{latin1}
use Rattle.exif_catalog_file.proofs.text.latin1_of.Given as goal

-- the characters so far
abbrev pub invariant-loop-byte : goal.invariant-loop-byte
invariant-loop-byte l = string_bytes l.text ≡ latin1 (take l.byte-index l.bytes)
