use Rattle.std.proofs.Common.{◌≡◌, ◌++◌, drop, length, string_bytes, take}
use Rattle.std.specs.Char.{encode_utf8}
use Rattle.std.specs.List.{flat_map}
use Rattle.std.specs.Str.{chars}
use Rattle.exif_inputs.specs.Lines.{front_of}
use Rattle.exif_inputs.proofs.lines.front_of.Given as goal

-- what was taken, and what is taken yet of the characters that are left
abbrev pub invariant-loop-c : goal.invariant-loop-c
invariant-loop-c l =
    string_bytes l.front ++ flat_map encode_utf8 (take l.left (drop (length l.yielded) (chars l.value))) ≡ front_of l.value
