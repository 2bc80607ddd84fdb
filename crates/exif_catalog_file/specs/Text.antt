-- Bytes as texts.
use Rattle.std.specs.Prelude.{ℕ, List, if◌then◌else◌}
use Rattle.std.specs.Char.{encode_utf8}
use Rattle.std.specs.List.{flat_map}
use Rattle.std.specs.Str.{is_utf8}

-- each byte is the character of its number
abbrev pub latin1 : List ℕ → List ℕ
latin1 bytes = flat_map encode_utf8 bytes

-- bytes as a text: as they are where they are UTF-8, else by Latin-1
abbrev pub text_of : List ℕ → List ℕ
text_of bytes = if is_utf8 bytes then bytes else latin1 bytes
