-- Texts of a file: UTF-8 where they are, else Latin-1 (ISO 8859-1) with a mark.
use Rattle.std.specs.Prelude.{ℕ, List, [], ◌∷◌, codes, if◌then◌else◌}
use Rattle.std.specs.List.{flat_map}
use Rattle.std.specs.Str.{is_utf8}
use Rattle.std.specs.Char.{encode_utf8}
use Rattle.json.specs.Json as J
use Rattle.json.specs.Json.{Json}
use Rattle.exif_json.specs.Trees.{object}

-- each byte is the character of its number
abbrev pub latin1 : List ℕ → List ℕ
latin1 bytes = flat_map encode_utf8 bytes

-- an object whose one member names the encoding
abbrev pub latin1_json : List ℕ → Json
latin1_json bytes = object ((codes "latin1", J.string (latin1 bytes)) ∷ [])

-- a string where it is UTF-8
abbrev pub text_json : List ℕ → Json
text_json bytes = if is_utf8 bytes then J.string bytes else latin1_json bytes
