use Rattle.std.proofs.Common.{◌≡◌, map, take}
use Rattle.std.specs.Prelude.{encode_utf8_all, string_bytes}
use Rattle.exif_iptc.specs.Texts.{latin_char}
use Rattle.exif_iptc.proofs.text.latin_text.Given as goal

abbrev pub invariant-loop-i : goal.invariant-loop-i
invariant-loop-i l = string_bytes l.text ≡ encode_utf8_all (map latin_char (take l.i l.bytes))
