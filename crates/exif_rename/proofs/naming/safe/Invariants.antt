use Rattle.std.proofs.Common.{◌≡◌, ◌++◌, drop, map}
use Rattle.std.specs.Str.{chars, encode_utf8_all, trim}
use Rattle.std.specs.String.{string_bytes}
use Rattle.exif_rename.specs.Naming.{safe_char}
use Rattle.exif_rename.proofs.naming.safe.Given as goal

abbrev pub invariant-loop-c : goal.invariant-loop-c
invariant-loop-c l = record {
  all : l.c-items ≡ chars (trim l.text);
  so_far : encode_utf8_all (map safe_char l.c-items)
      ≡ string_bytes l.name ++ encode_utf8_all (map safe_char (drop l.c-index l.c-items));
}
