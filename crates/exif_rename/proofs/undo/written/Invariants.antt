use Rattle.std.proofs.Common.{◌≡◌, ◌++◌, drop}
use Rattle.std.specs.List.{flat_map}
use Rattle.std.specs.Str.{chars}
use Rattle.std.specs.String.{string_bytes}
use Rattle.exif_rename.specs.Undo.{coded}
use Rattle.exif_rename.proofs.undo.written.Given as goal

abbrev pub invariant-loop-c : goal.invariant-loop-c
invariant-loop-c l = record {
  all : l.c-items ≡ chars l.path;
  so_far : flat_map coded l.c-items ≡ string_bytes l.text ++ flat_map coded (drop l.c-index l.c-items);
}
