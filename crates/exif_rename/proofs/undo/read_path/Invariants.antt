use Rattle.std.proofs.Common.{◌≡◌, drop}
use Rattle.std.specs.String.{string_bytes}
use Rattle.exif_rename.specs.Undo.{read, with_text}
use Rattle.exif_rename.proofs.undo.read_path.Given as goal

abbrev pub invariant-loop-at : goal.invariant-loop-at
invariant-loop-at l =
    read 0 l.all ≡ with_text (string_bytes l.path) (read l.taken (drop l.at l.all))
