use Rattle.std.proofs.Common.{◌≡◌, false, take}
use Rattle.std.specs.List.{list_any}
use Rattle.exif_edit.specs.Changing.{covers}
use Rattle.exif_edit.proofs.alone.changes.Given as goal

-- no patch so far has a byte of the stretch
abbrev pub invariant-loop-patch : goal.invariant-loop-patch
invariant-loop-patch l =
    list_any (covers (record { offset = l.offset; len = l.len })) (take l.patch-index l.patches)
    ≡ false
