use Rattle.std.proofs.Common.{◌≡◌, [], drop}
use Rattle.exif_assign.specs.Texts.{items_behind}
use Rattle.exif_assign.proofs.spelled.items_in.Given as goal

-- the bytes that are left make the same items
abbrev pub invariant-loop-byte : goal.invariant-loop-byte
invariant-loop-byte g l =
    items_behind g.T.Spelled.spelled (drop l.byte-index l.text) l.items.items l.word.items
    ≡ items_behind g.T.Spelled.spelled l.text [] []
