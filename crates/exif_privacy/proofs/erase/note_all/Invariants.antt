use Rattle.std.proofs.Common.{◌≡◌, ◌++◌, map, take}
use Rattle.exif_privacy.specs.Erasing.{stays_for}
use Rattle.exif_privacy.proofs.erase.note_all.Given as goal

-- the reasons so far are noted
abbrev pub invariant-loop-why : goal.invariant-loop-why
invariant-loop-why l =
    l.stays.items ≡ l.fn.stays.items ++ map (stays_for l.part) (take l.why-index l.whys)
