use Rattle.std.proofs.Common.{◌≡◌, ◌++◌, drop, map}
use Rattle.exif_check.specs.Checking.{part_checked, parts_checked}
use Rattle.exif_privacy.specs.Judging.{judged_from, reasons_view}
use Rattle.exif_locations.specs.declared.unread.Unread.TheVariants.{Keep}
use Rattle.exif_check.proofs.checked.check_parts.Given as goal

-- those that were judged, and those that are left, are all
abbrev pub invariant-loop-index : goal.invariant-loop-index
invariant-loop-index l =
    l.all.items ++ map part_checked (judged_from Keep l.file (reasons_view l.reasons) (drop l.index l.parts))
    ≡ parts_checked l.file l.parts
