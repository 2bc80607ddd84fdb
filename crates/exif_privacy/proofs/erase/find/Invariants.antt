use Rattle.std.proofs.Common.{◌≡◌, ◌++◌, drop}
use Rattle.std.specs.List.{flat_map}
use Rattle.exif_privacy.specs.Erasing.{all_stay, found}
use Rattle.exif_privacy.specs.Judging.{judged_from, reasons_view}
use Rattle.exif_privacy.proofs.erase.find.Given as goal

-- those found so far, and those of the parts that are left, are all
abbrev pub invariant-loop-index : goal.invariant-loop-index
invariant-loop-index l =
    l.stays.items ++ flat_map all_stay (judged_from l.unread l.file (reasons_view l.reasons) (drop l.index l.parts))
    ≡ found l.unread l.file l.parts
