use Rattle.std.proofs.Common.{◌≡◌, drop}
use Rattle.exif_setting.specs.Growing.{longest_after}
use Rattle.exif_setting.proofs.growing.longest_after.Given as goal

-- the fields that are left name the same tag
abbrev pub invariant-loop-field : goal.invariant-loop-field
invariant-loop-field l =
    longest_after (drop l.field-index l.fields) l.found l.most ≡ longest_after l.fields l.fn.tag l.fn.most
