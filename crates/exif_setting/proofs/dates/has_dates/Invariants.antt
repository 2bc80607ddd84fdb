use Rattle.std.proofs.Common.{◌≡◌, drop}
use Rattle.exif_setting.specs.Shifting.{has_dates}
use Rattle.exif_setting.proofs.dates.has_dates.Given as goal

-- none of the dates so far was read
abbrev pub invariant-loop-tag : goal.invariant-loop-tag
invariant-loop-tag l = has_dates l.exif.fields (drop l.tag-index l.tags) ≡ has_dates l.exif.fields l.tags
