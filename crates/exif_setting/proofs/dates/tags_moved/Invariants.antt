use Rattle.std.proofs.Common.{◌≡◌, drop}
use Rattle.exif_change.specs.Changed.{change_of, whole}
use Rattle.exif_setting.specs.Shifting.{tags_moved}
use Rattle.exif_setting.proofs.dates.tags_moved.Given as goal

-- the tags that are left make the same of the file
abbrev pub invariant-loop-tag : goal.invariant-loop-tag
invariant-loop-tag l =
    tags_moved l.by l.exif.fields (drop l.tag-index l.tags) (change_of l.changed)
    ≡ tags_moved l.by l.exif.fields l.tags (whole l.fn.file.items)
