use Rattle.std.proofs.Common.{◌≡◌, [], drop}
use Rattle.exif_geotag.specs.Erasing.{all_erased}
use Rattle.exif_geotag.proofs.erasing.erase_all.Given as goal

-- the tags that are left make the same of the file
abbrev pub invariant-loop-tag : goal.invariant-loop-tag
invariant-loop-tag l =
    all_erased (drop l.tag-index l.tags) (l.file, l.kept.items)
    ≡ all_erased l.tags (l.fn.file, [])
