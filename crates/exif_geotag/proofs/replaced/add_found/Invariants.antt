use Rattle.std.proofs.Common.{◌≡◌, drop}
use Rattle.exif_geotag.specs.Replaced.{found_in}
use Rattle.exif_geotag.proofs.replaced.add_found.Given as goal

-- the tags that are left make the same of those that were found
abbrev pub invariant-loop-tag : goal.invariant-loop-tag
invariant-loop-tag l =
    found_in l.exif.fields (drop l.tag-index l.tags) l.found.items
    ≡ found_in l.fn.exif.fields l.tags l.fn.found.items
