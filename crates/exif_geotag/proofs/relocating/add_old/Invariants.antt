use Rattle.std.proofs.Common.{◌≡◌, ◌+◌, length, drop}
use Rattle.exif_geotag.proofs.relocating.add_old.Given as goal

-- one is added for each that is gone
abbrev pub invariant-loop-tag : goal.invariant-loop-tag
invariant-loop-tag l =
    length l.all.items + length (drop l.tag-index l.kept)
    ≡ length l.fn.all.items + length l.kept
