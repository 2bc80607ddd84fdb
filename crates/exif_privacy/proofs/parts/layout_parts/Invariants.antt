use Rattle.std.proofs.Common.{◌≡◌, map, take}
use Rattle.exif_privacy.specs.Files.{heif_part}
use Rattle.exif_privacy.proofs.parts.layout_parts.Given as goal

-- the parts so far
abbrev pub invariant-loop-span : goal.invariant-loop-span
invariant-loop-span l =
    l.parts.items ≡ map (heif_part l.file l.layout.judged) (take l.span-index l.layout.spans.items)
