use Rattle.std.proofs.Common.{◌≡◌, drop}
use Rattle.exif_copy.specs.Profiles.{assembly_view, begun, with_parts}
use Rattle.exif_copy.proofs.xmp_icc.found.assembled.Given as goal

-- the parts that are left go on with what was read
abbrev pub invariant-loop-part : goal.invariant-loop-part
invariant-loop-part l =
    with_parts (assembly_view l.assembly) (drop l.part-index l.parts) l.file
    ≡ with_parts begun l.parts l.fn.file
