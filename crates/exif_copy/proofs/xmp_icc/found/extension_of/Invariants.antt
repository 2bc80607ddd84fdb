use Rattle.std.proofs.Common.{◌≡◌, [], drop}
use Rattle.exif_copy.specs.Packets.{extension_of}
use Rattle.exif_copy.proofs.xmp_icc.found.extension_of.Given as goal

-- the parts that are left add to what is there what all of them add to nothing
abbrev pub invariant-loop-part : goal.invariant-loop-part
invariant-loop-part l =
    extension_of (drop l.part-index l.parts) l.file l.made.items ≡ extension_of l.parts l.fn.file []
