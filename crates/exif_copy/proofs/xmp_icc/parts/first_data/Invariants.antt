use Rattle.std.proofs.Common.{◌≡◌, drop}
use Rattle.exif_copy.specs.Parts.{first_data}
use Rattle.exif_copy.proofs.xmp_icc.parts.first_data.Given as goal

-- no part that was passed holds such a block
abbrev pub invariant-loop-part : goal.invariant-loop-part
invariant-loop-part l =
    first_data l.block (drop l.part-index l.parts) l.file ≡ first_data l.block l.fn.parts l.fn.file
