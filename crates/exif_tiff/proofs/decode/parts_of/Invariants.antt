use Rattle.std.proofs.Common.{◌≡◌, map}
use Rattle.exif_tiff.proofs.decode.parts_of.Given as goal

-- the parts so far are those that the split gave
abbrev pub invariant-loop-part : goal.invariant-loop-part
invariant-loop-part l = l.parts.items ≡ map (λ x. x.now) l.yielded
