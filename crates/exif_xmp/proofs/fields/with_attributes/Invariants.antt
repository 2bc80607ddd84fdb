use Rattle.std.proofs.Common.{◌≡◌, drop}
use Rattle.exif_xmp.specs.Fields.{with_attributes}
use Rattle.exif_xmp.specs.States.{state_view}
use Rattle.exif_xmp.proofs.fields.with_attributes.Given as goal

abbrev pub invariant-loop-i : goal.invariant-loop-i
invariant-loop-i l = with_attributes l.packet (state_view l.fn.state) l.attributes ≡ with_attributes l.packet (state_view l.all) (drop l.i l.attributes)
