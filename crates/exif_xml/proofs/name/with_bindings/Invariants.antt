use Rattle.std.proofs.Common.{◌≡◌, drop}
use Rattle.exif_xml.specs.Names.{with_bindings}
use Rattle.exif_xml.proofs.name.with_bindings.Given as goal

abbrev pub invariant-loop-i : goal.invariant-loop-i
invariant-loop-i l = with_bindings l.document l.fn.bindings.items l.attributes ≡ with_bindings l.document l.all.items (drop l.i l.attributes)
