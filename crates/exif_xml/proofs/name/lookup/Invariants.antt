use Rattle.std.proofs.Common.{◌≡◌, drop, None}
use Rattle.exif_xml.specs.Names.{lookup}
use Rattle.exif_xml.proofs.name.lookup.Given as goal

abbrev pub invariant-loop-i : goal.invariant-loop-i
invariant-loop-i l = lookup l.document l.prefix None l.bindings ≡ lookup l.document l.prefix l.found (drop l.i l.bindings)
