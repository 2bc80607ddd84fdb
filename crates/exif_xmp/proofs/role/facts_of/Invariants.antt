use Rattle.std.proofs.Common.{◌≡◌, drop}
use Rattle.exif_xmp.specs.Roles.{facts_from, no_facts}
use Rattle.exif_xmp.proofs.role.facts_of.Given as goal

abbrev pub invariant-loop-i : goal.invariant-loop-i
invariant-loop-i l = facts_from l.packet l.bindings no_facts l.attributes ≡ facts_from l.packet l.bindings l.facts (drop l.i l.attributes)
