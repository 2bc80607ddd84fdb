use Rattle.exif_check.specs.Json.{part_json}
use Rattle.exif_json.proofs.Prints.{HasListed}
use Rattle.exif_check.proofs.object.write_parts.Given as goal

-- the parts so far
abbrev pub invariant-loop-checked : goal.invariant-loop-checked
invariant-loop-checked l =
    HasListed part_json l.parts l.checked-index l.initial.printer.out l.printer.out
