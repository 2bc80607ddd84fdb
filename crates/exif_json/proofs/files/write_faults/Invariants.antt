use Rattle.exif_json.specs.Files.{fault_json}
use Rattle.exif_json.proofs.Prints.{HasListed}
use Rattle.exif_json.proofs.files.write_faults.Given as goal

-- the faults so far
abbrev pub invariant-loop-fault : goal.invariant-loop-fault
invariant-loop-fault l = HasListed fault_json l.faults l.fault-index l.initial.printer.out l.printer.out
