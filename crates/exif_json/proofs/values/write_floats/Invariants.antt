use Rattle.exif_json.proofs.Prints.{HasListed}
use Rattle.exif_json.specs.Values.{bits_json}
use Rattle.exif_json.proofs.values.write_floats.Given as goal

-- the items so far
abbrev pub invariant-loop-item : goal.invariant-loop-item
invariant-loop-item l = HasListed (bits_json 8) l.items l.item-index l.initial.printer.out l.printer.out
