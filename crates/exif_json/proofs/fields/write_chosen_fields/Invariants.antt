use Rattle.exif_json.proofs.Chosen.{HasChosen}
use Rattle.exif_json.proofs.fields.write_chosen_fields.Given as goal

-- the fields so far
abbrev pub invariant-loop-field : goal.invariant-loop-field
invariant-loop-field l =
    HasChosen l.tags l.exif.fields l.field-items l.field-index l.initial.printer.out l.printer.out
