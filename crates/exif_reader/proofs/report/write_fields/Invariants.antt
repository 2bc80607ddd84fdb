use Rattle.std.proofs.Common.{take}
use Rattle.std.specs.List.{flat_map}
use Rattle.std.specs.String.{string_bytes}
use Rattle.exif_reader.specs.Lines.{field_line}
use Rattle.exif_reader.proofs.ReportingLines.{IsHeld}
use Rattle.exif_reader.proofs.report.write_fields.Given as goal

-- the lines so far were sent, but for those that are held
abbrev pub invariant-loop-field : goal.invariant-loop-field
invariant-loop-field g l =
    IsHeld g.W.Sink l.initial.out l.out (string_bytes l.lines) (flat_map (field_line l.exif.fields) (take l.field-index l.fields))
