use Rattle.std.proofs.Common.{◌≡◌, ◌++◌}
use Rattle.std.specs.List.{flat_map}
use Rattle.std.specs.String.{string_bytes}
use Rattle.exif_reader.specs.Lines.{field_line}
use Rattle.exif_tests.proofs.examples.reading.field_lines.Given as goal

-- the lines so far, and those of the fields that are left, are the lines of all
abbrev pub invariant-loop-field : goal.invariant-loop-field
invariant-loop-field l =
    string_bytes l.lines ++ flat_map (field_line l.exif.fields) l.field-iterator
    ≡ flat_map (field_line l.exif.fields) l.exif.fields
