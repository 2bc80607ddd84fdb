use Rattle.std.proofs.Common.{ap, ◌∙◌}
use Rattle.exif_formats.specs.Formats.{format_in}
use Rattle.exif_formats.proofs.Begins.{front_taken}
use Rattle.exif_formats.proofs.format.format_of_file.Goals as goal

pub returns : goal.returns
returns c = c.format_of.ensures ∙ ap format_in (front_taken c.args.file.now c.min.result c.min.ensures)
