use Rattle.std.proofs.Common.{ap, ◌∙◌}
use Rattle.exif_tiff.specs.Answers.{raw_answer}
use Rattle.exif_formats.specs.Formats.{format_in}
use Rattle.exif_formats.proofs.DataGiven.{picture_stops}
use Rattle.exif_formats.proofs.Begins.{front_taken}
use Rattle.exif_formats.proofs.picture.read_bytes.Goals as goal

pub returns-in-Err-clause-format : goal.returns-in-Err-clause-format
returns-in-Err-clause-format c = c.format_of_file.ensures

pub returns-in-Err-clause-reads : goal.returns-in-Err-clause-reads
returns-in-Err-clause-reads c =
    picture_stops (raw_answer c.args.options.lenient c.args.options.limit) c.args.file.now c.in-Err.error c.in-Err.ensures.interrupted
