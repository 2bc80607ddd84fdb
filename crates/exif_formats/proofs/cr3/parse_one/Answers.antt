use Rattle.exif_formats.proofs.Joined.{parsed_read}
use Rattle.exif_formats.proofs.cr3.parse_one.Goals as goal

pub returns-clause-read : goal.returns-clause-read
returns-clause-read c =
    parsed_read c.answers_show_what_was_read.ensures.fields c.args.options.lenient c.args.options.limit
    c.args.bytes.now c.parse.result c.parse.ensures.says
