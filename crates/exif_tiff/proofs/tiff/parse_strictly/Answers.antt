use Rattle.std.proofs.Common.{None}
use Rattle.exif_tiff.proofs.tiff.parse_strictly.Goals as goal

pub returns : goal.returns
returns c = (
  c.answers_show_what_was_read.ensures.strict None c.args.bytes.now c.in_ok-parsed.parsed.fields.items c.in_ok-parsed.parsed.faults.items c.in_ok-parsed.ensures.says,
  c.in_ok-parsed.ensures.order,
)
