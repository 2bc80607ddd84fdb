use Rattle.std.proofs.Common.{Some, sym, ◌∙◌}
use Rattle.exif_tiff.proofs.TiffAnswers.{raw_right, trace_right}
use Rattle.exif_tiff.proofs.tiff.parse_within.Goals as goal
use Rattle.exif_tiff.proofs.SoftFaults.{answer_refused}

pub returns-in-Ok-Big-clause-says : goal.returns-in-Ok-Big-clause-says
returns-in-Ok-Big-clause-says c = rw (raw_right c.args.lenient (Some c.args.most) c.args.bytes.now _ (sym c.header.ensures.value ∙ c.in-Ok-Big.is), c.in-Ok-Big.field-0-is) c.parse_in.ensures.says

pub returns-in-Ok-Little-clause-says : goal.returns-in-Ok-Little-clause-says
returns-in-Ok-Little-clause-says c = rw (raw_right c.args.lenient (Some c.args.most) c.args.bytes.now _ (sym c.header.ensures.value ∙ c.in-Ok-Little.is), c.in-Ok-Little.field-0-is) c.parse_in-in-Ok-Little.ensures.says

pub returns-in-Err-clause-says : goal.returns-in-Err-clause-says
returns-in-Err-clause-says c = answer_refused c.args.lenient (Some c.args.most) c.args.bytes.now c.in-Err.fault (sym c.header.ensures.value ∙ c.in-Err.is)

pub returns-in-Ok-Big-clause-offsets : goal.returns-in-Ok-Big-clause-offsets
returns-in-Ok-Big-clause-offsets c l w = rw (trace_right c.args.bytes.now _ (sym c.header.ensures.value ∙ c.in-Ok-Big.is), c.in-Ok-Big.field-0-is) (c.parse_in.ensures.offsets l w)

pub returns-in-Ok-Little-clause-offsets : goal.returns-in-Ok-Little-clause-offsets
returns-in-Ok-Little-clause-offsets c l w = rw (trace_right c.args.bytes.now _ (sym c.header.ensures.value ∙ c.in-Ok-Little.is), c.in-Ok-Little.field-0-is) (c.parse_in-in-Ok-Little.ensures.offsets l w)
