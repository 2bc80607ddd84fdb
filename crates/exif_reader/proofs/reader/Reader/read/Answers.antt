use Rattle.std.proofs.lemmas.Grind.{common_steps}
use Rattle.std.proofs.Common.{arith}
use Rattle.exif_reader.proofs.reader.Reader.read.Goals as goal

pub exif_from_parts-requires : goal.exif_from_parts-requires
exif_from_parts-requires c =
    c.answers_show_what_was_read.ensures.fields c.self.inside.lenient c.self.inside.limit c.as_slice.result.now
    c.in_ok-parsed.parsed.fields.items c.in_ok-parsed.parsed.faults.items c.in_ok-parsed.ensures.says

pub returns-then-is_empty : goal.returns-then-is_empty
returns-then-is_empty c = grind (arith, common_steps)
