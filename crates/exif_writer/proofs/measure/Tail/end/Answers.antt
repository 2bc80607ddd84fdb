use Rattle.std.proofs.Common.{rules}
use Rattle.exif_writer.proofs.MeasureSteps.{told_none, told_some}
use Rattle.exif_writer.proofs.measure.Tail.end.Goals as goal

pub returns-in-None : goal.returns-in-None
returns-in-None c = λ slots t. let same = told_none c.args.self.now c.args.offset slots t c.in-None.is in search rules

pub returns-in-Some : goal.returns-in-Some
returns-in-Some c = λ slots t. let same = told_some c.args.self.now c.args.offset _ slots t c.in-Some.is in rw (← same) c.even_end.ensures
