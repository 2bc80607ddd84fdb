use Rattle.exif_edit_base.specs.Readings.{read_of}
use Rattle.exif_edit_base.specs.Plans.{planned}
use Rattle.exif_edit.proofs.EraseSteps.{zeros_answer}
use Rattle.exif_edit.proofs.erase.located_plan.Goals as goal

pub returns-clause-answer : goal.returns-clause-answer
returns-clause-answer c =
    zeros_answer c.args.bytes.now c.in_ok-zeros.zeros.patches.items c.in_ok-zeros.zeros.unshared
    (read_of c.args.located.parsed) (planned c.args.bytes.now c.plan_of.result) c.requires.reads
    c.in_ok-zeros.ensures.patches c.in_ok-zeros.ensures.unshared
    (c.plan_of.ensures.planned c.args.bytes.now)
