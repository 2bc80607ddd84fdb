use Rattle.std.proofs.Common.{ℕ, List, Option, Some, None, inr, rules}
use Rattle.exif_check.specs.Checking.{checked}
use Rattle.exif_check.specs.declared.checked.Checked.{Checked}
use Rattle.exif_c.specs.Locations.{AnswersNothing, ChecksParts}
use Rattle.exif_c.specs.declared.buffer.Answer.{Answer}
use Rattle.exif_c.specs.declared.status.Status.TheVariants as status
use Rattle.exif_c.proofs.locations.mexaldor_check.Goals as goal

-- memory may run out, whatever parts there are
no_memory : (answer : Answer) (file old new : List ℕ) (parts : Option (List Checked))
    → AnswersNothing status.OutOfMemory answer old new → ChecksParts answer file old new parts
no_memory answer file old new (Some parts) h = inr h
no_memory answer file old new None h = inr h

pub returns-in-Err : goal.returns-in-Err
returns-in-Err c =
    no_memory c.nothing-in-Err.result c.args.file.now c.args.out.now c.args.out.now
    (checked c.args.file.now) (search rules)
