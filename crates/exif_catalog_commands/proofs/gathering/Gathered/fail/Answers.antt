use Rattle.std.proofs.Common.{rules}
use Rattle.std.proofs.lemmas.Bool.{false≢true}
use Rattle.exif_catalog_commands.proofs.gathering.Gathered.fail.Goals as goal
use Rattle.exif_catalog_commands.proofs.gathering.Gathered.fail.Goals.{then-is_hidden+in_ok-absolute_of+in_ok-push, else-is_hidden}

pub returns-clause-hidden : goal.returns-clause-hidden
returns-clause-hidden g c = λ differs. elim c.if-is_hidden.branch [
  | then-is_hidden+in_ok-absolute_of+in_ok-push w ↦ (w.in_ok-absolute_of.field-0, search rules)
  | else-is_hidden w ↦
      let hidden = c.is_hidden.ensures.1 (rw c.kind.ensures differs) in absurd (false≢true (rw w.if-is_hidden.false at hidden))
]
