use Rattle.std.proofs.Common.{inl, inr}
use Rattle.exif_files.specs.declared.outcome.Status.TheVariants.{Refused, Success}
use Rattle.mexaldor.proofs.answer.Goals as goal

pub returns-in-Tags : goal.returns-in-Tags
returns-in-Tags c = elim c.list_tags.ensures [ inl done ↦ (Success, done) | inr failed ↦ (Refused, failed) ]
