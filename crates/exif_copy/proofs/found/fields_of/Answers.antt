use Rattle.std.proofs.Common.{Ok, sym, subst}
use Rattle.exif_types.specs.Refusals.{Gives}
use Rattle.exif_change.specs.Reading.{contents_of, data_contents}
use Rattle.exif_change.proofs.ReadLemmas.{reads_skipped}
use Rattle.exif_copy.proofs.FoundSteps.{as_held}
use Rattle.exif_copy.proofs.found.fields_of.Goals as goal

pub returns : goal.returns
returns c =
    subst (λ r. Gives contents_of r (data_contents c.args.data.items)) (sym c.faults_skipped.ensures)
    (reads_skipped (Ok c.args.data.items) c.answered.result (as_held c.args.data.items c.answered.result c.answered.ensures))
