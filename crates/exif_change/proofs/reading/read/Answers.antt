use Rattle.std.proofs.Common.{sym, subst}
use Rattle.exif_types.specs.Refusals.{Gives}
use Rattle.exif_containers.specs.Container.{container_answer}
use Rattle.exif_change.specs.Reading.{contents_of, file_contents}
use Rattle.exif_change.proofs.ReadLemmas.{reads_skipped}
use Rattle.exif_change.proofs.reading.read.Goals as goal

pub returns : goal.returns
returns c =
    subst (λ r. Gives contents_of r (file_contents c.args.file.now)) (sym c.faults_skipped.ensures)
    (reads_skipped (container_answer c.args.file.now) c.answered.result c.answered.ensures)
