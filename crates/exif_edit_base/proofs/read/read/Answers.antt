use Rattle.exif_edit_base.proofs.ReadSteps.{says_reads}
use Rattle.exif_edit_base.proofs.read.read.Goals as goal

pub returns-clause-reads : goal.returns-clause-reads
returns-clause-reads c =
    says_reads c.parse.result c.args.bytes.now c.parse.ensures.says c.parse.ensures.order
