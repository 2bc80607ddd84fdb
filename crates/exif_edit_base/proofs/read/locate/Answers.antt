use Rattle.exif_edit_base.specs.Results.{parsed_of}
use Rattle.exif_edit_base.proofs.ReadSteps.{says_reads}
use Rattle.exif_edit_base.proofs.read.locate.Goals as goal

pub returns-clause-reads : goal.returns-clause-reads
returns-clause-reads c =
    says_reads (parsed_of c.read_located.result) c.args.bytes.now c.read_located.ensures.says c.read_located.ensures.order
