use Rattle.std.proofs.Common.{rules}
use Rattle.exif_tiff.specs.Answers.{raw_answer}
use Rattle.exif_containers.proofs.ContainerSteps.{container_begins}
use Rattle.exif_reader.specs.Files.{ReadsByNeed}
use Rattle.exif_reader.proofs.ReaderFronts.{sniffed_format}
use Rattle.exif_reader.proofs.reader.Reader.read_through.Goals as goal

pub returns-clause-format : goal.returns-clause-format
returns-clause-format g c =
    let front = c.in_ok-filled.ensures in
    sniffed_format c.in_ok-filled.filled c.read_signature.new.block c.format_of-format.result
    (g.R.Source.left c.args.source.now) (g.R.Source.left c.read_signature.new.source)
    front.taken front.bound front.most (search rules) front.end c.format_of-format.ensures

pub returns-clause-reads : goal.returns-clause-reads
returns-clause-reads g c =
    let front = c.in_ok-filled.ensures in
    container_begins
    (λ t. ReadsByNeed (raw_answer c.args.self.now.lenient c.args.self.now.limit) t c.read_as-answer.result)
    c.in_ok-filled.filled c.read_signature.new.block _ c.args.origin
    (g.R.Source.stream c.args.source.now) _ _ (g.R.Source.left c.read_signature.new.source) _
    front.taken front.bound front.most (search rules) front.end c.format_of-format.ensures
    (search rules) (search rules) c.read_as-answer.ensures.reads
