use Rattle.std.proofs.Common.{rules}
use Rattle.exif_tiff.specs.Answers.{raw_answer}
use Rattle.exif_containers.specs.Container.{answer_as}
use Rattle.exif_reader.proofs.ReaderFronts.{tiff_by_need, whole_by_need}
use Rattle.exif_reader.proofs.reader.Reader.read_as.Goals as goal

pub returns-in-Some-Tiff-clause-reads : goal.returns-in-Some-Tiff-clause-reads
returns-in-Some-Tiff-clause-reads g c =
    tiff_by_need (raw_answer c.args.self.now.lenient c.args.self.now.limit) c.args.format
    (g.R.Source.left c.args.source.now) c.read_tiff.result _ (search rules) c.read_tiff.ensures.reads

pub returns-in_default-clause-reads : goal.returns-in_default-clause-reads
returns-in_default-clause-reads g c =
    whole_by_need (raw_answer c.args.self.now.lenient c.args.self.now.limit) (answer_as c.args.format)
    (g.R.Source.left c.args.source.now) c.read_whole.result _ c.read_whole.ensures.reads
