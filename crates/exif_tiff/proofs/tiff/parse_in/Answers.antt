use Rattle.std.proofs.Common.{◌∙◌, Some, None, ◌≡◌}
use Rattle.std.proofs.lemmas.Result.{err_from_is_err_and}
use Rattle.exif_tiff.specs.Trace.{content_of, cut, ordered_trace}
use Rattle.exif_tiff.specs.Answers.{answer_of}
use Rattle.exif_tiff.specs.Running.{outcome}
use Rattle.exif_tiff.proofs.TiffAnswers.{answered, says_stop}
use Rattle.exif_tiff.specs.Noted.{TellsOffsets}
use Rattle.exif_tiff.proofs.OffsetsTold.{met_offsets, told}
use Rattle.exif_tiff.proofs.TiffOutcomes.{met_noted}
use Rattle.exif_tiff.proofs.tiff.parse_in.Goals as goal
use Rattle.exif_tiff.proofs.tiff.parse_in.Goals.{in-Ok, in-Err-Fault+in_ok-met-in-Err-Fault}

pub returns-in_err-met-in-Err-Fault-clause-says : goal.returns-in_err-met-in-Err-Fault-clause-says
returns-in_err-met-in-Err-Fault-clause-says g c =
    let p = err_from_is_err_and c.from_residual.result c.from_residual.ensures.1 in
    rw (p.1, p.2) (says_stop c.in_err-met-in-Err-Fault.field-0.0 c.chain.new.self c.met.new.self c.in-Err-Fault.fault (answer_of c.args.lenient (content_of (cut c.args.most (ordered_trace g.E.Endian.number_of c.args.bytes.now))))
    (answered g.E.Endian.number_of c.args.bytes.now c.args.lenient c.args.most c.new.result c.new-parser.result (c.chain.new.self, Some c.in-Err-Fault.fault) c.new-parser.ensures (rw c.loadu32.ensures at (rw c.in-Err-Fault.field-0-is at c.in-Err-Fault.ensures.follows)))
    c.in_err-met-in-Err-Fault.ensures)

pub returns-clause-says : goal.returns-clause-says
returns-clause-says g c =
    let answer = answer_of c.args.lenient (content_of (cut c.args.most (ordered_trace g.E.Endian.number_of c.args.bytes.now))) in
    let parser : answer ≡ outcome (c.match-chain.parser, None) = elim c.match-chain.branch [
      | in-Ok w ↦
          rw w.parser-is (answered g.E.Endian.number_of c.args.bytes.now c.args.lenient c.args.most c.new.result c.new-parser.result (c.chain.new.self, None) c.new-parser.ensures (rw c.loadu32.ensures at w.in-Ok.ensures.follows))
      | in-Err-Fault+in_ok-met-in-Err-Fault w ↦
          rw w.parser-is
          (answered g.E.Endian.number_of c.args.bytes.now c.args.lenient c.args.most c.new.result c.new-parser.result (c.chain.new.self, Some w.in-Err-Fault.fault) c.new-parser.ensures (rw c.loadu32.ensures at (rw w.in-Err-Fault.field-0-is at w.in-Err-Fault.ensures.follows))
          ∙ met_noted c.chain.new.self w.met.new.self w.in-Err-Fault.fault w.in_ok-met-in-Err-Fault.ensures)
    ] in
    rw (c.into_parts-fields.ensures.fields, c.into_parts-fields.ensures.faults) parser

pub returns-clause-offsets : goal.returns-clause-offsets
returns-clause-offsets g c l w =
    let nodes = cut c.args.most (ordered_trace g.E.Endian.number_of c.args.bytes.now) in
    let start = rw c.new.ensures at c.new-parser.ensures in
    let parser : TellsOffsets nodes c.match-chain.parser.offsets = elim c.match-chain.branch [
      | in-Ok b ↦
          rw b.parser-is (told g.E.Endian.number_of c.args.bytes.now c.args.lenient c.args.asked c.args.most c.new-parser.result (c.chain.new.self, None) start (rw c.loadu32.ensures at b.in-Ok.ensures.follows) l w)
      | in-Err-Fault+in_ok-met-in-Err-Fault b ↦
          rw (b.parser-is, ← met_offsets c.chain.new.self b.met.new.self b.in-Err-Fault.fault b.in_ok-met-in-Err-Fault.ensures)
          (told g.E.Endian.number_of c.args.bytes.now c.args.lenient c.args.asked c.args.most c.new-parser.result (c.chain.new.self, Some b.in-Err-Fault.fault) start (rw c.loadu32.ensures at (rw b.in-Err-Fault.field-0-is at b.in-Err-Fault.ensures.follows)) l w)
    ] in
    rw c.into_parts-fields.ensures.offsets parser
