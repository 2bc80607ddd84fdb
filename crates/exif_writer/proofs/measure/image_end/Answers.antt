use Rattle.std.proofs.Common.{◌∙◌, ap, arith, sym}
use Rattle.exif_writer.proofs.PlanChain.{fault_at, ends_more, ends_within, ends_low}
use Rattle.exif_layout.specs.Offsets.{draft_end}
use Rattle.exif_layout.specs.Slots.{draft_of}
use Rattle.exif_writer.proofs.measure.image_end.Goals as goal

pub end-requires-clause-fault : goal.end-requires-clause-fault
end-requires-clause-fault c = fault_at c.args.ifds.now c.loop-ifd.ifd-index c.ifd-item.result c.ifd-item.result c.requires c.loop-ifd-test.true c.ifd-item.is

pub end-requires-clause-start : goal.end-requires-clause-start
end-requires-clause-start c = let low = ends_low c.args.ifds.now c.loop-ifd.ifd-index in let end = c.loop-ifd.invariant.end in omega arith

pub returns-in_err-offset : goal.returns-in_err-offset
returns-in_err-offset c =
    let within = ends_within 8 c.args.ifds.now c.loop-ifd.ifd-index c.ifd-item.result c.ifd-item.result c.loop-ifd-test.true c.ifd-item.is in
    let end = ap (draft_end (draft_of c.ifd-item.result)) c.loop-ifd.invariant.end in
    rw c.from_residual.ensures (λ less. c.in_err-offset.ensures (omega arith))

pub loop-ifd-preserved : goal.loop-ifd-preserved
loop-ifd-preserved c =
    let more = ends_more 8 c.args.ifds.now c.loop-ifd.ifd-index c.ifd-item.result c.ifd-item.result c.loop-ifd-test.true c.ifd-item.is in
    record {
      end = c.in_ok-offset.ensures.1 ∙ ap (draft_end (draft_of c.ifd-item.result)) c.loop-ifd.invariant.end ∙ sym more;
      fits = (let end = c.in_ok-offset.ensures.1 in let low = c.in_ok-offset.ensures.0 in omega arith);
    }
