use Rattle.std.proofs.Common.{◌∙◌, sym}
use Rattle.exif_writer.proofs.PlanChain.{first_found, first_more}
use Rattle.exif_writer.proofs.measure.first_fault.Goals as goal

pub returns-then-is_some : goal.returns-then-is_some
returns-then-is_some c =
    first_found c.args.ifds.now c.loop-ifd.ifd-index c.ifd-item.result c.ifd-item.result c.fault-fault.result c.loop-ifd-test.true c.ifd-item.is c.loop-ifd.invariant
    c.fault-fault.ensures (sym c.is_some.ensures ∙ c.if-is_some.true)

pub loop-ifd-preserved : goal.loop-ifd-preserved
loop-ifd-preserved c =
    first_more c.args.ifds.now c.loop-ifd.ifd-index c.ifd-item.result c.ifd-item.result c.fault-fault.result c.loop-ifd-test.true c.ifd-item.is c.loop-ifd.invariant
    c.fault-fault.ensures (sym c.is_some.ensures ∙ c.if-is_some.false)
