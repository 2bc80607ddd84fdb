use Rattle.std.proofs.Common.{◌∙◌, sym}
use Rattle.exif_writer.proofs.PlanChain.{refused_empty, some_groups, refused_first, refused_end, refused_never}
use Rattle.exif_writer.proofs.measure.write_fault.Goals as goal

pub returns-then-is_empty : goal.returns-then-is_empty
returns-then-is_empty c = refused_empty c.args.ifds.now (sym c.is_empty.ensures ∙ c.if-is_empty.true)

pub returns-then-is_some : goal.returns-then-is_some
returns-then-is_some c =
    refused_first c.args.ifds.now c.first_fault-fault.result (some_groups c.args.ifds.now (sym c.is_empty.ensures ∙ c.if-is_empty.false)) c.first_fault-fault.ensures
    (sym c.is_some.ensures ∙ c.if-is_some.true)

pub returns-in-Some : goal.returns-in-Some
returns-in-Some c =
    refused_never c.args.ifds.now c.first_fault-fault.result (some_groups c.args.ifds.now (sym c.is_empty.ensures ∙ c.if-is_empty.false)) c.first_fault-fault.ensures
    (sym c.is_some.ensures ∙ c.if-is_some.false) c.in-Some.ensures.0

pub returns-in-None : goal.returns-in-None
returns-in-None c =
    refused_end c.args.ifds.now c.first_fault-fault.result (some_groups c.args.ifds.now (sym c.is_empty.ensures ∙ c.if-is_empty.false)) c.first_fault-fault.ensures
    (sym c.is_some.ensures ∙ c.if-is_some.false) c.in-None.ensures
