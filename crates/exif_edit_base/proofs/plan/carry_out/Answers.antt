use Rattle.std.proofs.Common.{refl}
use Rattle.exif_edit_base.proofs.PlanSteps.{exchanged_back, exchanged_within, read_carried}
use Rattle.exif_edit_base.proofs.plan.carry_out.Goals as goal
use Rattle.exif_edit_base.proofs.plan.carry_out.Goals.{in-Ok-false, in-Err}

pub returns-in-Ok-true : goal.returns-in-Ok-true
returns-in-Ok-true c =
    (read_carried c.args.bytes.now c.exchange.new.bytes c.args.plan c.in-Ok-true.field-0
    (rw c.as_mut_slice-patches.ensures.value at c.exchange.ensures.value) c.in-Ok-true.ensures).0
    c.in-Ok-true.field-0-test

pub put_back-requires : goal.put_back-requires
put_back-requires c =
    exchanged_within c.args.plan.patches.items c.exchange.new.patches c.args.bytes.now
    c.exchange.new.bytes c.requires
    (rw c.as_mut_slice-patches.ensures.value at c.exchange.ensures.value)
    (rw c.as_mut_slice-patches.ensures.value at c.exchange.ensures.swapped)

pub returns : goal.returns
returns c =
    let value = rw c.as_mut_slice-patches.ensures.value at c.exchange.ensures.value in (
      exchanged_back c.args.plan.patches.items c.exchange.new.patches c.args.bytes.now
          c.exchange.new.bytes c.put_back.new.bytes c.requires value
          (rw c.as_mut_slice-patches.ensures.value at c.exchange.ensures.swapped)
          c.put_back.ensures.value,
      elim c.match-is_read.branch [
        | in-Ok-false w ↦ rw w.refusal-is
            ((read_carried c.args.bytes.now c.exchange.new.bytes c.args.plan w.in-Ok-false.field-0
            value w.in-Ok-false.ensures).1 w.in-Ok-false.field-0-test)
        | in-Err w ↦ rw w.refusal-is refl
      ],
    )
