use Rattle.std.proofs.Common.{refl}
use Rattle.exif_edit_base.proofs.PlanSteps.{exchanged_back, exchanged_within}
use Rattle.exif_edit.proofs.FileSteps.{not_served}
use Rattle.exif_edit.proofs.file.put_in_item.Goals as goal
use Rattle.exif_edit.proofs.file.put_in_item.Goals.{in-Ok-false, in-Err}

pub put_back-requires : goal.put_back-requires
put_back-requires c =
    exchanged_within c.args.patches.now c.exchange.new.patches c.args.file.now
    c.exchange.new.bytes c.requires c.exchange.ensures.value c.exchange.ensures.swapped

pub returns : goal.returns
returns c = (
  exchanged_back c.args.patches.now c.exchange.new.patches c.args.file.now c.exchange.new.bytes
      c.put_back.new.bytes c.requires c.exchange.ensures.value c.exchange.ensures.swapped
      c.put_back.ensures.value,
  elim c.match-holds.branch [
    | in-Ok-false w ↦ rw w.refusal-is
        (not_served c.args.file.now c.exchange.new.bytes c.args.patches.now c.args.new.now
        w.in-Ok-false.field-0 c.exchange.ensures.value w.in-Ok-false.ensures
        w.in-Ok-false.field-0-test)
    | in-Err w ↦ rw w.refusal-is refl
  ],
)
