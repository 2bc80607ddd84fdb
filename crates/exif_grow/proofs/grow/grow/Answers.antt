use Rattle.std.proofs.Common.{rules}
use Rattle.exif_edit_base.specs.Causes.{Fails}
use Rattle.exif_edit_base.specs.declared.error.Error.TheVariants as error
use Rattle.exif_edit.specs.Setting.{set_patches}
use Rattle.exif_grow.specs.Setting.{grow_answer}
use Rattle.exif_grow.proofs.GrowSteps.{grown_in_place, grown_new}
use Rattle.exif_grow.proofs.grow.grow.Goals as goal

pub returns-in-Ok : goal.returns-in-Ok
returns-in-Ok c = record {
  answer = grown_in_place c.args.bytes.now c.args.tag c.args.ifd_num c.args.value.now
      c.in-Ok.patches.items c.new.result.items c.in-Ok.ensures.answer c.new.ensures.items;
}

pub returns-in-Err-ValueTooLong : goal.returns-in-Err-ValueTooLong
unfolding grow_answer
returns-in-Err-ValueTooLong c = search rules

pub returns-in-Err-FieldNotFound : goal.returns-in-Err-FieldNotFound
returns-in-Err-FieldNotFound c =
    let bytes = c.args.bytes.now in
    let tag = c.args.tag in
    let k = c.args.ifd_num in
    let value = c.args.value.now in
    let f : Fails error.FieldNotFound (set_patches bytes tag k value) =
    rw c.in-Err-FieldNotFound.field-0-is at c.in-Err-FieldNotFound.ensures.answer in
    record { answer = rw (grown_new bytes tag k value f) c.add_field.ensures.answer }

pub returns-in-Err : goal.returns-in-Err
unfolding grow_answer
returns-in-Err c = search rules
