use Rattle.std.proofs.Common.{◌∙◌, ◌≤◌, ◌<◌, refl, arith, length}
use Rattle.exif_edit_base.proofs.ChangeSteps.{change_step, change_end}
use Rattle.exif_edit_base.specs.Rereading.{field_at_entry}
use Rattle.exif_edit_base.proofs.reread.forget_entry_offsets.Goals as goal

pub loop-field-preserved : goal.loop-field-preserved
loop-field-preserved c =
    let h : c.loop-field.field-index < length c.loop-field.fields = omega arith in
    change_step (field_at_entry 0) c.loop-field.fields _ c.loop-field.field-index c.field-item.result
    c.forget_entry_offset.new.field h c.field-item.is c.forget_entry_offset.ensures refl ∙ c.loop-field.invariant

pub returns : goal.returns
returns c =
    let h : length c.loop-field.fields ≤ c.loop-field.field-index = omega arith in
    change_end (field_at_entry 0) c.loop-field.fields _ c.loop-field.field-index h c.loop-field.invariant
