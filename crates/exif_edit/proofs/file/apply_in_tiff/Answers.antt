use Rattle.std.proofs.Common.{rules, ◌<◌, ◌^◌, ◌∙◌, length, refl, subst, sym}
use Rattle.exif_edit_base.specs.Causes.{Edits}
use Rattle.exif_edit.proofs.FileSteps.{tiff_edited, tiff_kept}
use Rattle.exif_edit.proofs.file.apply_in_tiff.Goals as goal

pub returns-then-takes_picture : goal.returns-then-takes_picture
returns-then-takes_picture c = (
  refl,
  tiff_kept c.args.limit c.args.edit.now c.args.file.now c.requires
      (sym c.takes_picture.ensures ∙ c.if-takes_picture.true),
)

pub returns : goal.returns
returns c =
    let small : length c.args.file.now < 2 ^ 64 = search rules in
    subst (Edits c.apply.result c.args.file.now c.apply.new.bytes)
    (sym (tiff_edited c.args.limit c.args.edit.now c.args.file.now small c.requires
    (sym c.takes_picture.ensures ∙ c.if-takes_picture.false)))
    c.apply.ensures.answer
