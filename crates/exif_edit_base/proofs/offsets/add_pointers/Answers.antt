use Rattle.std.proofs.Common.{sym, ◌∙◌}
use Rattle.exif_base.specs.Orders.{number_of}
use Rattle.exif_edit_base.proofs.OffsetSteps.{other_tag, other_type}
use Rattle.exif_edit_base.proofs.offsets.add_pointers.Goals as goal
use Rattle.exif_edit_base.proofs.offsets.add_pointers.Goals.{else-points_to-via-then-points_to+else-is_offset_type, else-points_to-via-else-points_to}

pub returns-else-points_to : goal.returns-else-points_to
returns-else-points_to c =
    let number = number_of c.args.order in
    let bytes = c.args.bytes.now in
    elim c.else-points_to.branch [
      | else-points_to-via-then-points_to+else-is_offset_type w ↦
          other_type c.args.target number bytes c.args.pointers.now.items c.args.entry
          w.number16-then-points_to.result c.requires.few w.number16-then-points_to.ensures
          (sym w.is_offset_type.ensures ∙ w.if-is_offset_type.false)
      | else-points_to-via-else-points_to w ↦
          other_tag c.args.target number bytes c.args.pointers.now.items c.args.entry
          c.number16.result c.requires.few c.number16.ensures
          (sym c.points_to.ensures ∙ w.if-points_to.false)
    ]
