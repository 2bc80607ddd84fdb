use Rattle.std.proofs.Common.{◌∙◌, ap}
use Rattle.exif_layout.specs.Groups.{with_jpeg, changed}
use Rattle.exif_layout.specs.Views.{grown}
use Rattle.exif_writer.proofs.Growth.{changed_by, changed_ranged, jpeg_ranged, ranged_as}
use Rattle.exif_writer.proofs.writer.Writer.set_jpeg.Goals as goal

pub invariant_of-self-2 : goal.invariant_of-self-2
invariant_of-self-2 c =
    ranged_as _ (changed c.args.ifd_num.0 (with_jpeg c.args.jpeg.now) c.self.inside.ifds.items)
    (changed_by c.args.ifd_num.0 c.from-number.result (with_jpeg c.args.jpeg.now) c.self.inside.ifds.items _ _ _
    c.from-number.ensures c.in_ok-grow.ensures.made c.index_mut.ensures.value c.set_jpeg.ensures)
    (changed_ranged c.args.ifd_num.0 (with_jpeg c.args.jpeg.now) c.self.inside.ifds.items (jpeg_ranged c.args.jpeg.now) c.self.invariant)

pub returns-clause-set : goal.returns-clause-set
returns-clause-set c =
    changed_by c.args.ifd_num.0 c.from-number.result (with_jpeg c.args.jpeg.now) c.args.self.now _ _ _
    c.from-number.ensures (c.in_ok-grow.ensures.made ∙ ap (grown c.from-number.result) c.self.view_is) c.index_mut.ensures.value c.set_jpeg.ensures
