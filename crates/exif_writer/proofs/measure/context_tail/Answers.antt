use Rattle.std.proofs.Common.{arith, ap, map, ◌++◌}
use Rattle.exif_layout.proofs.Images.Whole.{accepted}
use Rattle.exif_writer.proofs.MeasureTails.{all_known, none_map, some_map, pushed_front, tiff_fronts, tiff_told, other_told}
use Rattle.exif_layout.specs.declared.block_kind.BlockKind.TheVariants.{Strips}
use Rattle.exif_layout.specs.Measuring.{span}
use Rattle.exif_layout.specs.Groups.{pushed_in}
use Rattle.exif_layout.specs.Slots.{known, block_slots}
use Rattle.exif_writer.proofs.measure.context_tail.Goals as goal

pub tail_of-requires : goal.tail_of-requires
tail_of-requires c = rw c.fields.ensures (all_known (pushed_in c.args.ifd.now c.args.context) ((accepted c.args.ifd.now c.requires).known c.args.context))

pub returns-in_err-tail-clause-over : goal.returns-in_err-tail-clause-over
returns-in_err-tail-clause-over c =
    let far = c.in_err-tail.ensures.over in
    let same = ap (λ entries. span (map known entries)) c.fields.ensures in
    let front = pushed_front c.args.ifd.now c.args.context in
    rw c.from_residual.ensures (omega arith)

pub returns-in_err-with_blocks-in-Tiff-clause-over : goal.returns-in_err-with_blocks-in-Tiff-clause-over
returns-in_err-with_blocks-in-Tiff-clause-over c =
    let pushed = rw (c.fields.ensures, c.in-Tiff.is) at (c.in_ok-tail.ensures.told) in
    let far = rw c.set.ensures at (c.in_err-with_blocks-in-Tiff.ensures.over (map known c.args.ifd.now.tiff) pushed) in
    let front = (tiff_fronts c.args.ifd.now).two in
    rw (c.from_residual-in_err-with_blocks-in-Tiff.ensures, c.in-Tiff.is) (omega arith)

pub returns-in_ok-with_blocks-in-Tiff-clause-over : goal.returns-in_ok-with_blocks-in-Tiff-clause-over
returns-in_ok-with_blocks-in-Tiff-clause-over c = rw c.in-Tiff.is (none_map c.with_blocks-in-Tiff.result (λ over.
    let pushed = rw (c.fields.ensures, c.in-Tiff.is) at (c.in_ok-tail.ensures.told) in
    let strips = rw c.set.ensures at (c.in_ok-with_blocks-in-Tiff.ensures.told (map known c.args.ifd.now.tiff) pushed) in
    let far = rw c.set-in-Tiff.ensures at (over (map known c.args.ifd.now.tiff ++ block_slots c.args.ifd.now Strips) strips) in
    let front = (tiff_fronts c.args.ifd.now).three in
    omega arith) c.with_blocks-in-Tiff.ensures.over)

pub returns-in_ok-with_blocks-in-Tiff-clause-told : goal.returns-in_ok-with_blocks-in-Tiff-clause-told
returns-in_ok-with_blocks-in-Tiff-clause-told c = rw c.in-Tiff.is (some_map c.with_blocks-in-Tiff.result (λ tail told.
    let pushed = rw (c.fields.ensures, c.in-Tiff.is) at (c.in_ok-tail.ensures.told) in
    let strips = rw c.set.ensures at (c.in_ok-with_blocks-in-Tiff.ensures.told (map known c.args.ifd.now.tiff) pushed) in
    tiff_told c.args.ifd.now tail (rw c.set-in-Tiff.ensures at (told (map known c.args.ifd.now.tiff ++ block_slots c.args.ifd.now Strips) strips)))
    c.with_blocks-in-Tiff.ensures.told)

pub returns-in-Exif : goal.returns-in-Exif
returns-in-Exif c = record { over = tt; told = other_told c.in_ok-tail.tail c.args.ifd.now c.args.context c.in-Exif.is (rw c.fields.ensures at (c.in_ok-tail.ensures.told)) }
