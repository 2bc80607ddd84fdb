use Rattle.std.proofs.Common.{rules, ◌≡◌, ◌+◌, ◌%◌, arith}
use Rattle.exif_writer.proofs.PlanOffsets.{directories_are}
use Rattle.exif_layout.specs.Offsets.{tiff_values}
use Rattle.exif_layout.specs.Slots.{draft_of}
use Rattle.exif_writer.proofs.measure.directories_end.Goals as goal

pub returns : goal.returns
returns c =
    let at = directories_are (draft_of c.args.ifd.now) c.args.start in
    let tiff = c.context_len.ensures.len in
    let exif = c.context_len-2.ensures.len in
    let gps = c.context_len-3.ensures.len in
    let interop = c.context_len-4.ensures.len in
    let sum : tiff_values (draft_of c.args.ifd.now) c.args.start ≡ c.args.start + (c.args.start % 2 + (c.context_len.result + c.context_len-2.result + c.context_len-3.result + c.context_len-4.result)) = omega arith in
    rw sum search rules
