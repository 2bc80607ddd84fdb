use Rattle.std.proofs.Common.{◌∙◌, ap, arith, sym}
use Rattle.exif_layout.proofs.Images.Counting.{count_is, directory_len_is}
use Rattle.exif_layout.proofs.Images.Whole.{accepted}
use Rattle.exif_layout.specs.Counting.{counted_len}
use Rattle.exif_writer.proofs.measure.context_len.Goals as goal

pub directory_len-requires : goal.directory_len-requires
directory_len-requires c =
    let few = (accepted c.args.ifd.now c.requires).few c.args.context in
    let count = count_is c.args.ifd.now c.args.context in
    let same = c.count.ensures in
    omega arith

pub returns-clause-len : goal.returns-clause-len
returns-clause-len c = c.directory_len.ensures.len ∙ ap counted_len c.count.ensures ∙ sym (directory_len_is c.args.ifd.now c.args.context)
