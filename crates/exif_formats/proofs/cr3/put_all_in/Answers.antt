use Rattle.std.proofs.Common.{sym, ◌∙◌, arith}
use Rattle.exif_formats.specs.Pictures.{field_in}
use Rattle.exif_formats.proofs.Joined.{all_over}
use Rattle.exif_formats.proofs.cr3.put_all_in.Goals as goal

pub returns : goal.returns
returns c =
    sym (all_over (field_in c.args.context) c.loop-i.i c.loop-i.fields (omega (arith, c.loop-i.invariant.1)))
    ∙ c.loop-i.invariant.0
