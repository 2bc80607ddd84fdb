use Rattle.std.proofs.Common.{rules}
use Rattle.exif_c.proofs.Answered.{is_read}
use Rattle.exif_c.proofs.read.mexaldor_read.Goals as goal

pub returns-in-Ok : goal.returns-in-Ok
returns-in-Ok c =
    is_read c.args.lenient c.args.limit c.args.file.now c.args.out.now c.given.new.out c.given.result
    c.read-format.result.answer c.in-Ok.text.items (search rules) (search rules) (search rules)
