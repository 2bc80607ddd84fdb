use Rattle.std.proofs.Common.{arith}
use Rattle.std.proofs.lemmas.Str.Pattern.{strip_prefix_char}
use Rattle.exif_assign.proofs.Naming.{minus_stripped}
use Rattle.exif_assign.proofs.assignment.without_minus.Goals as goal

pub returns : goal.returns
returns c =
    minus_stripped c.args.number.now c.strip_prefix.result
    (strip_prefix_char 45 c.args.number.now c.strip_prefix.result c.strip_prefix.ensures.cases (omega arith))
