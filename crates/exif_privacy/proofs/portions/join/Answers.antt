use Rattle.std.proofs.Common.{◌≡◌, length, ap, ◌∙◌, arith}
use Rattle.std.proofs.lemmas.Grind.{common_steps}
use Rattle.exif_privacy.specs.Portions.{joined}
use Rattle.exif_privacy.proofs.PortionSteps.{joined_long}
use Rattle.exif_privacy.proofs.portions.join.Goals as goal

pub returns-clause-long : goal.returns-clause-long
returns-clause-long c =
    let all : c.loop-part.packet.items ≡ joined c.args.parts.now c.args.file.now = grind (arith, common_steps) in
    ap length all ∙ joined_long c.args.file.now c.args.parts.now c.requires
