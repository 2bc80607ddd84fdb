use Rattle.std.proofs.Common.{◌≡◌, List, ℕ, subst, arith}
use Rattle.std.proofs.lemmas.Grind.{common_steps}
use Rattle.exif_privacy.specs.Portions.{put_back}
use Rattle.exif_privacy.specs.Promises.{OthersStay}
use Rattle.exif_privacy.proofs.OtherSteps.{portions_stay}
use Rattle.exif_privacy.proofs.portions.put_back.Goals as goal

pub returns-clause-others : goal.returns-clause-others
returns-clause-others c = λ searched.
    let all : put_back c.args.parts.now c.args.packet.now c.args.file.now ≡ c.loop-part.file = grind (arith, common_steps) in
    subst (λ (file : List ℕ). OthersStay c.args.parts.now c.args.file.now file) all
    (portions_stay c.args.parts.now c.args.packet.now c.args.file.now c.requires.inside c.requires.long searched)
