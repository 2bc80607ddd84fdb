use Rattle.std.proofs.Common.{◌≡◌, ◌+◌, ◌-◌, length, take, drop, ap, ◌∙◌, arith}
use Rattle.std.proofs.lemmas.Grind.{common_steps}
use Rattle.exif_privacy.proofs.OtherSteps.{part_stays}
use Rattle.exif_privacy.proofs.erase.erase_in_part.Goals as goal

pub returns-in_err-erase_part-clause-others : goal.returns-in_err-erase_part-clause-others
returns-in_err-erase_part-clause-others c =
    let at = c.args.part.data_offset in
    let n : at + c.args.part.data_len - at ≡ c.args.part.data_len = omega arith in
    let long : length c.erase_part.new.bytes ≡ c.args.part.data_len = grind (arith, common_steps) in
    part_stays c.args.part c.args.file.now c.erase_part.new.bytes _ n c.requires long
    (λ s. c.erase_part.ensures.others s ∙ ap (λ m. take m (drop at c.args.file.now)) n)

pub returns-clause-others : goal.returns-clause-others
returns-clause-others c =
    let at = c.args.part.data_offset in
    let n : at + c.args.part.data_len - at ≡ c.args.part.data_len = omega arith in
    let long : length c.erase_part.new.bytes ≡ c.args.part.data_len = grind (arith, common_steps) in
    part_stays c.args.part c.args.file.now c.erase_part.new.bytes _ n c.requires long
    (λ s. c.erase_part.ensures.others s ∙ ap (λ m. take m (drop at c.args.file.now)) n)
