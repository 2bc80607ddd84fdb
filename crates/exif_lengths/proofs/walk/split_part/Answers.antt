use Rattle.std.proofs.Common.{◌+◌, arith, length, rules}
use Rattle.std.proofs.lemmas.Bool.Decides.{nat_tests}
use Rattle.std.proofs.lemmas.List.{take_rest}
use Rattle.exif_lengths.specs.Walks.{walk_view}
use Rattle.exif_lengths.proofs.WalkSteps.{ordered_to, splits_on, splits_over, taken_len}
use Rattle.exif_lengths.proofs.walk.split_part.Goals as goal

pub loop-rest-preserved : goal.loop-rest-preserved
loop-rest-preserved c =
    let bytes = c.loop-rest.rest.now in
    let step = c.step_at-step.result in
    splits_on c.args.format c.args.part.picture (length c.args.file.now) _ _ bytes (walk_view c.loop-rest.walk) step _ _ c.loop-rest.invariant (grind (arith, nat_tests)) c.step_at-step.ensures.value c.step_at-step.ensures.some c.step_at-step.ensures.within (take_rest bytes step.len) (search rules)

pub returns : goal.returns
returns c =
    let p = splits_over c.args.format c.args.part.picture (length c.args.file.now) _ _ c.loop-rest.rest.now (walk_view c.loop-rest.walk) c.close.new.parts.items c.loop-rest.invariant (grind (arith, nat_tests)) (search rules) in
    record {
      value = p.0;
      order = ordered_to c.close.new.parts.items _ (c.args.part.offset + c.args.part.len) (taken_len c.args.part.offset c.args.part.len c.args.file.now c.requires.ends) p.1;
      inside = p.2;
    }
