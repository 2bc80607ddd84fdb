use Rattle.std.proofs.Common.{map, Some, ap, ◌∙◌}
use Rattle.std.proofs.lemmas.List.{take_all}
use Rattle.exif_change.specs.Changed.{stays}
use Rattle.exif_change.proofs.Staying.{one_more}
use Rattle.exif_change.proofs.scrubbing.all_stay.Goals as goal

pub loop-part-preserved : goal.loop-part-preserved
loop-part-preserved c =
    one_more c.args.parts.now c.loop-part.left.items c.push.new.self.items c.loop-part.part-index _ c.loop-part-test.true
    c.loop-part.invariant c.in_ok-push.ensures.items

pub returns : goal.returns
returns c = c.loop-part.invariant ∙ ap (map (λ part. Some (stays part))) (take_all c.loop-part.part-index c.args.parts.now c.loop-part-test.false)
