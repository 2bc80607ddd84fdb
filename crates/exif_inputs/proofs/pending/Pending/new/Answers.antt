use Rattle.std.proofs.Common.{◌∙◌, ap, map, reverse}
use Rattle.exif_inputs.specs.Pending.{named, waiting_of}
use Rattle.exif_inputs.proofs.PendingLemmas.{none_is_left, reverse_of_view}
use Rattle.exif_inputs.proofs.pending.Pending.new.Goals as goal

pub returns-clause-waiting : goal.returns-clause-waiting
returns-clause-waiting c =
    ap (map waiting_of) c.reverse.ensures.items ∙ reverse_of_view waiting_of c.loop-path.waiting.items
    ∙ ap reverse (none_is_left (λ path. named path.now) c.args.paths.now c.loop-path.path-index _ _ c.loop-path-test.false c.loop-path.invariant)
