use Rattle.exif_types.specs.Refusals.{Gives}
use Rattle.exif_containers.proofs.IsobmffBack.{ahead_behind, ahead_goes}
use Rattle.exif_containers.proofs.isobmff.exif_ahead.Goals as goal

pub returns-in_default-clause-gives : goal.returns-in_default-clause-gives
returns-in_default-clause-gives g c =
    ahead_behind (λ t. Gives (λ v. v.items) c.exif_behind.result t) c.args.origin c.read_boxes.new.bytes.items c.new-front.result.items (g.R.Source.stream c.args.source.now) (g.R.Source.stream c.read_boxes.new.source) (g.R.Source.left c.args.source.now)
    (g.R.Source.left c.read_boxes.new.source) c.new-front.ensures.items c.in_ok-len.ensures.read c.in_ok-len.ensures.stream c.exif_behind.ensures.gives

pub returns-clause-gives : goal.returns-clause-gives
returns-clause-gives g c =
    ahead_goes (λ t. Gives (λ v. v.items) c.exif_skipping.result t) c.args.origin c.read_boxes.new.bytes.items c.new-front.result.items (g.R.Source.stream c.args.source.now) (g.R.Source.stream c.read_boxes.new.source) (g.R.Source.left c.args.source.now)
    (g.R.Source.left c.read_boxes.new.source) c.new-front.ensures.items c.in_ok-len.ensures.read c.in_ok-len.ensures.stream c.exif_skipping.ensures.gives
