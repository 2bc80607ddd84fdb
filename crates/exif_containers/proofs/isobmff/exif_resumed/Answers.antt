use Rattle.exif_types.specs.Refusals.{Gives}
use Rattle.exif_containers.proofs.IsobmffBack.{resumed}
use Rattle.exif_containers.proofs.isobmff.exif_resumed.Goals as goal

pub returns-clause-gives : goal.returns-clause-gives
returns-clause-gives g c =
    resumed (λ t. Gives (λ v. v.items) c.exif_behind.result t) (g.R.Source.left c.args.source.now) (g.R.Source.left c.read_whole.new.source) (g.R.Source.left c.read_boxes.new.source) c.args.front.items
    c.read_whole.new.bytes.items c.read_boxes.new.bytes.items c.in_ok-_whole.ensures.read c.in_ok-_next.ensures.read c.exif_behind.ensures.gives
