use Rattle.std.proofs.Common.{rules}
use Rattle.exif_isobmff.specs.Boxes.{box_at}
use Rattle.exif_isobmff.proofs.splitter.BoxSplitter.child_box.Goals as goal

pub returns : goal.returns
unfolding box_at
returns c = search rules
