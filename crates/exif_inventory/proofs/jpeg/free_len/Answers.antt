use Rattle.exif_inventory.proofs.ScanSteps.{free_is}
use Rattle.exif_inventory.proofs.jpeg.free_len.Goals as goal

pub returns-clause-value : goal.returns-clause-value
returns-clause-value c =
    free_is c.args.bytes.now c.first_mark.result c.first_mark.ensures.within c.first_mark.ensures.before c.first_mark.ensures.at
