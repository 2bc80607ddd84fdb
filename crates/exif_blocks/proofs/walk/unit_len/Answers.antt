use Rattle.exif_blocks.proofs.BlockSteps.{full_fits}
use Rattle.exif_blocks.proofs.walk.unit_len.Goals as goal

pub full_len-requires : goal.full_len-requires
full_len-requires c =
    full_fits c.args.state _ _ c.args.bytes.now c.args.piece c.in-Stream.is c.requires.open c.requires.is
