use Rattle.exif_movie_scrub.proofs.PartSteps.{put_part}
use Rattle.exif_movie_scrub.proofs.file.zero_part.Goals as goal

pub returns : goal.returns
returns c =
    put_part c.args.request c.args.part c.args.file.now c.write_zeros.new.bytes c.zeroed_of.result c.requires.ordered c.zeroed_of.ensures c.write_zeros.ensures
