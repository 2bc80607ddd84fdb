use Rattle.exif_rewrite.proofs.FileAnswers.{file_settled}
use Rattle.exif_rewrite.proofs.laws.file_twice_is_once.Goals as goal

pub returns : goal.returns
returns c remove put bytes =
    file_settled remove put bytes (c.jpeg_twice_is_once.ensures remove put bytes) (c.webp_answers_what_was_put.ensures remove put bytes) (c.webp_twice_is_once.ensures remove put bytes)
