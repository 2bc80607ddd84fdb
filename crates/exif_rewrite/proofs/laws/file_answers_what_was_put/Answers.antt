use Rattle.exif_rewrite.proofs.FileAnswers.{file_found}
use Rattle.exif_rewrite.proofs.laws.file_answers_what_was_put.Goals as goal

pub returns : goal.returns
returns c remove put bytes =
    file_found remove put bytes (c.jpeg_answers_what_was_put.ensures remove put bytes) (c.webp_answers_what_was_put.ensures remove put bytes)
