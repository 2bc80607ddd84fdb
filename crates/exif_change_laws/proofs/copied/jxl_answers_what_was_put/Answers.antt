use Rattle.exif_change_laws.proofs.JxlTrees.{found_again}
use Rattle.exif_change_laws.proofs.copied.jxl_answers_what_was_put.Goals as goal

pub returns : goal.returns
returns c = λ remove payload file new e. found_again remove payload file new c.jxl_is_boxes.ensures.answered e
