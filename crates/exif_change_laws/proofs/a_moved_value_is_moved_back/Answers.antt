use Rattle.exif_change_laws.proofs.MovedTexts.{value_back}
use Rattle.exif_change_laws.proofs.a_moved_value_is_moved_back.Goals as goal

pub returns : goal.returns
returns c = λ by old new few e.
    value_back by old new
    (λ date new_date time new_time day clock m. c.a_moved_date_is_moved_back.ensures by date new_date time new_time day clock few m) e
