use Rattle.exif_setting.proofs.SetWhole.{set_whole}
use Rattle.exif_setting.proofs.set_laws.fields_that_are_set_change_no_other.Goals as goal

pub returns : goal.returns
returns c = λ format fields repeated rest field file bytes mid new short small held fits is e.
    set_whole format fields repeated rest field file bytes mid new
    c.file_answers_what_was_put.ensures short small held fits is e
