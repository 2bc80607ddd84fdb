use Rattle.exif_grow.proofs.FieldSound.{are_set}
use Rattle.exif_setting.proofs.SetKept.{set_in_file}
use Rattle.exif_setting.proofs.set_laws.fields_set_in_the_data_of_a_file_are_read.Goals as goal

pub returns : goal.returns
returns c = λ format fields file bytes new is held e short.
    set_in_file format fields file bytes new c.file_answers_what_was_put.ensures are_set is held e
    short
