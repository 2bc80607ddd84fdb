use Rattle.exif_change_laws.proofs.KeptOrientation.{nothing_kept, orientation_kept}
use Rattle.exif_change_laws.proofs.a_scrubbed_file_keeps_the_orientation_alone.Goals as goal

pub returns-clause-kept : goal.returns-clause-kept
returns-clause-kept c = λ format file new old number r f read told small e short.
    orientation_kept format file new old number c.file_answers_what_was_put.ensures r f read told small e short

pub returns-clause-nothing_kept : goal.returns-clause-nothing_kept
returns-clause-nothing_kept c = λ format file new r f k e short.
    nothing_kept format file new c.file_answers_what_was_put.ensures r f k e short
