use Rattle.exif_change_laws.proofs.SetAgain.{assigned_again}
use Rattle.exif_change_laws.proofs.sets.values_that_are_set_again_are_read_as_before.Goals as goal

pub returns : goal.returns
returns c = λ s.
    let f = s.first in
    assigned_again f.assignments f.sets f.file f.new s.again f.old s.now c.file_answers_what_was_put.ensures
    c.limits_cut_readings.ensures.unchanged c.values_are_of_their_types.ensures f.short f.still_short s.short
    f.read s.read s.few f.fields f.made s.made
