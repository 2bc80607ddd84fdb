use Rattle.exif_change_laws.proofs.SetAssigned.{assigned_all}
use Rattle.exif_change_laws.proofs.sets.assigned_values_are_read.Goals as goal

pub returns : goal.returns
returns c = λ s.
    assigned_all s.assignments s.sets s.file s.new s.old c.file_answers_what_was_put.ensures
    c.limits_cut_readings.ensures.unchanged s.short s.still_short s.read s.fields s.made
