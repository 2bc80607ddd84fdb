use Rattle.exif_change_laws.specs.Assigned.{all_new}
use Rattle.exif_change_laws.proofs.NewRead.{Laws, new_laws}
use Rattle.exif_change_laws.proofs.sets.assigned_values_of_new_data_are_read.Goals as goal

pub returns : goal.returns
returns c =
    let laws : Laws = record {
      types = c.values_are_of_their_types.ensures;
      found = c.file_answers_what_was_put.ensures;
      ranged = c.pushing_keeps.ensures.ranged;
      plain = c.pushing_keeps.ensures.plain;
      few = c.pushing_keeps.ensures.few;
      alone = c.images_hold_what_was_pushed.ensures.alone;
      sorted = c.images_hold_what_was_pushed.ensures.sorted;
      back = c.images_read_back.ensures.whole;
    } in
    record {
      answered = λ s. (new_laws laws s).answered;
      read = λ s. (new_laws laws s).read;
      values = λ s. (new_laws laws s).values;
      others = λ s. (new_laws laws s).others;
      sorted = λ s. laws.sorted (all_new s);
    }
