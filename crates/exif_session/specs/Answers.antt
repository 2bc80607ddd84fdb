-- What a change makes of a file.
use Rattle.std.specs.Prelude.{◌≡◌, ℕ, List, [], length, Result, Ok, Err}
use Rattle.exif_change.specs.Changed as changed
use Rattle.exif_change.specs.Refusals.{Reason}
use Rattle.exif_change.specs.declared.notes.Color.TheVariants.{Keep, Strip}
use Rattle.exif_change.specs.declared.notes.Note.{Note}
use Rattle.exif_copy.specs.Selected.{selected}
use Rattle.exif_change.specs.Pictures.{picture_notes, picture_scrubbed, picture_scrubbed_with_color}
use Rattle.exif_setting.specs.Pictures.{picture_set, picture_shifted}
use Rattle.exif_session.specs.declared.request.Change.{Change}
use Rattle.exif_session.specs.declared.request.Change.TheVariants.{Copy, Scrub, Set, Shift}

-- the metadata are removed, the values are set, the dates are moved, or the Exif data of another
-- picture are put into it; or why not
abbrev pub answer_of : Change → List ℕ → Result changed.Change Reason
answer_of (Scrub removed Keep) old = picture_scrubbed removed old
answer_of (Scrub removed Strip) old = picture_scrubbed_with_color removed old
answer_of (Set values) old = picture_set values.items old
answer_of (Shift by dates) old = picture_shifted by dates old
answer_of (Copy from selection) old = selected selection from.items old

-- the new bytes alone
abbrev pub file_of : Result changed.Change Reason → Result (List ℕ) Reason
file_of (Ok made) = Ok made.file
file_of (Err why) = Err why

-- how many things are left undone in the new file
abbrev pub undone_by : Result changed.Change Reason → ℕ
undone_by (Ok made) = length made.undone
undone_by (Err why) = 0

abbrev pub undone_in : Change → List ℕ → ℕ
undone_in change old = undone_by (answer_of change old)

-- the bytes of the new file are exactly these
abbrev pub IsAnswerOf : Change → List ℕ → List ℕ → Type 0
IsAnswerOf change old new = file_of (answer_of change old) ≡ Ok new

-- what the user is to know of a change
abbrev pub notes_of : Change → List ℕ → List Note
notes_of (Scrub removed color) old = picture_notes removed color old
notes_of (Set values) old = []
notes_of (Shift by dates) old = []
notes_of (Copy from selection) old = []
