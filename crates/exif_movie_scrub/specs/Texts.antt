-- Faults and reasons in words.
use Rattle.std.specs.Prelude.{ℕ, List, codes}
use Rattle.exif_movie.specs.RefusalTexts.{refusal_text}
use Rattle.exif_movie_scrub.specs.declared.fault.Fault.{Fault}
use Rattle.exif_movie_scrub.specs.declared.fault.Fault.TheVariants as fault
use Rattle.exif_movie_scrub.specs.declared.remaining.Reason.{Reason}
use Rattle.exif_movie_scrub.specs.declared.remaining.Reason.TheVariants as reason

-- a fault in words
abbrev pub fault_text : Fault → List ℕ
fault_text (fault.NotListed refusal) = refusal_text refusal
fault_text fault.Unstable = codes "the video has more metadata once these are taken out"

-- a reason in words
abbrev pub reason_text : Reason → List ℕ
reason_text reason.TimedSamples = codes "samples of a track are texts or data"
reason_text reason.Text = codes "a text is not judged"
reason_text reason.NotKnown = codes "a box is of an unknown type"
reason_text reason.FilledFree = codes "free space has other bytes than zeros"
reason_text reason.NotOpened = codes "a box is too deep to be opened"
reason_text reason.Broken = codes "bytes are no whole box"
