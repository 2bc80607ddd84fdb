use Rattle.std.proofs.Common.{length}
use Rattle.exif_session.proofs.in_place.Messages.say_all.Given as goal

abbrev pub decreases-loop-rest : goal.decreases-loop-rest
decreases-loop-rest g l = length l.rest
