use Rattle.exif_show.proofs.ProgramSaying.{says_whole, says_front, says_none}
use Rattle.exif_base.proofs.Sent.{keeps_same, appends_kept, front_all}
use Rattle.exif_show.proofs.program.say.Goals as goal

pub returns-in_err-line-clause-front : goal.returns-in_err-line-clause-front
returns-in_err-line-clause-front g c = says_none c.args.error.now _ _ (keeps_same _)

pub returns-in_err-send_all-clause-front : goal.returns-in_err-send_all-clause-front
returns-in_err-send_all-clause-front g c =
    says_front c.args.error.now _ _ c.as_bytes.result.now (rw c.as_bytes.ensures.value c.in_ok-line.ensures.ok) c.in_err-send_all.ensures.sends.front

pub returns-in_err-flush-clause-front : goal.returns-in_err-flush-clause-front
returns-in_err-flush-clause-front g c =
    says_front c.args.error.now _ _ c.as_bytes.result.now (rw c.as_bytes.ensures.value c.in_ok-line.ensures.ok)
    (front_all _ _ _ c.as_bytes.result.now c.in_ok-send_all.ensures.sends.sent c.flush.ensures.bytes)

pub returns-clause-sent : goal.returns-clause-sent
returns-clause-sent g c =
    says_whole c.args.error.now _ _ c.as_bytes.result.now (rw c.as_bytes.ensures.value c.in_ok-line.ensures.ok)
    (appends_kept _ _ _ c.as_bytes.result.now c.in_ok-send_all.ensures.sends.sent c.flush.ensures.bytes)

pub returns-clause-front : goal.returns-clause-front
returns-clause-front g c =
    says_front c.args.error.now _ _ c.as_bytes.result.now (rw c.as_bytes.ensures.value c.in_ok-line.ensures.ok)
    (front_all _ _ _ c.as_bytes.result.now c.in_ok-send_all.ensures.sends.sent c.flush.ensures.bytes)
