use Rattle.std.proofs.Common.{arith, refl}
use Rattle.exif_writer.proofs.MeasureSteps.{tells_small, tells_first, tells_newer, tells_older}
use Rattle.exif_writer.proofs.MeasureTails.{over_one}
use Rattle.exif_writer.proofs.measure.Tail.with.Goals as goal

pub returns-then-size-le4-clause-told : goal.returns-then-size-le4-clause-told
returns-then-size-le4-clause-told c = λ slots slot t k e. tells_small c.args.self c.args.size slots slot c.if-size-le4.true e t

pub returns-in_err-bytes-clause-over : goal.returns-in_err-bytes-clause-over
returns-in_err-bytes-clause-over c = rw c.from_residual.ensures (λ slots slot t e. over_one c.args.self c.args.size slots slot (omega arith) t e (omega arith))

pub returns-in-Some-clause-told : goal.returns-in-Some-clause-told
returns-in-Some-clause-told c = λ slots slot t k e.
    tells_older c.args.self _ c.args.tag c.args.size _ slots slot (omega arith) k e t (omega arith) c.in-Some.is c.if-tag-last.true refl

pub returns-in_default-clause-told : goal.returns-in_default-clause-told
returns-in_default-clause-told c = λ slots slot t k e.
    tells_newer c.args.self _ c.args.tag c.args.size _ slots slot (omega arith) k e t (omega arith) c.in-Some.is (omega arith) refl

pub returns-in_default-2-clause-told : goal.returns-in_default-2-clause-told
returns-in_default-2-clause-told c = λ slots slot t k e.
    tells_first c.args.self _ c.args.tag c.args.size slots slot (omega arith) k e t (omega arith) c.in_default.is refl
