use Rattle.std.proofs.Common.{ap, subst, sym}
use Rattle.std.specs.Prelude.{Err, Result}
use Rattle.exif_files.specs.declared.failure.WriteError.{WriteError}
use Rattle.exif_session.specs.OutTexts.{IsWrittenAs}
use Rattle.exif_session.proofs.output.answer_of.Goals as goal

pub returns-in_ok-from_str-in-Err : goal.returns-in_ok-from_str-in-Err
returns-in_ok-from_str-in-Err c =
    let P : Result (Unit {0}) WriteError → Type 0 = λ w. IsWrittenAs c.args.to.now w (Err c.error_of.result) in
    subst P (sym c.in-Err.is) (c.in_ok-from_str-in-Err.field-0, (c.in_ok-from_str-in-Err.ensures.ok, ap (λ e. Err e) c.error_of.ensures))
