use Rattle.std.specs.Str.Parse.{without_leading_plus}
use Rattle.exif_arguments.proofs.GivenLemmas.{number-none, number-some}
use Rattle.exif_arguments.proofs.given.number_in.Goals as goal

pub returns-in-Ok : goal.returns-in-Ok
returns-in-Ok c =
    number-some (without_leading_plus c.args.text.now) c.in-Ok.number c.in-Ok.ensures.value.0.0 c.in-Ok.ensures.value.0.1

pub returns-in-Err : goal.returns-in-Err
returns-in-Err c = number-none (without_leading_plus c.args.text.now) c.in-Err.ensures.value.0
