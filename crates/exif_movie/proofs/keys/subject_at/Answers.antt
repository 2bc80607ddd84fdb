use Rattle.std.proofs.Common.{ap, sym, ◌∙◌, ◌-◌, arith}
use Rattle.std.proofs.lemmas.Bool.Decides.{nat_tests}
use Rattle.std.proofs.lemmas.List.{take_rest}
use Rattle.exif_movie.specs.Keys.{subject_at}
use Rattle.exif_movie.proofs.KeySteps.{key_on}
use Rattle.exif_movie.proofs.keys.subject_at.Goals as goal

pub loop-size-preserved : goal.loop-size-preserved
loop-size-preserved c =
    let keys = c.loop-size.rest.now in
    let size = c.in-Some.size in
    ap (subject_at (c.loop-size.left - 1)) (take_rest keys size)
    ∙ sym (key_on c.loop-size.left size keys (grind (arith, nat_tests)) c.in-Some.ensures.value)
    ∙ c.loop-size.invariant
