use Rattle.std.proofs.Common.{sym, ◌∙◌, arith}
use Rattle.std.proofs.lemmas.Bool.Decides.{nat_tests}
use Rattle.exif_movie_facts.proofs.DigitSteps.{full_at}
use Rattle.exif_movie_facts.proofs.digits.appended.Goals as goal

pub returns-then-is_full-clause-value : goal.returns-then-is_full-clause-value
returns-then-is_full-clause-value c =
    sym (full_at c.loop-b.value c.loop-b.scale c.loop-b.b-index c.args.digits.now (grind (arith, nat_tests)) (sym c.is_full.ensures.value ∙ c.if-is_full.true)) ∙ c.loop-b.invariant.made
