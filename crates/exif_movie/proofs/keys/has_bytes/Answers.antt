use Rattle.std.proofs.Common.{sym, ◌∙◌, arith}
use Rattle.std.proofs.lemmas.Bool.Decides.{nat_tests}
use Rattle.exif_movie.proofs.KeySteps.{bytes_found}
use Rattle.exif_movie.proofs.keys.has_bytes.Goals as goal

pub returns-then-begins : goal.returns-then-begins
returns-then-begins c =
    sym (bytes_found c.args.word.now c.loop-rest.rest.now (grind (arith, nat_tests)) (sym c.begins.ensures ∙ c.if-begins.true)) ∙ c.loop-rest.invariant
