use Rattle.std.proofs.Common.{[], refl}
use Rattle.mexaldor.proofs.LineLemmas.{words_next}
use Rattle.mexaldor.proofs.line.words.Goals as goal

pub words-init : goal.words-init
words-init c = ([], rw c.new-words.ensures.items refl)

pub words-preserved : goal.words-preserved
words-preserved c =
    rw c.in_ok-push.ensures.items (words_next c.words.words.items c.words.invariant.0 _ _ c.words.invariant.1 c.in_ok-readable.ensures.text)
