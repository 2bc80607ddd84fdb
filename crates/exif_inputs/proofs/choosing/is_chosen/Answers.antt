use Rattle.exif_inputs.proofs.ChoosingLemmas.{by_some}
use Rattle.exif_inputs.proofs.choosing.is_chosen.Goals as goal

pub returns-clause-some : goal.returns-clause-some
returns-clause-some c = λ asked.
    by_some c.args.choice.now c.exif_of.result c.meets.result c.meets.ensures.value
