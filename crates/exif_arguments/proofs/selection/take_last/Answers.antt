use Rattle.std.proofs.Common.{◌∙◌, ap, sym}
use Rattle.exif_arguments.specs.Given.{texts}
use Rattle.exif_arguments.specs.Requests.{but_last, last_of}
use Rattle.exif_arguments.proofs.RequestLemmas.{but-texts, last-texts}
use Rattle.exif_arguments.proofs.selection.take_last.Goals as goal

pub returns-in-Some-clause-last : goal.returns-in-Some-clause-last
returns-in-Some-clause-last c =
    sym (ap (λ words. last_of (texts words)) c.in-Some.ensures.items ∙ last-texts c.pop.new.self.items c.in-Some.word)

pub returns-in-Some-clause-others : goal.returns-in-Some-clause-others
returns-in-Some-clause-others c =
    sym (ap (λ words. but_last (texts words)) c.in-Some.ensures.items ∙ but-texts c.pop.new.self.items c.in-Some.word)
