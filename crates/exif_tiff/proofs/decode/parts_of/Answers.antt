use Rattle.std.proofs.Common.{◌∙◌, rules, tests, nat_eq}
use Rattle.std.proofs.lemmas.Iterator.Splits.{YieldsList-from_slice_split}
use Rattle.std.proofs.lemmas.Iterator.Consumers.{YieldsList-end}
use Rattle.exif_tiff.proofs.decode.parts_of.Goals as goal

pub returns : goal.returns
returns c =
    c.from_vec.ensures ∙ c.loop-part.invariant ∙ (YieldsList-end (YieldsList-from_slice_split _ (λ b. nat_eq b 0) c.args.bytes.now (cc) (cc) (cc) (λ x b q k. search (rules, tests))) c.loop-part.yielded _ c.loop-part.yielded_by _ _ c.in-None.is c.next.ensures.steps).0
