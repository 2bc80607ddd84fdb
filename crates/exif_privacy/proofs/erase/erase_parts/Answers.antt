use Rattle.std.proofs.Common.{◌∙◌}
use Rattle.exif_privacy.specs.Files.{tiff_part}
use Rattle.exif_privacy.proofs.FirstSteps.{erased_at}
use Rattle.exif_privacy.proofs.OtherSteps.{both_stay, next_stays}
use Rattle.exif_privacy.proofs.erase.erase_parts.Goals as goal

pub loop-index-preserved : goal.loop-index-preserved
loop-index-preserved c = record {
  same = erased_at c.args.unread c.loop-index.left c.args.parts.now c.loop-index.index (tiff_part 0) c.loop-index.file c.erase_next.new.file c.in_ok-left.left c.loop-index-test.true c.in_ok-left.ensures.value ∙ c.loop-index.invariant.same;
  others = both_stay c.args.parts.now c.args.file.now c.loop-index.file c.erase_next.new.file c.loop-index.invariant.others (next_stays c.loop-index.index c.args.parts.now c.loop-index.file c.erase_next.new.file c.erase_next.ensures.others);
}

pub returns-in_err-left-clause-others : goal.returns-in_err-left-clause-others
returns-in_err-left-clause-others c =
    both_stay c.args.parts.now c.args.file.now c.loop-index.file c.erase_next.new.file c.loop-index.invariant.others
    (next_stays c.loop-index.index c.args.parts.now c.loop-index.file c.erase_next.new.file c.erase_next.ensures.others)
