use Rattle.std.proofs.Common.{◌∙◌}
use Rattle.exif_page.proofs.EntrySteps.{none_left, one_more}
use Rattle.exif_page.proofs.pages.push_entries.Goals as goal

pub loop-entry-preserved : goal.loop-entry-preserved
loop-entry-preserved c =
    rw (c.in_ok-push_entry.ensures, c.section_of-before.ensures)
    (one_more _ _ _ _ _ c.loop-entry-test.true ∙ c.loop-entry.invariant)

pub returns : goal.returns
returns c =
    c.in_ok-push_foot.ensures ∙ none_left _ _ _ _ c.loop-entry-test.false
    ∙ c.loop-entry.invariant
