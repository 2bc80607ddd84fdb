use Rattle.std.proofs.Common.{sym, ◌∙◌}
use Rattle.std.proofs.lemmas.Result.{err_from_is_err_and}
use Rattle.exif_isobmff.specs.Entries.{entry_at}
use Rattle.exif_isobmff.proofs.LocationsTimes.{last_failed, last_done}
use Rattle.exif_isobmff.proofs.EntryTimes.{entry_went_on}
use Rattle.exif_isobmff.proofs.entries.last_entry.Goals as goal

pub returns-in_err-entry-clause-gives : goal.returns-in_err-entry-clause-gives
returns-in_err-entry-clause-gives c =
    let p = err_from_is_err_and c.from_residual.result c.from_residual.ensures.1 in
    rw (p.1, p.2, ← c.loop.invariant) (last_failed c.in_err-entry.field-0.0 (entry_at c.args.wanted c.args.version c.args.sizes) c.loop.last c.args.count c.loop.counter c.loop.body c.loop-test.true c.in_err-entry.ensures.gives)

pub loop-preserved : goal.loop-preserved
loop-preserved c =
    rw c.or-last.ensures (entry_went_on (entry_at c.args.wanted c.args.version c.args.sizes) c.loop.last c.in_ok-entry.entry c.args.count c.loop.counter c.loop.body c.next_entry.new.body _ c.loop-test.true c.in_ok-entry.ensures.gives c.loop.invariant)

pub returns-clause-gives : goal.returns-clause-gives
returns-clause-gives c = sym c.loop.invariant ∙ last_done (entry_at c.args.wanted c.args.version c.args.sizes) c.loop.last c.args.count c.loop.counter c.loop.body c.loop-test.false
