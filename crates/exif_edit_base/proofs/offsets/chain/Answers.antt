use Rattle.std.proofs.Common.{sym, ◌∙◌, ◌-◌}
use Rattle.exif_base.specs.Orders.{number_of}
use Rattle.exif_edit_base.proofs.OffsetSteps.{chain_ends, chain_on, chain_stops}
use Rattle.exif_edit_base.proofs.offsets.chain.Goals as goal

pub returns-then-not-is_new : goal.returns-then-not-is_new
returns-then-not-is_new c =
    let new = rw c.as_slice.ensures.value at c.is_new.ensures in
    sym (chain_stops (1000 - c.loop.counter) (number_of c.args.order) c.args.bytes.now
    c.loop.found.items c.loop.offset (sym new ∙ c.if-not-is_new.true))
    ∙ c.loop.invariant

pub loop-preserved : goal.loop-preserved
loop-preserved c =
    let new = rw c.as_slice.ensures.value at c.is_new.ensures in
    chain_on 1000 c.loop.counter (number_of c.args.order) c.args.bytes.now c.loop.found.items
    c.push.new.self.items _ c.loop.offset c.next_offset-offset.result c.loop-test.true
    (sym new ∙ c.if-not-is_new.false) c.in_ok-push.ensures.items c.next_offset-offset.ensures
    c.loop.invariant

pub returns : goal.returns
returns c =
    chain_ends 1000 c.loop.counter (number_of c.args.order) c.args.bytes.now c.loop.found.items _
    c.loop.offset c.loop-test.false c.loop.invariant
