use Rattle.std.proofs.Common.{ap, sym, ◌∙◌}
use Rattle.std.specs.Option.{option_map}
use Rattle.exif_inventory_heif.specs.Extents.{entries_in, entry_step, read_view}
use Rattle.exif_inventory_heif.proofs.LoopSteps.{step_on, step_fails, steps_over}
use Rattle.exif_inventory_heif.proofs.extents.entries_in.Goals as goal

pub returns-in_default : goal.returns-in_default
unfolding entries_in
returns-in_default c =
    ap (option_map (λ s. s.1)) (sym (step_fails (entry_step c.args.w c.args.items.now c.args.room) c.args.count c.loop.counter (read_view c.loop.so_far) c.loop-test.true (ap (option_map read_view) (sym c.in_default.is) ∙ c.in_ok-read.ensures)) ∙ c.loop.invariant)

pub loop-preserved : goal.loop-preserved
loop-preserved c =
    sym (step_on (entry_step c.args.w c.args.items.now c.args.room) c.args.count c.loop.counter (read_view c.loop.so_far) (read_view c.in-Some.read) c.loop-test.true (ap (option_map read_view) (sym c.in-Some.is) ∙ c.in_ok-read.ensures)) ∙ c.loop.invariant

pub returns : goal.returns
unfolding entries_in
returns c =
    ap (option_map (λ s. s.1)) (sym (steps_over (entry_step c.args.w c.args.items.now c.args.room) c.args.count c.loop.counter (read_view c.loop.so_far) c.loop-test.false) ∙ c.loop.invariant)
