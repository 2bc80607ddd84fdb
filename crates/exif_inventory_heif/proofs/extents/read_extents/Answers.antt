use Rattle.std.proofs.Common.{ap, sym, ◌∙◌}
use Rattle.std.specs.Option.{option_map}
use Rattle.exif_inventory_heif.specs.Extents.{extent_step, read_view}
use Rattle.exif_inventory_heif.proofs.LoopSteps.{step_on, step_fails, steps_over}
use Rattle.exif_inventory_heif.proofs.extents.read_extents.Goals as goal

pub returns-in_default : goal.returns-in_default
returns-in_default c =
    sym (step_fails (extent_step c.args.w c.args.source c.args.base c.args.kind) c.args.count c.loop.counter (read_view c.loop.so_far) c.loop-test.true (ap (option_map read_view) (sym c.in_default.is) ∙ c.in_ok-read.ensures)) ∙ c.loop.invariant

pub loop-preserved : goal.loop-preserved
loop-preserved c =
    sym (step_on (extent_step c.args.w c.args.source c.args.base c.args.kind) c.args.count c.loop.counter (read_view c.loop.so_far) (read_view c.in-Some.read) c.loop-test.true (ap (option_map read_view) (sym c.in-Some.is) ∙ c.in_ok-read.ensures)) ∙ c.loop.invariant

pub returns : goal.returns
returns c =
    sym (steps_over (extent_step c.args.w c.args.source c.args.base c.args.kind) c.args.count c.loop.counter (read_view c.loop.so_far) c.loop-test.false) ∙ c.loop.invariant
