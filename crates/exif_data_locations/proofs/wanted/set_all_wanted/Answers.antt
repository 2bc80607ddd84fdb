use Rattle.std.proofs.Common.{sym, ◌∙◌, arith}
use Rattle.exif_base.specs.Orders.{number_of}
use Rattle.exif_data_locations.proofs.FieldSteps.{wanted_over}
use Rattle.exif_data_locations.proofs.wanted.set_all_wanted.Goals as goal

pub returns : goal.returns
returns c =
    sym (wanted_over (number_of c.args.order) c.args.old.now c.args.new.now c.args.entries.now
    c.loop-i.fields c.loop-i.i (omega (arith, c.loop-i.invariant.1, c.min-i-end.ensures)))
    ∙ c.loop-i.invariant.0
