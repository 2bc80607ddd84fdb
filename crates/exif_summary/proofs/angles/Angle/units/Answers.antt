use Rattle.std.proofs.Common.{arith}
use Rattle.exif_summary.specs.Coordinates.{units_of}
use Rattle.exif_summary.proofs.Rounding.{units_by_parts, units_small}
use Rattle.exif_summary.proofs.angles.Angle.units.Goals as goal

pub overflow_cast-result : goal.overflow_cast-result
overflow_cast-result c = omega (arith, units_small c.args.self.over c.args.self.under c.requires.0 c.requires.2)

pub returns : goal.returns
unfolding units_of
returns c = units_by_parts c.args.self.over c.args.self.under c.requires.0
