-- The code's angles as the definitions have them.
use Rattle.exif_summary.specs.Coordinates as P
use Rattle.exif_summary.specs.declared.angles.Angle.{Angle}
use Rattle.exif_summary.specs.declared.angles.Axis.{Axis}
use Rattle.exif_summary.specs.declared.angles.Degrees.{Degrees}

-- the code's angle, a fraction of degrees, as the definitions have it
abbrev pub angle_view : Angle → P.Angle
angle_view a = record { over = a.over; under = a.under }

-- the code's axis, with its tags, letters and range, as the definitions have it
abbrev pub axis_view : Axis → P.Axis
axis_view a = record {
  value = a.value;
  reference = a.reference;
  positive = a.positive;
  negative = a.negative;
  most = a.most;
}

-- the code's coordinate, its half and its units, as the definitions have it
abbrev pub degrees_view : Degrees → P.Degrees
degrees_view d = record { negative = d.negative; units = d.units }
