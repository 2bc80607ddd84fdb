-- What is changed in the Exif data of a picture.
use Rattle.std.specs.Prelude.{List}
use Rattle.exif_assign.specs.declared.assignment.Assignment.{Assignment}
use Rattle.exif_datetime.specs.declared.shift.ClockShift.{ClockShift}
use Rattle.exif_types.specs.declared.field.Field.{Field}
use Rattle.exif_setting.specs.declared.dates.Dates.{Dates}
use Rattle.exif_setting.specs.declared.contained.DataEdit.{DataEdit}
use Rattle.exif_setting.specs.declared.contained.DataEdit.TheVariants.{Values, Fields, Shift}

-- values are set, which texts spell; fields are set; dates are moved
pub data Edit : Type 0 where
  the_values : List Assignment → Edit
  the_fields : List Field → Edit
  the_shift : ClockShift → Dates → Edit

-- the change that code stands for
abbrev pub edit_of : DataEdit → Edit
edit_of (Values assignments) = the_values assignments.now
edit_of (Fields all) = the_fields all.now
edit_of (Shift by dates) = the_shift by dates
