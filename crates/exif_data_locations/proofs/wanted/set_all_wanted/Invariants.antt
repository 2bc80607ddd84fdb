use Rattle.std.proofs.Common.{◌≡◌, ◌++◌, length, take, drop}
use Rattle.exif_base.specs.Orders.{number_of}
use Rattle.exif_data_locations.specs.Wanted.{wanted_fields}
use Rattle.exif_data_locations.proofs.wanted.set_all_wanted.Given as goal

-- the fields so far, and those that are left as they must be read
abbrev pub invariant-loop-i : goal.invariant-loop-i
invariant-loop-i l =
    (take l.i l.fields
    ++ wanted_fields (number_of l.order) l.old l.new (drop l.i l.entries) (drop l.i l.fields)
    ≡ wanted_fields (number_of l.order) l.old l.new l.entries l.fn.fields)
    × (length l.fields ≡ length l.fn.fields)
