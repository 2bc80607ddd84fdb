use Rattle.std.proofs.Common.{◌≡◌, ◌++◌, length, map, take, drop}
use Rattle.exif_formats.specs.Pictures.{field_in}
use Rattle.exif_formats.proofs.cr3.put_all_in.Given as goal

-- the fields so far, and those that are left in the context
abbrev pub invariant-loop-i : goal.invariant-loop-i
invariant-loop-i l =
    (take l.i l.fields ++ map (field_in l.context) (drop l.i l.fields) ≡ map (field_in l.context) l.fn.fields)
    × (length l.fields ≡ length l.fn.fields)
