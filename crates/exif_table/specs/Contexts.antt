-- The kinds of directories: their names and their order.
use Rattle.std.specs.Prelude.{ℕ, List, codes}
use Rattle.std.specs.declared.cmp.Ordering.{Ordering}
use Rattle.std.specs.Ordering.{nat_cmp}
use Rattle.exif_table.specs.declared.context.Context.{Context}
use Rattle.exif_table.specs.declared.context.Context.TheVariants.{Tiff, Exif, Gps, Interop}

-- the name of a context
abbrev pub context_name : Context → List ℕ
context_name Tiff = codes "Tiff"
context_name Exif = codes "Exif"
context_name Gps = codes "Gps"
context_name Interop = codes "Interop"

-- the position of a context in the order of contexts
abbrev pub context_rank : Context → ℕ
context_rank Tiff = 0
context_rank Exif = 1
context_rank Gps = 2
context_rank Interop = 3

-- contexts by their positions: Tiff, Exif, Gps, Interop
abbrev pub context_order : Context → Context → Ordering
context_order a b = nat_cmp (context_rank a) (context_rank b)
