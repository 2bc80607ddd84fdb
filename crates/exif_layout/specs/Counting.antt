-- How many entries the directories of a group have, counted without sorting them.
use Rattle.std.specs.Prelude.{ℕ, zero, suc, ◌+◌, ◌*◌, length, Option, Some, None}
use Rattle.exif_table.specs.declared.context.Context.{Context}
use Rattle.exif_table.specs.declared.context.Context.TheVariants.{Tiff, Exif, Gps, Interop}
use Rattle.exif_layout.specs.Groups.{Group}

-- the entries of blocks: two where they are set
abbrev pub set_count : {X : Type 0} → Option X → ℕ
set_count None = 0
set_count (Some blocks) = 2

-- the pointer to a child with so many entries
abbrev pub pointer_count : ℕ → ℕ
pointer_count zero = 0
pointer_count (suc n) = 1

-- how many entries the Interop directory has: the pushed ones
abbrev pub interop_count : Group → ℕ
interop_count group = length group.interop

-- how many entries the Gps directory has: the pushed ones
abbrev pub gps_count : Group → ℕ
gps_count group = length group.gps

-- how many entries the Exif directory has: the pushed ones, and any pointer to Interop
abbrev pub exif_count : Group → ℕ
exif_count group = length group.exif + pointer_count (interop_count group)

-- how many entries the chain's directory has: pushed ones, the blocks', and any pointers
abbrev pub tiff_count : Group → ℕ
tiff_count group =
    length group.tiff + set_count group.strips + set_count group.tiles + set_count group.jpeg
    + pointer_count (exif_count group) + pointer_count (gps_count group)

-- how many entries the directory of a context has
abbrev pub entry_count : Group → Context → ℕ
entry_count group Tiff = tiff_count group
entry_count group Exif = exif_count group
entry_count group Gps = gps_count group
entry_count group Interop = interop_count group

-- the length of a directory of so many entries; one with none isn't there
abbrev pub counted_len : ℕ → ℕ
counted_len zero = 0
counted_len (suc n) = 6 + 12 * suc n
