-- The parts of a file that hold an XMP packet or a colour profile of its first picture.
use Rattle.std.specs.Prelude.{ℕ, List, [], ◌∷◌, take, drop, ◌==◌, ◌&&◌, Bool, true, false, Option, None, Some, if◌then◌else◌}
use Rattle.exif_inventory.specs.declared.kind.Kind.{Kind}
use Rattle.exif_inventory.specs.declared.kind.Kind.TheVariants as kind
use Rattle.exif_inventory.specs.declared.part.Part.{Part}
use Rattle.exif_blocks.specs.declared.blocks.Block.{Block}
use Rattle.exif_blocks.specs.declared.blocks.Block.TheVariants as block

-- the bytes from an offset on, so many if there are
abbrev pub slice : ℕ → ℕ → List ℕ → List ℕ
slice offset len bytes = take len (drop offset bytes)

-- what a part of a file holds, behind its header
abbrev pub data_of : Part → List ℕ → List ℕ
data_of part file = slice part.data_offset part.data_len file

-- the bytes of a part
abbrev pub bytes_of : Part → List ℕ → List ℕ
bytes_of part file = slice part.offset part.len file

-- whether parts of a kind hold such a block
abbrev pub is_of : Block → Kind → Bool
is_of block.Xmp kind.Xmp = true
is_of block.Profile kind.IccProfile = true
is_of _ _ = false

-- whether a part holds such a block of the first picture
abbrev pub holds : Block → Part → Bool
holds block part = (part.picture == 0) && is_of block part.kind

-- a long XMP packet goes on in further segments
abbrev pub is_extended : Kind → Bool
is_extended kind.ExtendedXmp = true
is_extended k = false

-- those of the first picture
abbrev pub is_extension : Part → Bool
is_extension part = (part.picture == 0) && is_extended part.kind

-- the data of the first part that holds such a block
abbrev pub first_data : Block → List Part → List ℕ → Option (List ℕ)
first_data block [] file = None
first_data block (part ∷ parts) file =
    if holds block part then Some (data_of part file) else first_data block parts file

-- the bytes of a part that goes on with a packet
abbrev pub if_extension : Part → List ℕ → List ℕ
if_extension part file = if is_extension part then bytes_of part file else []
