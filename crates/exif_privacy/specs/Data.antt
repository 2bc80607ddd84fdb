-- The data of a part in a file.
use Rattle.std.specs.Prelude.{ℕ, ◌+◌, List, ◌++◌, take, drop}
use Rattle.exif_inventory.specs.declared.part.Part.{Part}

-- the data of a part in a file
abbrev pub data_of : Part → List ℕ → List ℕ
data_of part file = take part.data_len (drop part.data_offset file)

-- a file with other data in a part
abbrev pub with_data : Part → List ℕ → List ℕ → List ℕ
with_data part new file =
    take part.data_offset file ++ (new ++ drop (part.data_offset + part.data_len) file)
