-- What a walk has found.
use Rattle.std.specs.Prelude.{◌≡◌, ℕ, List, map}
use Rattle.exif_tiff.specs.Noted.{Noted}
use Rattle.exif_tiff.specs.Trace.{Node, directories_of, located_of}
use Rattle.exif_tiff.specs.declared.offset.DirectoryOffset.{DirectoryOffset}
use Rattle.exif_tiff.specs.declared.offset.EntryOffset.{EntryOffset}
use Rattle.exif_edit_base.specs.Locations.{directory_offsets, gps_of, visited_gps, located}
pub use Rattle.exif_tiff.specs.Trace.{entry_of}

-- the offsets of entries, of GPS directories, and of all directories
pub record Walked : Type 0 where
  pub entries : List EntryOffset
  pub gps : List ℕ
  pub directories : List DirectoryOffset

-- a walk has found the offsets of the data
pub record Finds (bytes : List ℕ) (w : Walked) : Type 0 where
  pub entries : w.entries ≡ map entry_of (located bytes)
  pub gps : w.gps ≡ visited_gps bytes
  pub directories : w.directories ≡ directory_offsets bytes

-- a walk has the offsets that were noted, and those of GPS directories among them
pub record IsWalkOf (noted : Noted) (w : Walked) : Type 0 where
  pub entries : w.entries ≡ noted.entries
  pub gps : w.gps ≡ gps_of noted.directories
  pub directories : w.directories ≡ noted.directories

-- a walk has the offsets of a trace
pub record WalksTo (nodes : List Node) (w : Walked) : Type 0 where
  pub entries : w.entries ≡ map entry_of (located_of nodes)
  pub gps : w.gps ≡ gps_of (directories_of nodes)
  pub directories : w.directories ≡ directories_of nodes
