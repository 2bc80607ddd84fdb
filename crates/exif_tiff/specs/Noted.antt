-- The offsets that a parser notes.
use Rattle.std.specs.Prelude.{◌≡◌, Bool, List, [], ◌∷◌, ◌++◌, map, if◌then◌else◌}
use Rattle.exif_tiff.specs.declared.offset.DirectoryOffset.{DirectoryOffset}
use Rattle.exif_tiff.specs.declared.offset.EntryOffset.{EntryOffset}
use Rattle.exif_tiff.specs.Trace.{Node, directories_of, entry_of, located_of}

-- whether offsets are requested, and those that were noted
pub record Noted : Type 0 where
  pub asked : Bool
  pub entries : List EntryOffset
  pub directories : List DirectoryOffset

-- one more entry of a field
abbrev pub entry_noted : Noted → EntryOffset → Noted
entry_noted p e = if p.asked then record p { entries = p.entries ++ e ∷ [] } else p

-- one more directory
abbrev pub directory_noted : Noted → DirectoryOffset → Noted
directory_noted p d = if p.asked then record p { directories = p.directories ++ d ∷ [] } else p

-- the offsets are those of the fields and of the directories of a trace, in its order
pub record TellsOffsets (nodes : List Node) (p : Noted) : Type 0 where
  pub entries : p.entries ≡ map entry_of (located_of nodes)
  pub directories : p.directories ≡ directories_of nodes
