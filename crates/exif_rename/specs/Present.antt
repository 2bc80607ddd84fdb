-- Files that have their new names already, or whose bytes have them.
use Rattle.std.specs.Prelude.{List, Bool, true, false, ◌&&◌, ◌||◌, not}
use Rattle.std.specs.List.{list_all, list_any}
use Rattle.exif_rename.specs.declared.present.Held.{Held}
use Rattle.exif_rename.specs.declared.present.Held.TheVariants.{Itself, Other}
use Rattle.exif_rename.specs.declared.present.Presence.{Presence}

abbrev pub is_main : Presence → Bool
is_main file = not file.is_sidecar

abbrev pub is_there : Presence → Bool
is_there file = file.is_sidecar || file.is_same

-- there is a file that is no sidecar, and each such file is there
abbrev pub all_there : List Presence → Bool
all_there files = list_any is_main files && list_all is_there files

-- ---- moves that were cut off

-- a file that has its new path besides its old one
abbrev pub is_itself : Held → Bool
is_itself Itself = true
is_itself held = false

-- a path that no other file has
abbrev pub is_not_other : Held → Bool
is_not_other Other = false
is_not_other held = true

-- one has its new path, and no other file has one of them
abbrev pub begun : List Held → Bool
begun files = list_any is_itself files && list_all is_not_other files
