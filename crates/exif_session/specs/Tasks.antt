-- What a task requires of a file, and what it does with files.
use Rattle.std.specs.Prelude.{Bool, true, false, not}
use Rattle.exif_inputs.specs.declared.inputs.Use.{Use}
use Rattle.exif_inputs.specs.declared.inputs.Use.TheVariants.{Fields, Parts}
use Rattle.exif_session.specs.declared.request.Target.{Target}
use Rattle.exif_session.specs.declared.request.Target.TheVariants.{InPlace, Out}
use Rattle.exif_session.specs.declared.request.Task.{Task}
use Rattle.exif_session.specs.declared.request.Task.TheVariants as task

-- what a task requires of a picture: changes and checks need its parts
abbrev pub use_for : Task → Use
use_for (task.Check form strict) = Parts
use_for (task.Change change target) = Parts
use_for (task.Geotag geotagging) = Parts
use_for (task.Copy copying) = Parts
use_for t = Fields

-- whether files that are not read get new names with the pictures beside them
abbrev pub takes_companions : Task → Bool
takes_companions (task.Rename renaming) = true
takes_companions t = false

-- whether files of a target are replaced
abbrev pub replaces : Target → Bool
replaces (InPlace keeping) = true
replaces (Out path force) = false

-- whether a task changes the files that are found
abbrev pub changes : Task → Bool
changes (task.Change change target) = replaces target
changes (task.Rename renaming) = not renaming.dry_run
changes (task.Undo dry_run) = not dry_run
changes (task.Touch zone) = true
changes (task.Geotag geotagging) = true
changes (task.Copy copying) = true
changes t = false

-- whether a task changes the metadata of files as requested of each
abbrev pub is_change : Task → Bool
is_change (task.Change change target) = true
is_change t = false
