-- What is done with each file, by what is requested, and the status of a run.
use Rattle.std.specs.Prelude.{Bool, true, false}
use Rattle.exif_session.specs.declared.request.Target.TheVariants.{InPlace, Out}
use Rattle.exif_session.specs.declared.request.Task.{Task}
use Rattle.exif_session.specs.declared.request.Task.TheVariants as task

-- whether a task goes through all files, each on its own
abbrev pub goes_through : Task → Bool
goes_through (task.Change change (InPlace keeping)) = false
goes_through (task.Rename renaming) = false
goes_through (task.Undo dry_run) = false
goes_through (task.Geotag geotagging) = false
goes_through (task.Copy copying) = false
goes_through t = true

-- whether a task is not done file by file, but with all files in view, or in another crate
abbrev pub is_done_elsewhere : Task → Bool
is_done_elsewhere (task.Change change (InPlace keeping)) = true
is_done_elsewhere (task.Thumbnails folder force) = true
is_done_elsewhere (task.Rename renaming) = true
is_done_elsewhere (task.Undo dry_run) = true
is_done_elsewhere (task.Geotag geotagging) = true
is_done_elsewhere (task.Copy copying) = true
is_done_elsewhere (task.Catalog cataloguing) = true
is_done_elsewhere t = false

-- whether a task writes the changed file to another one
abbrev pub makes_files : Task → Bool
makes_files (task.Change change (Out path force)) = true
makes_files t = false
