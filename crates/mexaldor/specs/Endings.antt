-- How the program ends.
use Rattle.std.specs.Prelude.{ℕ, Bool, true, false, if◌then◌else◌, Result, Ok, Err}
use Rattle.std.specs.IoError.{error_kind}
use Rattle.std.specs.declared.io.Error as io
use Rattle.std.specs.declared.io.ErrorKind.{ErrorKind}
use Rattle.std.specs.declared.io.ErrorKind.TheVariants.{BrokenPipe}
use Rattle.exif_session.specs.declared.request.Cataloguing.{Cataloguing}
use Rattle.exif_session.specs.declared.request.Task.{Task}
use Rattle.exif_session.specs.declared.request.Task.TheVariants.{Catalog, Rename, Undo}
use Rattle.mexaldor.specs.declared.ending.TaskRun.{TaskRun}
use Rattle.mexaldor.specs.declared.ending.TaskRun.TheVariants as run
use Rattle.exif_session.specs.declared.session.Stop.{Stop}
use Rattle.exif_session.specs.declared.session.Stop.TheVariants as stop

-- The status after a message about wrong words, whether or not it could be written; after the help,
-- or why it was not written.
abbrev pub shown_status : Bool → Result (Unit {0}) io.Error → Result ℕ Stop
shown_status true written = Ok 2
shown_status false (Ok done) = Ok 0
shown_status false (Err cause) = Err (stop.Output cause)

abbrev pub is_broken_pipe : ErrorKind → Bool
is_broken_pipe BrokenPipe = true
is_broken_pipe _ = false

-- whether nothing reads the output any more
abbrev pub is_closed : Stop → Bool
is_closed (stop.Output cause) = is_broken_pipe (error_kind cause)
is_closed (stop.Input cause) = false
is_closed stop.OutOfMemory = false

-- the status of a run that ended early
abbrev pub stop_status : Stop → ℕ
stop_status why = if is_closed why then 0 else 1

-- the status of a run
abbrev pub end_status : Result ℕ Stop → ℕ
end_status (Ok status) = status
end_status (Err why) = stop_status why

-- which run a task has: a catalogue is brought up to date, files get other names or their old ones
-- back, or one file is processed after the other
pub data TheRun : Type 0 where
  the_catalog_run : Cataloguing → TheRun
  the_rename_run : TheRun
  the_file_run : TheRun

abbrev pub run_seen : TaskRun → TheRun
run_seen (run.Catalog cataloguing) = the_catalog_run cataloguing.now
run_seen run.Renames = the_rename_run
run_seen run.Files = the_file_run

abbrev pub run_for : Task → TheRun
run_for (Catalog cataloguing) = the_catalog_run cataloguing
run_for (Rename renaming) = the_rename_run
run_for (Undo dry_run) = the_rename_run
run_for _ = the_file_run
