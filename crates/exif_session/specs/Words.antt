-- What a summary calls what was done, and notes on a change.
use Rattle.std.specs.Prelude.{ℕ, ◌==◌, List, [], ◌++◌, Bool, true, false, codes, if◌then◌else◌}
use Rattle.std.specs.Fmt.{decimal}
use Rattle.exif_change.specs.declared.notes.Note.{Note}
use Rattle.exif_change.specs.declared.notes.Note.TheVariants as note
use Rattle.exif_session.specs.declared.request.Task.{Task}
use Rattle.exif_session.specs.declared.request.Task.TheVariants as task

-- what is done with files that get other names, by whether the run is dry and whether they are copied
abbrev pub renamed_as : Bool → Bool → List ℕ
renamed_as true copy = codes "planned"
renamed_as false true = codes "copied"
renamed_as false false = codes "renamed"

-- what a task does with files
abbrev pub verb_of : Task → List ℕ
verb_of (task.Show reading) = codes "read"
verb_of (task.Json reading tags) = codes "read"
verb_of (task.Table table) = codes "read"
verb_of (task.Check form strict) = codes "read"
verb_of (task.Change change target) = codes "changed"
verb_of (task.Summary reading) = codes "read"
verb_of (task.Thumbnail path force) = codes "read"
verb_of (task.Thumbnails path force) = codes "read"
verb_of (task.Rename renaming) = renamed_as renaming.dry_run renaming.copy
verb_of (task.Undo dry_run) = codes "undone"
verb_of (task.Touch zone) = codes "touched"
verb_of (task.Geotag geotagging) = codes "changed"
verb_of (task.Copy copying) = codes "changed"
verb_of (task.Catalog cataloguing) = codes "read"

-- what it says of files with which not all was done
abbrev pub partial_of : Task → List ℕ
partial_of (task.Check form strict) = codes "with findings"
partial_of (task.Show reading) = codes "not completely"
partial_of (task.Json reading tags) = codes "not completely"
partial_of (task.Table table) = codes "not completely"
partial_of (task.Change change target) = codes "not completely"
partial_of (task.Summary reading) = codes "not completely"
partial_of (task.Thumbnail path force) = codes "not completely"
partial_of (task.Thumbnails path force) = codes "not completely"
partial_of (task.Rename renaming) = codes "not completely"
partial_of (task.Undo dry_run) = codes "not completely"
partial_of (task.Touch zone) = codes "not completely"
partial_of (task.Geotag geotagging) = codes "not completely"
partial_of (task.Copy copying) = codes "not completely"
partial_of (task.Catalog cataloguing) = codes "not completely"

-- how many pictures were removed behind the first one
abbrev pub pictures_text : ℕ → List ℕ
pictures_text count =
    if count == 1 then codes "the picture behind the first one was removed" else
    decimal count ++ codes " pictures behind the first one were removed"

-- the notes that are written, by whether the run is quiet
abbrev pub said_notes : Bool → List Note → List Note
said_notes true notes = []
said_notes false notes = notes

-- what the user is to know of a change
abbrev pub note_text : Note → List ℕ
note_text note.ColorProfile = codes "the colour profile stays; --strip-color removes it"
note_text note.FormatProfile = codes "the colour profile stays: files of this format keep it"
note_text (note.Pictures count) = pictures_text count
note_text note.Orientation =
    codes "its orientation is removed, so it may lie on its side; --keep-orientation keeps it"
note_text note.OwnRotation =
    codes "the rotation that is stored with the picture stays; the orientation of Exif does not"
