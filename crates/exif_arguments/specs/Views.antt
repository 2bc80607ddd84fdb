-- What is asked for, with texts in place of the references to them.
use Rattle.std.specs.Prelude.{ℕ, List, map, Bool, Option, option_map, Result, Ok, Err, String}
use Rattle.std.specs.Global.{Global}
use Rattle.std.specs.String.{string_bytes}
use Rattle.exif_assign.specs.Assigning.{parts_of}
use Rattle.exif_setting.specs.declared.dates.Dates.{Dates}
use Rattle.exif_change.specs.declared.notes.Color.{Color}
use Rattle.exif_change.specs.declared.scrubbing.Removed.{Removed}
use Rattle.exif_columns.specs.declared.cells.Form as cells
use Rattle.exif_columns.specs.declared.rows.Separator.{Separator}
use Rattle.exif_copy.specs.declared.selected.Selection.{Selection}
use Rattle.exif_datetime.specs.declared.shift.ClockShift.{ClockShift}
use Rattle.exif_files.specs.Names.{name_if}
use Rattle.exif_files.specs.declared.changing.Keeping.{Keeping}
use Rattle.exif_rename.specs.Patterns as patterns
use Rattle.exif_rename.specs.declared.dates.DateTag.{DateTag}
use Rattle.exif_rename.specs.declared.pattern.Part.{Part}
use Rattle.exif_session.specs.declared.request.Change.{Change}
use Rattle.exif_session.specs.declared.request.Change.TheVariants.{Scrub, Set, Shift, Copy}
use Rattle.exif_session.specs.declared.request.Form.{Form}
use Rattle.exif_session.specs.declared.request.Reading.{Reading}
use Rattle.exif_session.specs.declared.request.Request.{Request}
use Rattle.exif_session.specs.declared.request.Target.{Target}
use Rattle.exif_session.specs.declared.request.Target.TheVariants.{InPlace, Out}
use Rattle.exif_session.specs.declared.request.Task.{Task}
use Rattle.exif_session.specs.declared.request.Task.TheVariants as task
use Rattle.exif_summary.specs.declared.choice.Choice.{Choice}
use Rattle.exif_types.specs.declared.tag.Tag.{Tag}
use Rattle.exif_arguments.specs.Given.{texts}

-- an answer as it is seen, or the words that say what is wrong
abbrev pub answer_by : {T U : Type 0} → (T → U) → Result T (String Global) → Result U (List ℕ)
answer_by view (Ok value) = Ok (view value)
answer_by view (Err wrong) = Err (string_bytes wrong)

-- which pictures are asked for
pub record TheChoice : Type 0 where
  pub after : Option ℕ
  pub before : Option ℕ
  pub date : Option Bool
  pub location : Option Bool
  pub camera : Option (List ℕ)

abbrev pub choice_seen : Choice → TheChoice
choice_seen choice = record {
  after = choice.after;
  before = choice.before;
  date = choice.date;
  location = choice.location;
  camera = option_map (λ text. text.now) choice.camera;
}

-- how a file is changed
pub data TheChange : Type 0 where
  the_scrub : Removed → Color → TheChange
  the_set : List (Tag × List ℕ) → TheChange
  the_shift : ClockShift → Dates → TheChange
  the_copy : List ℕ → Selection → TheChange

abbrev pub change_seen : Change → TheChange
change_seen (Scrub removed color) = the_scrub removed color
change_seen (Set values) = the_set (map parts_of values.items)
change_seen (Shift by dates) = the_shift by dates
change_seen (Copy bytes selection) = the_copy bytes.items selection

-- where a changed file is written
pub data TheTarget : Type 0 where
  the_out : List ℕ → Bool → TheTarget
  the_place : Keeping → TheTarget

abbrev pub target_seen : Target → TheTarget
target_seen (Out path force) = the_out path.now force
target_seen (InPlace keeping) = the_place keeping

-- the rows of a table
pub record TheTable : Type 0 where
  pub reading : Reading
  pub tags : List Tag
  pub form : cells.Form
  pub separator : Separator
  pub header : Bool

-- how files get other names
pub record TheRenaming : Type 0 where
  pub pattern : List Part
  pub date : Option DateTag
  pub into : Option (List ℕ)
  pub copy : Bool
  pub dry_run : Bool

-- how locations are set by a track
pub record TheGeotagging : Type 0 where
  pub track : List ℕ
  pub zone : List ℕ
  pub max_gap : ℕ
  pub overwrite : Bool
  pub keeping : Keeping

-- which metadata files get
pub record TheCopying : Type 0 where
  pub from : List ℕ
  pub selection : Selection
  pub keeping : Keeping

-- how a catalogue is brought up to date
pub record TheCataloguing : Type 0 where
  pub database : List ℕ
  pub reading : Reading
  pub hash : Bool

-- what is done with each file
pub data TheTask : Type 0 where
  the_show : Reading → TheTask
  the_json : Reading → Option (List Tag) → TheTask
  the_table : TheTable → TheTask
  the_check : Form → Bool → TheTask
  the_change : TheChange → TheTarget → TheTask
  the_summary : Reading → TheTask
  the_thumbnail : List ℕ → Bool → TheTask
  the_thumbnails : List ℕ → Bool → TheTask
  the_rename : TheRenaming → TheTask
  the_undo : Bool → TheTask
  the_touch : List ℕ → TheTask
  the_geotag : TheGeotagging → TheTask
  the_copying : TheCopying → TheTask
  the_catalog : TheCataloguing → TheTask

abbrev pub task_seen : Task → TheTask
task_seen (task.Show reading) = the_show reading
task_seen (task.Json reading tags) = the_json reading (option_map (λ all. all.items) tags)
task_seen (task.Table table) = the_table (record {
  reading = table.reading;
  tags = table.tags.items;
  form = table.form;
  separator = table.separator;
  header = table.header;
})
task_seen (task.Check form strict) = the_check form strict
task_seen (task.Change change target) = the_change (change_seen change) (target_seen target)
task_seen (task.Summary reading) = the_summary reading
task_seen (task.Thumbnail path force) = the_thumbnail path.now force
task_seen (task.Thumbnails path force) = the_thumbnails path.now force
task_seen (task.Rename renaming) = the_rename (record {
  pattern = patterns.parts_of renaming.pattern;
  date = renaming.date;
  into = name_if renaming.into;
  copy = renaming.copy;
  dry_run = renaming.dry_run;
})
task_seen (task.Undo dry_run) = the_undo dry_run
task_seen (task.Touch zone) = the_touch zone.now
task_seen (task.Geotag geotagging) = the_geotag (record {
  track = geotagging.track.now;
  zone = geotagging.zone.now;
  max_gap = geotagging.max_gap;
  overwrite = geotagging.overwrite;
  keeping = geotagging.keeping;
})
task_seen (task.Copy copying) = the_copying (record {
  from = copying.from.now;
  selection = copying.selection;
  keeping = copying.keeping;
})
task_seen (task.Catalog cataloguing) = the_catalog (record {
  database = cataloguing.database.now;
  reading = cataloguing.reading;
  hash = cataloguing.hash;
})

-- all that is asked for
pub record TheRequest : Type 0 where
  pub task : TheTask
  pub paths : List (List ℕ)
  pub names_from_input : Bool
  pub recursive : Bool
  pub quiet : Bool
  pub choice : TheChoice

abbrev pub request_seen : Request → TheRequest
request_seen request = record {
  task = task_seen request.task;
  paths = texts request.paths.items;
  names_from_input = request.names_from_input;
  recursive = request.recursive;
  quiet = request.quiet;
  choice = choice_seen request.choice;
}

abbrev pub answer_seen : Result Request (String Global) → Result TheRequest (List ℕ)
answer_seen answer = answer_by request_seen answer
