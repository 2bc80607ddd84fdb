-- Command lines that ask for nothing.
use Rattle.std.specs.Prelude.{ℕ, ◌==◌, ◌&&◌, not, Bool, true, false, if◌then◌else◌, List, codes, length, Option, None, Some, Result, Ok, Err}
use Rattle.std.specs.Borrow.{Bor}
use Rattle.std.specs.List.{list_any}
use Rattle.std.specs.Str.{bytes_eq}
use Rattle.exif_decisions.specs.declared.mistake.Aim.{Aim}
use Rattle.exif_decisions.specs.declared.mistake.Aim.TheVariants.{Each, Out}
use Rattle.exif_decisions.specs.declared.mistake.Fact.{Fact}
use Rattle.exif_decisions.specs.declared.mistake.Fact.TheVariants.{Date, Location}
use Rattle.exif_decisions.specs.declared.mistake.Mistake.{Mistake}
use Rattle.exif_decisions.specs.declared.mistake.Mistake.TheVariants.{NoFile, ConditionOnInput, UnknownFact, ChangesOfMany, NoTarget, ThumbnailsOfMany, NoThumbnail, NoPattern, UndoAndMore, BlankAlone, NoAssignment}

-- what a message says of a mistake
abbrev pub mistake_text : Mistake → List ℕ
mistake_text NoFile = codes "expected a file"
mistake_text ConditionOnInput = codes "no condition can be put on standard input"
mistake_text UnknownFact = codes "expected date or location after --where or --without"
mistake_text ChangesOfMany = codes "--recursive, --null and conditions require --in-place"
mistake_text NoTarget = codes "expected FILE OUT, or --in-place FILE..."
mistake_text ThumbnailsOfMany = codes "--recursive, --null and conditions require --into"
mistake_text NoThumbnail = codes "expected FILE OUT, or --into FOLDER PATH..."
mistake_text NoPattern = codes "expected PATTERN PATH..., or --undo FILE"
mistake_text UndoAndMore = codes "--undo FILE takes no other argument but --dry-run and --quiet"
mistake_text BlankAlone = codes "--force-blank requires --locations-only"
mistake_text NoAssignment = codes "expected TAG=VALUE, such as Orientation=6"

-- one file and the new one, or a mistake
abbrev pub out_of_two : ℕ → Mistake → Result Aim Mistake
out_of_two words mistake = if words == 2 then Ok Out else Err mistake

-- Files are changed in place, or else one file becomes a new one.
abbrev pub change_aim : Bool → Bool → ℕ → Result Aim Mistake
change_aim true many words = Ok Each
change_aim false true words = Err ChangesOfMany
change_aim false false words = out_of_two words NoTarget

-- Thumbnails are written into a folder, or else that of one file into a new one.
abbrev pub thumbnail_aim : Bool → Bool → ℕ → Result Aim Mistake
thumbnail_aim true many words = Ok Each
thumbnail_aim false true words = Err ThumbnailsOfMany
thumbnail_aim false false words = out_of_two words NoThumbnail

abbrev pub is_given : List Bool → Bool
is_given flags = list_any (λ flag. flag) flags

-- A run is taken back alone.
abbrev pub undo_mistake : List Bool → Option Mistake
undo_mistake others = if is_given others then Some UndoAndMore else None

-- `-` stands for standard input (POSIX.1-2017, Base Definitions, 12.2, Guideline 13)
abbrev pub names_input : List (Bor (List ℕ)) → Bool
names_input paths = list_any (λ path. bytes_eq path.now (codes "-")) paths

-- Standard input is read once: whether it meets a condition can't be looked at before.
abbrev pub files_mistake : List (Bor (List ℕ)) → Bool → Bool → Option Mistake
files_mistake paths from_input on_condition =
    if length paths == 0 && not from_input then Some NoFile else
    if on_condition && names_input paths then Some ConditionOnInput else None

-- the fact of a name
abbrev pub fact_named : List ℕ → Result Fact Mistake
fact_named name =
    if bytes_eq name (codes "date") then Ok Date else
    if bytes_eq name (codes "location") then Ok Location else Err UnknownFact
