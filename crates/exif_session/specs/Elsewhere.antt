-- Where what was removed from files still is, or is said still, in words.
use Rattle.std.specs.Prelude.{ℕ, ◌==◌, ◌&&◌, Bool, true, false, List, [], ◌∷◌, ◌++◌, codes, if◌then◌else◌}
use Rattle.std.specs.Fmt.{decimal}
use Rattle.exif_change.specs.declared.scrubbing.Removed.TheVariants as removed
use Rattle.exif_files.specs.declared.changing.Keeping.{Keeping}
use Rattle.exif_session.specs.declared.elsewhere.Elsewhere as it
use Rattle.exif_session.specs.declared.elsewhere.Elsewhere.TheVariants.{Backups, Links, Names, Times}
use Rattle.exif_session.specs.declared.request.Change as request
use Rattle.exif_session.specs.declared.request.Change.TheVariants as change

-- how many they are
abbrev pub elsewhere_count : it.Elsewhere → ℕ
elsewhere_count (Backups count) = count
elsewhere_count (Links count) = count
elsewhere_count (Names count) = count
elsewhere_count (Times count) = count

-- so many backups
abbrev pub backups_text : ℕ → List ℕ
backups_text count =
    if count == 1 then codes "1 backup (.orig) holds what was removed" else
    decimal count ++ codes " backups (.orig) hold what was removed"

-- so many files with other names
abbrev pub links_text : ℕ → List ℕ
links_text count =
    if count == 1
    then codes "1 file has another name (a hard link), under which what was removed stays"
    else decimal count
    ++ codes " files have other names (hard links), under which what was removed stays"

-- so many files whose names say a day
abbrev pub names_text : ℕ → List ℕ
names_text count =
    if count == 1 then codes "1 file has a date in its name, which stays" else
    decimal count ++ codes " files have a date in their names, which stay"

-- so many files that keep their times
abbrev pub times_text : ℕ → List ℕ
times_text count =
    if count == 1
    then codes "1 file keeps its time of modification (--keep-time), which may say when it was taken"
    else decimal count ++ codes
    " files keep their times of modification (--keep-time), which may say when they were taken"

abbrev pub elsewhere_text : it.Elsewhere → List ℕ
elsewhere_text (Backups count) = backups_text count
elsewhere_text (Links count) = links_text count
elsewhere_text (Names count) = names_text count
elsewhere_text (Times count) = times_text count

-- so many, if something holds of them
abbrev pub count_if : Bool → ℕ → ℕ
count_if true count = count
count_if false count = 0

-- whether a change removes metadata
abbrev pub removes : request.Change → Bool
removes (change.Scrub what color) = true
removes other = false

-- whether it removes all of them, and not locations alone
abbrev pub removes_all : request.Change → Bool
removes_all (change.Scrub (removed.Gps unread) color) = false
removes_all (change.Scrub what color) = true
removes_all other = false

-- where what a change has removed is: in backups, if old files are kept, and under other names; and
-- what says a day still, where that was to go
abbrev pub removed_elsewhere : request.Change → Keeping → ℕ → ℕ → ℕ → List it.Elsewhere
removed_elsewhere asked keeping changed linked dated =
    Backups (count_if (removes asked && keeping.backup) changed)
    ∷ Links (count_if (removes asked) linked) ∷ Names (count_if (removes_all asked) dated)
    ∷ Times (count_if (removes_all asked && keeping.times) changed) ∷ []
