-- Why a file was not changed in place, in words.
use Rattle.std.specs.Prelude.{◌≡◌, refl, ℕ, List, ◌++◌, codes, Option, Some, None, option_map}
use lib.Utf8.{encode}
use Rattle.std.specs.Str.{chars}
use Rattle.exif_decisions.specs.Escaping.{escaped_text}
use Rattle.exif_files.specs.Texts.{error_text}
use Rattle.exif_files.specs.declared.changing.Failure.{Failure}
use Rattle.exif_files.specs.declared.changing.Failure.TheVariants as failure
use Rattle.exif_files.specs.declared.failure.WriteError.{WriteError}
use Rattle.exif_files.specs.declared.failure.WriteError.TheVariants as error

-- behind what is said of a file that can't be replaced
abbrev pub replacing_text : WriteError → Option (List ℕ)
replacing_text cause =
    option_map (λ why. codes "cannot replace the file: " ++ why) (error_text cause)

-- why the new file was not written: a backup that is there is named
abbrev pub writing_text : List ℕ → WriteError → Option (List ℕ)
writing_text key error.Taken =
    Some (codes "not changed: the backup " ++ (escaped_text key ++ codes ".orig exists"))
writing_text key (error.Io cause) = replacing_text (error.Io cause)
writing_text key error.OtherDevice = replacing_text error.OtherDevice
writing_text key error.Crowded = replacing_text error.Crowded
writing_text key error.OutOfMemory = replacing_text error.OutOfMemory

-- why a file was not changed; the text of the system's own error is not known
abbrev pub not_changed_text : {R : Type 0} → (R → Option (List ℕ)) → List ℕ → Failure R
    → Option (List ℕ)
not_changed_text refusal_text key (failure.Reading cause) = None
not_changed_text refusal_text key (failure.Refused refusal) = refusal_text refusal
not_changed_text refusal_text key failure.OutOfMemory = Some (codes "out of memory")
not_changed_text refusal_text key (failure.Writing cause) = writing_text key cause

-- ---- by texts that tests/ expect

backup_is_there : writing_text (codes "/pictures/a.jpg") error.Taken
    ≡ Some (codes "not changed: the backup /pictures/a.jpg.orig exists")
unfolding chars encode
backup_is_there = refl
