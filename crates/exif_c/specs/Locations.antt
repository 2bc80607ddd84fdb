-- What the calls on locations do.
use Rattle.std.specs.Prelude.{◌≡◌, ◌⊎◌, ℕ, Bool, true, false, List, [], ◌∷◌, Option, Some, None}
use Rattle.json.specs.Print.{print}
use Rattle.json.specs.Tree.{json_tokens}
use Rattle.exif_formats.specs.Formats.{format_in}
use Rattle.exif_check.specs.Checking.{checked, location_of}
use Rattle.exif_check.specs.Json.{checked_json}
use Rattle.exif_check.specs.declared.checked.Checked.{Checked}
use Rattle.exif_check.specs.declared.checked.Location.{Location}
use Rattle.exif_check.specs.declared.checked.Location.TheVariants.{Absent, Present, Unknown}
use Rattle.exif_privacy.specs.Erasing.{erased}
use Rattle.exif_privacy.specs.declared.remaining.Remaining.{Remaining}
use Rattle.exif_locations.specs.declared.unread.Unread.{Unread}
use Rattle.exif_locations.specs.declared.unread.Unread.TheVariants.{Blank, Keep}
use Rattle.exif_c.specs.Buffers.{Gives, GivesNothing}
use Rattle.exif_c.specs.Statuses.{number_of}
use Rattle.exif_c.specs.declared.status.Status.{Status}
use Rattle.exif_c.specs.declared.status.Status.TheVariants as status
use Rattle.exif_c.specs.declared.buffer.Answer.{Answer}

-- the status of a file that was checked
abbrev pub location_status : Location → Status
location_status Absent = status.Well
location_status Present = status.LocationFound
location_status Unknown = status.LocationPossible

-- nothing is answered, with a status, and the buffer is as it was
abbrev pub AnswersNothing : Status → Answer → List ℕ → List ℕ → Type 0
AnswersNothing said answer old new = GivesNothing (number_of said) answer × (new ≡ old)

-- the JSON of parts that were checked is in the buffer, or memory ran out; or the format is unknown
abbrev pub ChecksParts : Answer → List ℕ → List ℕ → List ℕ → Option (List Checked) → Type 0
ChecksParts answer file old new (Some parts) =
    Gives (number_of (location_status (location_of parts)))
    (print (json_tokens (checked_json [] (format_in file) parts))) old new answer
    ⊎ AnswersNothing status.OutOfMemory answer old new
ChecksParts answer file old new None =
    AnswersNothing status.InvalidFormat answer old new
    ⊎ AnswersNothing status.OutOfMemory answer old new

-- the parts of a file are checked
abbrev pub Checks : Answer → List ℕ → List ℕ → List ℕ → Type 0
Checks answer file old new = ChecksParts answer file old new (checked file)

-- the status of a file with these parts that may still hold a location
abbrev pub stays_status : List Remaining → Status
stays_status [] = status.Well
stays_status (it ∷ stays) = status.LocationPossible

-- a file whose locations were erased, and its status, if its format is known
abbrev pub erased_as : List ℕ × Option (List Remaining) → Option (List ℕ × Status)
erased_as (new, None) = None
erased_as (new, Some stays) = Some (new, stays_status stays)

-- a file is this one, with its status, or its format is not known and it is as it was
abbrev pub EndsAs : ℕ → List ℕ → List ℕ → Option (List ℕ × Status) → Type 0
EndsAs number old new (Some made) = (number ≡ number_of made.1) × (new ≡ made.0)
EndsAs number old new None = (number ≡ number_of status.InvalidFormat) × (new ≡ old)

-- what becomes of data that can't be read
abbrev pub unread_by : Bool → Unread
unread_by true = Blank
unread_by false = Keep

-- the locations of a file are erased, or memory ran out and it is as it was
abbrev pub ErasesLocations : Bool → ℕ → List ℕ → List ℕ → Type 0
ErasesLocations force_blank number old new =
    EndsAs number old new (erased_as (erased (unread_by force_blank) old))
    ⊎ ((number ≡ number_of status.OutOfMemory) × (new ≡ old))
