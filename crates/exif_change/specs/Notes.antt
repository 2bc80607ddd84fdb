-- What the user is to know of a file that is scrubbed.
use Rattle.std.specs.Prelude.{ℕ, ◌==◌, ◌&&◌, nat_lt, Bool, true, false, List, [], ◌∷◌, ◌++◌, Option, None, Some, if◌then◌else◌}
use Rattle.std.specs.List.{list_any}
use Rattle.exif_containers.specs.Container.{format_in}
use Rattle.exif_containers.specs.declared.container.Format.{Format}
use Rattle.exif_containers.specs.declared.container.Format.TheVariants.{Heif}
use Rattle.exif_inventory.specs.Walks.{inventory}
use Rattle.exif_inventory.specs.declared.part.Part.{Part}
use Rattle.exif_rewrite.specs.Color as color
use Rattle.exif_change.specs.Profiles.{format_profile}
use Rattle.exif_change.specs.declared.notes.Color.{Color}
use Rattle.exif_change.specs.declared.notes.Color.TheVariants.{Keep, Strip}
use Rattle.exif_change.specs.declared.notes.Note.{Note}
use Rattle.exif_change.specs.declared.notes.Note.TheVariants.{ColorProfile, FormatProfile, OwnRotation, Pictures}
use Rattle.exif_change.specs.declared.scrubbing.Removed.{Removed}
use Rattle.exif_change.specs.declared.scrubbing.Removed.TheVariants.{AllButOrientation, Gps, Metadata}

-- whether the colour profile stays
abbrev pub keeps : Color → Bool
keeps Keep = true
keeps Strip = false

-- whether a part is of the first picture's colour profile
abbrev pub is_profile : Part → Bool
is_profile part = (part.picture == 0) && color.is_profile part.kind

-- whether one of the parts is
abbrev pub has_profile : List Part → Bool
has_profile parts = list_any is_profile parts

-- the highest number of a picture, or this one
abbrev pub highest : List Part → ℕ → ℕ
highest [] most = most
highest (part ∷ parts) most =
    highest parts (if nat_lt most part.picture then part.picture else most)

-- the note of a profile that stays
abbrev pub if_profile : Color → List Part → List Note
if_profile color parts = if keeps color && has_profile parts then ColorProfile ∷ [] else []

-- the note of so many pictures behind the first one
abbrev pub if_pictures : ℕ → List Note
if_pictures most = if nat_lt 0 most then Pictures most ∷ [] else []

-- the notes on a file with these parts
abbrev pub notes_on : Color → List Part → List Note
notes_on color parts = if_profile color parts ++ if_pictures (highest parts 0)

-- whether a file is a HEIF file
abbrev pub is_heif : Option Format → Bool
is_heif (Some Heif) = true
is_heif format = false

-- the note of a profile that the file's format keeps
abbrev pub if_format_profile : Color → List ℕ → List Note
if_format_profile color file =
    if keeps color && format_profile file then FormatProfile ∷ [] else []

-- the note of a HEIF file's own rotation, where the orientation is kept
abbrev pub if_own_rotation : Bool → List ℕ → List Note
if_own_rotation kept file = if kept && is_heif (format_in file) then OwnRotation ∷ [] else []

-- the notes on a file of another format, of which the orientation is kept or not
abbrev pub other_notes : Bool → Color → List ℕ → List Note
other_notes kept color file = if_format_profile color file ++ if_own_rotation kept file

-- the notes on a file of which all metadata are removed, but maybe for its orientation
abbrev pub emptied_notes : Bool → Color → List ℕ → List Note
emptied_notes kept color file =
    elim (inventory file) [ Some parts ↦ notes_on color parts | None ↦ other_notes kept color file ]

-- the notes on a file that is scrubbed
abbrev pub scrub_notes : Removed → Color → List ℕ → List Note
scrub_notes Metadata color file = emptied_notes false color file
scrub_notes AllButOrientation color file = emptied_notes true color file
scrub_notes (Gps unread) color file = []
