-- Texts and other data in Exif data, in which a location may be named.
use Rattle.std.specs.Prelude.{ℕ, ◌==◌, ◌||◌, not, Bool, true, false, List, [], ◌∷◌, drop, Option, Some, None, if◌then◌else◌}
use Rattle.std.specs.List.{list_any}
use Rattle.exif_table.specs.declared.context.Context.TheVariants.{Tiff, Exif, Gps, Interop}
use Rattle.exif_types.specs.declared.field.Field.{Field}
use Rattle.exif_types.specs.declared.tag.Tag.{Tag}
use Rattle.exif_types.specs.declared.value.Value.{Value}
use Rattle.exif_types.specs.declared.value.Value.TheVariants as value
use Rattle.exif_locations.specs.Words.{begins_with_one, is_among}
use Rattle.exif_data_locations.specs.Regions.{noted}
use Rattle.exif_data_locations.specs.TagNumbers.{character_codes, other_tags, text_tags}
use Rattle.exif_data_locations.specs.declared.reason.Reason.{Reason}
use Rattle.exif_data_locations.specs.declared.reason.Reason.TheVariants.{NotSearched, Text}

-- whether a byte shows something: it is neither zero nor a space
abbrev pub is_shown : ℕ → Bool
is_shown b = not ((b == 0) || (b == 32))

-- whether bytes show something
abbrev pub show : List ℕ → Bool
show bytes = list_any is_shown bytes

-- whether one of some texts does
abbrev pub show_one : List (List ℕ) → Bool
show_one [] = false
show_one (text ∷ texts) = show text || show_one texts

-- whether a comment shows something, behind its character code if it has one: eight zeros show
-- nothing
abbrev pub shows_comment : List ℕ → Bool
shows_comment bytes =
    show (if begins_with_one character_codes bytes then drop 8 bytes else bytes)

-- whether a value shows something
abbrev pub shows : Value → Bool
shows (value.Ascii texts) = show_one texts
shows (value.Byte ns) = show ns
shows (value.Undefined bytes offset) = shows_comment bytes
shows v = true

-- whether a tag of the chain or of the Exif directory has one of these numbers: programs write some
-- texts into either
abbrev pub is_tag_among : List ℕ → Tag → Bool
is_tag_among numbers tag = elim tag.0 [
  | Tiff ↦ is_among numbers tag.1
  | Exif ↦ is_among numbers tag.1
  | Gps ↦ false
  | Interop ↦ false
]

-- why a field with a value that shows something may name a location: a text is not judged, and data
-- of another form are not searched
abbrev pub shown_why : Tag → Option Reason
shown_why tag =
    if is_tag_among text_tags tag then Some (Text tag) else
    (if is_tag_among other_tags tag then Some (NotSearched tag) else None)

-- a reason, if a value shows something
abbrev pub if_shown : Value → Option Reason → Option Reason
if_shown v None = None
if_shown v (Some why) = if shows v then Some why else None

-- why a field may name a location
abbrev pub field_why : Field → Option Reason
field_why f = if_shown f.value (shown_why f.tag)

-- reasons, and one for each such field
abbrev pub texts_noted : List Field → List Reason → List Reason
texts_noted [] whys = whys
texts_noted (f ∷ fields) whys = texts_noted fields (noted whys (field_why f))
