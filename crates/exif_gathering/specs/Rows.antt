-- What the row of a picture has, and which rows of pictures that were not seen stay.
use Rattle.std.specs.Prelude.{ℕ, ◌/◌, ◌%◌, Bool, false, not, ◌&&◌, List, [], ◌∷◌, ◌++◌, Option, None, Some, option_and_then, option_map, flat_map}
use Rattle.std.specs.Fmt.{digit_glyph}
use Rattle.std.specs.List.{list_any}
use Rattle.exif_catalog.specs.Known.{is_below}
use Rattle.exif_catalog.specs.Values.{Stored, amount_value, columns_values, maybe_text, text}
use Rattle.exif_catalog_file.specs.Text.{text_of}
use Rattle.exif_catalog.specs.declared.known.Stamp.{Stamp}
use Rattle.exif_catalog.specs.declared.updating.FileRow.{FileRow}
use Rattle.exif_catalog.specs.declared.updating.FileRow.TheVariants as row
use Rattle.exif_decisions.specs.Outcomes.{outcome_with}
use Rattle.exif_decisions.specs.declared.outcome.Outcome.{Outcome}
use Rattle.exif_decisions.specs.declared.outcome.Outcome.TheVariants.{Refused}
use Rattle.exif_formats.specs.Formats.{format_name}
use Rattle.exif_formats.specs.declared.format.PictureFormat.{PictureFormat}
use Rattle.exif_inputs.specs.declared.stamps.FileStamp.{FileStamp}
use Rattle.exif_json.specs.Flat.{mime_type}
use Rattle.exif_types.specs.declared.field.Field.{Field}

-- A stamp is known where each part of it is: else a change could not be noticed.
abbrev pub known_stamp : FileStamp → Option Stamp
known_stamp stamp =
    option_and_then (λ size.
    option_and_then (λ modified.
    option_and_then (λ modified_ns.
    option_and_then (λ changed.
    option_and_then (λ changed_ns.
    option_and_then (λ device.
    option_map (λ inode. record {
      size = size;
      modified = modified;
      modified_ns = modified_ns;
      changed = changed;
      changed_ns = changed_ns;
      device = device;
      inode = inode;
    }) stamp.inode) stamp.device) stamp.changed_ns) stamp.changed) stamp.modified_ns)
    stamp.modified) stamp.size

-- whether one of the paths is a root, or below it
abbrev pub any_below : List (List ℕ) → List ℕ → Bool
any_below paths root = list_any (λ path. is_below path root) paths

-- All below a root was looked through if no picture was left out by conditions, and no name below it
-- could not be followed. Else no row below it is marked as removed.
abbrev pub is_whole : Bool → List (List ℕ) → List ℕ → Bool
is_whole has_conditions failed root = not has_conditions && not (any_below failed root)

-- the two hexadecimal digits of a byte
abbrev pub hex_pair : ℕ → List ℕ
hex_pair byte = digit_glyph false (byte / 16) ∷ digit_glyph false (byte % 16) ∷ []

abbrev pub hex_text : List ℕ → List ℕ
hex_text bytes = flat_map hex_pair bytes

-- what is counted of a file, by what it has for its row and how many faults it has: nothing where
-- it is no picture, since it was skipped
abbrev pub outcome_by : FileRow → ℕ → Option Outcome
outcome_by (row.Values values) faults = Some (outcome_with faults)
outcome_by row.Unreadable faults = Some Refused
outcome_by row.NoPicture faults = None

-- what is stored of a file: its path, its stamp, a hash, and the name and the media type of its
-- format, as far as each is known
abbrev pub file_row : List ℕ → FileStamp → Option (List ℕ) → Option PictureFormat → List Stored
file_row path stamp hash format =
    text (text_of path) ∷ amount_value stamp.size ∷ amount_value stamp.modified
    ∷ amount_value stamp.modified_ns ∷ amount_value stamp.changed ∷ amount_value stamp.changed_ns
    ∷ amount_value stamp.device ∷ amount_value stamp.inode ∷ maybe_text hash
    ∷ maybe_text (option_map format_name format) ∷ maybe_text (option_map mime_type format) ∷ []

-- the row of a picture: that, and what its Exif data say, if it has some
abbrev pub row_for : List ℕ → FileStamp → Option (List ℕ) → Option PictureFormat
    → Option (List Field) → List Stored
row_for path stamp hash format exif = file_row path stamp hash format ++ columns_values exif
