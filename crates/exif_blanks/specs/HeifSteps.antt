-- What stays of the boxes that describe the pictures of a HEIF file (ISO/IEC 14496-12, 8.4.3,
-- 8.11.3, 8.11.6, 8.11.12, 8.11.14, 8.18; ISO/IEC 23008-12, 6.5, 9.3, 9.4; AV1 Image File Format,
-- 2.3; ISO/IEC 14496-15, 8.3.3, 9.6.3).
use Rattle.std.specs.Prelude.{ℕ, ◌+◌, ◌-◌, ◌*◌, ◌%◌, min, List, [], ◌∷◌, length, take, drop, replicate, ◌++◌, codes, slice_index, nat_lt, nat_le, Bool, not, ◌||◌, ◌==◌, Option, Some, None, if◌then◌else◌}
use Rattle.std.specs.Int.{from_be_bytes, w16, w32}
use Rattle.std.specs.Str.{bytes_eq}
use Rattle.exif_blanks.specs.BaseSteps.{front, whole}
use Rattle.exif_blanks.specs.ConfigSteps.{config_len, config_step, obus_by, obus_config, units_by}
use Rattle.exif_inventory.specs.BoxHeaders.{head_of, name_of}
use Rattle.exif_inventory.specs.declared.boxes.Head.{Head}
use Rattle.exif_inventory_heif.specs.Extents.{extent_len, head_len, widths_of}
use Rattle.exif_inventory_heif.specs.Numbers.{number}
use Rattle.exif_inventory_heif.specs.Items.{count_width, item_width, text_len}
use Rattle.exif_blanks.specs.declared.steps.Place.{Place}
use Rattle.exif_blanks.specs.declared.steps.Place.TheVariants.{Associations, Boxes, Entries, Groups, Locations, Name, Properties, References, Rest, Texts, Zeros}
use Rattle.exif_blanks.specs.declared.steps.AssociationList.{AssociationList}
use Rattle.exif_blanks.specs.declared.steps.EntryTexts.{EntryTexts}
use Rattle.exif_blanks.specs.declared.steps.ListedObus.{ListedObus}
use Rattle.exif_blanks.specs.declared.steps.ListedUnits.{ListedUnits}
use Rattle.exif_blanks.specs.declared.steps.LocationList.{LocationList}
use Rattle.exif_blanks.specs.declared.steps.Step.{Step}

-- whether a property says how a picture is coded
abbrev pub is_coding : List ℕ → Bool
is_coding name =
    bytes_eq name (codes "avcC") || bytes_eq name (codes "vvcC") || bytes_eq name (codes "evcC")
    || bytes_eq name (codes "j2kH") || bytes_eq name (codes "jpgC")
    || bytes_eq name (codes "a1lx")

-- whether one says what its samples and colours are
abbrev pub is_color : List ℕ → Bool
is_color name =
    bytes_eq name (codes "colr")
    || bytes_eq name (codes "cclv") || bytes_eq name (codes "ndwt")
    || bytes_eq name (codes "reve") || bytes_eq name (codes "uncC")
    || bytes_eq name (codes "cmpd") || bytes_eq name (codes "cmpC")
    || bytes_eq name (codes "icef") || bytes_eq name (codes "cpat")

-- whether one says what it is to another picture, or of the camera where it is one of two
abbrev pub is_relation : List ℕ → Bool
is_relation name =
    bytes_eq name (codes "rref") || bytes_eq name (codes "iscl") || bytes_eq name (codes "tols")
    || bytes_eq name (codes "oinf") || bytes_eq name (codes "splz")
    || bytes_eq name (codes "disi") || bytes_eq name (codes "mskC")
    || bytes_eq name (codes "cmin") || bytes_eq name (codes "cmex")

-- whether all of a property stays
abbrev pub is_property : List ℕ → Bool
is_property name = is_coding name || is_color name || is_relation name

-- how many bytes of fields a property has that is always as long, behind its header; 0 for others
abbrev pub fields_len : List ℕ → ℕ
fields_len name =
    if bytes_eq name (codes "ispe") then 12 else
    if bytes_eq name (codes "pasp") then 8 else
    if bytes_eq name (codes "clap") then 32 else
    if bytes_eq name (codes "irot") || bytes_eq name (codes "imir")
    || bytes_eq name (codes "a1op") then 1 else
    if bytes_eq name (codes "lsel") then 2 else
    if bytes_eq name (codes "clli") then 4 else
    if bytes_eq name (codes "mdcv") then 24 else
    if bytes_eq name (codes "amve") then 8 else 0

-- how many bytes stay of a list of bits for each channel without flags: its header, a version and
-- flags, a count, and as many bytes
abbrev pub channels_kept : List ℕ → Head → ℕ
channels_kept bytes head =
    if nat_lt head.len (head.front + 5) then head.len else
    if bytes_eq (take 4 (drop head.front bytes)) (0 ∷ 0 ∷ 0 ∷ 0 ∷ [])
    then head.front + 5 + slice_index bytes (head.front + 4) else head.len

-- whether a text is one of the types of an auxiliary picture that are known
abbrev pub is_aux_type : List ℕ → Bool
is_aux_type text =
    bytes_eq text (codes "urn:mpeg:hevc:2015:auxid:1")
    || bytes_eq text (codes "urn:mpeg:hevc:2015:auxid:2")
    || bytes_eq text (codes "urn:mpeg:mpegB:cicp:systems:auxiliary:alpha")
    || bytes_eq text (codes "urn:mpeg:mpegB:cicp:systems:auxiliary:depth")
    || bytes_eq text (codes "urn:com:apple:photo:2018:aux:portraiteffectsmatte")
    || bytes_eq text (codes "urn:com:apple:photo:2019:aux:semanticskinmatte")
    || bytes_eq text (codes "urn:com:apple:photo:2019:aux:semantichairmatte")
    || bytes_eq text (codes "urn:com:apple:photo:2019:aux:semanticteethmatte")
    || bytes_eq text (codes "urn:com:apple:photo:2020:aux:semanticglassesmatte")
    || bytes_eq text (codes "urn:com:apple:photo:2020:aux:semanticskymatte")
    || bytes_eq text (codes "urn:com:apple:photo:2020:aux:hdrgainmap")

-- what a box holds behind its version and flags
abbrev pub full_content : List ℕ → Head → List ℕ
full_content bytes head = drop (head.front + 4) (take head.len bytes)

-- how many bytes stay of the type of an auxiliary picture: its header, a version and flags, and the
-- type with the zero that ends it, if it is a known one
abbrev pub aux_kept : List ℕ → Head → ℕ
aux_kept bytes head =
    if is_aux_type (take (text_len (full_content bytes head)) (full_content bytes head))
    then head.front + 5 + text_len (full_content bytes head) else head.front + 4

-- how many bytes of a property stay: all, its header and its fields, or its header alone
abbrev pub property_kept : List ℕ → Head → ℕ
property_kept bytes head =
    if bytes_eq (name_of bytes) (codes "auxC") then aux_kept bytes head else
    if bytes_eq (name_of bytes) (codes "pixi") then channels_kept bytes head else
    if is_property (name_of bytes) then head.len else head.front + fields_len (name_of bytes)

-- whether a group of items shows which of them to show, or which belong to two eyes
abbrev pub is_group : List ℕ → Bool
is_group name = bytes_eq name (codes "altr") || bytes_eq name (codes "ster")

-- which properties items have (ISO/IEC 23008-12, 9.3.2), up to the first entry: a version, flags and
-- a count
abbrev pub associations_listed : List ℕ → Head → Step
associations_listed bytes head =
    if nat_lt head.len (head.front + 8) then front head.front head.len Boxes
    else whole (head.front + 8) (Associations (record {
      left = from_be_bytes w32 (take 4 (drop (head.front + 4) bytes));
      wide = not (slice_index bytes head.front == 0);
      large = not (slice_index bytes (head.front + 3) % 2 == 0);
      space = head.len - (head.front + 8);
    }))

-- the box at the front of the boxes of a list, one of properties, or one of groups; what is no box
-- becomes zeros
abbrev pub list_by : List ℕ → Option Head → Step
list_by bytes None = front 0 (length bytes) Rest
list_by bytes (Some head) =
    if bytes_eq (name_of bytes) (codes "ipco")
    then whole head.front (Properties (head.len - head.front)) else
    if bytes_eq (name_of bytes) (codes "ipma") then associations_listed bytes head
    else front head.front head.len Boxes

abbrev pub list_step : List ℕ → Step
list_step bytes = list_by bytes (head_of bytes)

-- how many bytes the number of an item takes
abbrev pub item_len : Bool → ℕ
item_len wide = if wide then 4 else 2

-- how many bytes an entry of properties takes: the number of an item, a count, and as many numbers
abbrev pub association_len : AssociationList → List ℕ → ℕ
association_len found bytes =
    item_len found.wide + 1
    + (if found.large then 2 else 1) * slice_index bytes (item_len found.wide)

-- which properties an item has; what is behind the entries becomes zeros
abbrev pub associations_by : List ℕ → AssociationList → Step
associations_by bytes found =
    if (found.left == 0) || nat_le (length bytes) (item_len found.wide)
    then front 0 found.space Boxes
    else whole (min found.space (association_len found bytes)) (Associations (record {
      left = found.left - 1;
      wide = found.wide;
      large = found.large;
      space = found.space - association_len found bytes;
    }))

abbrev pub associations_step : AssociationList → List ℕ → Step
associations_step found bytes =
    if found.space == 0 then list_step bytes
    else associations_by (take found.space bytes) found

-- what items refer to (ISO/IEC 14496-12, 8.11.12), up to the first box: a version and flags
abbrev pub references_listed : List ℕ → Head → Step
references_listed bytes head =
    if nat_lt head.front head.len
    then whole (head.front + 4) (References (not (slice_index bytes head.front == 0)))
    else whole (length bytes) Rest

-- how many bytes of a reference stay: its header, the number of an item, a count, and as many
-- numbers of others
abbrev pub reference_kept : Bool → List ℕ → Head → ℕ
reference_kept wide bytes head =
    if nat_lt head.len (head.front + item_len wide + 2) then head.front
    else head.front + item_len wide + 2
    + item_len wide * from_be_bytes w16 (take 2 (drop (head.front + item_len wide) bytes))

abbrev pub references_by : Bool → List ℕ → Option Head → Step
references_by wide bytes None = front 0 (length bytes) Rest
references_by wide bytes (Some head) =
    front (reference_kept wide bytes head) head.len (References wide)

abbrev pub references_step : Bool → List ℕ → Step
references_step wide bytes = references_by wide bytes (head_of bytes)

-- where items' data are (ISO/IEC 14496-12, 8.11.3), up to the first entry: a version and flags, the
-- widths of fields, and a count
abbrev pub locations_listed : List ℕ → Head → Step
locations_listed bytes head =
    if nat_lt head.len (head.front + 10) then whole (length bytes) Rest else
    let widths =
    widths_of (slice_index bytes head.front) (number 2 (drop (head.front + 4) bytes)) in
    whole (head.front + 6 + widths.number) (Locations (record {
      left = number widths.number (drop (head.front + 6) bytes);
      widths = widths;
    }))

-- how many bytes an entry takes, with its extents, whose count is the last field before them
abbrev pub location_len : LocationList → List ℕ → ℕ
location_len found bytes =
    head_len found.widths
    + extent_len found.widths * from_be_bytes w16 (take 2 (drop (head_len found.widths - 2) bytes))

-- where the data of an item are; what is behind the entries becomes zeros
abbrev pub locations_step : LocationList → List ℕ → Step
locations_step found bytes =
    if (found.left == 0) || nat_lt (length bytes) (head_len found.widths)
    then front 0 (length bytes) Rest
    else whole (location_len found bytes) (Locations (record {
      left = found.left - 1;
      widths = found.widths;
    }))

abbrev pub property_by : ℕ → List ℕ → Option Head → Step
property_by space bytes None = front 0 space Boxes
property_by space bytes (Some head) =
    if bytes_eq (name_of bytes) (codes "av1C") then obus_config space head else
    if config_len (name_of bytes) == 0
    then front (property_kept bytes head) head.len (Properties (space - head.len))
    else config_step space bytes head

abbrev pub property_step : ℕ → List ℕ → Step
property_step space bytes =
    if space == 0 then list_step bytes
    else property_by space (take space bytes) (head_of (take space bytes))

-- the bytes of a configuration that come next, or the property behind it
abbrev pub units_step : ListedUnits → List ℕ → Step
units_step units bytes =
    if units.space == 0 then property_step units.behind bytes
    else units_by (take units.space bytes) units

abbrev pub obus_step : ListedObus → List ℕ → Step
obus_step obus bytes =
    if obus.space == 0 then property_step obus.behind bytes
    else obus_by (take obus.space bytes) obus

-- how many bytes of a group stay: of one of these its header, a version and flags, its number, a
-- count, and the numbers of so many items; of others the header alone
abbrev pub group_kept : List ℕ → Head → ℕ
group_kept bytes head =
    if not (is_group (name_of bytes)) || nat_lt head.len (head.front + 12) then head.front
    else head.front + 12 + 4 * from_be_bytes w32 (take 4 (drop (head.front + 8) bytes))

abbrev pub group_by : List ℕ → Option Head → Step
group_by bytes None = front 0 (length bytes) Rest
group_by bytes (Some head) =
    front (group_kept bytes head) head.len Groups

abbrev pub group_step : List ℕ → Step
group_step bytes = group_by bytes (head_of bytes)

-- how many texts follow the name of an item of this type: its content type and its encoding, or the
-- name of its type (ISO/IEC 14496-12, 8.11.6.2)
abbrev pub texts_of : List ℕ → ℕ
texts_of name =
    if bytes_eq name (codes "mime") then 2 else if bytes_eq name (codes "uri ") then 1 else 0

-- how many bytes a text takes, if bytes begin with it
abbrev pub begun_len : List ℕ → List ℕ → ℕ
begun_len text bytes = if bytes_eq (take (length text) bytes) text then length text else 0

-- how many bytes a name takes with the zero behind it, if it is one that encoders (libavif, FFmpeg)
-- give the items of every file; no two of these begin alike
abbrev pub known_name_len : List ℕ → ℕ
known_name_len bytes =
    begun_len (codes "Color\0") bytes + begun_len (codes "Alpha\0") bytes
    + begun_len (codes "Exif\0") bytes + begun_len (codes "XMP\0") bytes
    + begun_len (codes "GMap\0") bytes

-- what follows the type of an item, which ends at an index: its name, which stays if it is a known
-- one
abbrev pub typed_entry : List ℕ → Head → ℕ → ℕ → Step
typed_entry bytes head end known =
    if known == 0 then whole end (Name (record {
      texts = texts_of (take 4 (drop (end - 4) bytes));
      space = head.len - end;
    }))
    else whole (end + known) (Texts (record {
      texts = texts_of (take 4 (drop (end - 4) bytes));
      space = head.len - end - known;
    }))

-- the entry of an item, up to its name, if it has one behind a number of this width
abbrev pub wide_entry : List ℕ → Head → ℕ → Step
wide_entry bytes head width =
    if (width == 0) || nat_lt head.len (head.front + width + 10) then whole head.len Entries
    else typed_entry bytes head (head.front + width + 10)
    (known_name_len (drop (head.front + width + 10) (take head.len bytes)))

abbrev pub named_entry : List ℕ → Head → Step
named_entry bytes head =
    if nat_lt head.front head.len
    then wide_entry bytes head (item_width (slice_index bytes head.front))
    else whole head.len Entries

-- the box at the front of the entries of items
abbrev pub entry_by : List ℕ → Option Head → Step
entry_by bytes None = front 0 (length bytes) Rest
entry_by bytes (Some head) =
    if bytes_eq (name_of bytes) (codes "infe") then named_entry bytes head
    else front head.front head.len Entries

abbrev pub entry_step : List ℕ → Step
entry_step bytes = entry_by bytes (head_of bytes)

-- a byte of a name, which becomes a space; the zero that ends it stays
abbrev pub letter_step : EntryTexts → ℕ → Step
letter_step entry b =
    let next : EntryTexts = record { texts = entry.texts; space = entry.space - 1 } in
    if b == 0 then whole 1 (Texts next)
    else record { len = 1; kept = 0; fill = 32; next = Name next }

abbrev pub name_step : EntryTexts → List ℕ → Step
name_step entry bytes =
    if entry.space == 0 then entry_step bytes else letter_step entry (slice_index bytes 0)

-- a byte of a text behind the name, which stays; a zero ends the text
abbrev pub kept_letter : EntryTexts → ℕ → Step
kept_letter entry b = whole 1 (Texts (record {
  texts = if b == 0 then entry.texts - 1 else entry.texts;
  space = entry.space - 1;
}))

-- what is behind all texts becomes zeros
abbrev pub text_step : EntryTexts → List ℕ → Step
text_step entry bytes =
    if entry.space == 0 then entry_step bytes else
    if entry.texts == 0 then front 0 entry.space Entries
    else kept_letter entry (slice_index bytes 0)

-- a version and flags, and a number whose width the version says: the count of the items, or the
-- number of one
abbrev pub number_step : List ℕ → Head → Place → Step
number_step bytes head next =
    if nat_lt head.front head.len
    then whole (head.front + 4 + count_width (slice_index bytes head.front)) next
    else whole (length bytes) Rest

-- what a handler has behind its version, flags and type: twelve reserved bytes, and its name
abbrev pub handler_rest : List ℕ → Head → List ℕ
handler_rest bytes head = drop (head.front + 12) (take head.len bytes)

-- how many of these stay: none, or zeros and a name that encoders (FFmpeg, libavif) give every file
abbrev pub known_handler_len : List ℕ → ℕ
known_handler_len rest =
    begun_len (replicate 12 0 ++ codes "PictureHandler\0") rest
    + begun_len (replicate 12 0 ++ codes "libavif\0") rest

-- a box that describes pictures: the list of items up to the first entry; of the handler the name
-- becomes zeros, unless it is a known one, and what is behind the number of the first picture
abbrev pub box_by : List ℕ → Option Head → Step
box_by bytes None = whole (length bytes) Rest
box_by bytes (Some head) =
    if bytes_eq (name_of bytes) (codes "iprp") then whole head.front Boxes else
    if bytes_eq (name_of bytes) (codes "grpl") then whole head.front Groups else
    if bytes_eq (name_of bytes) (codes "iinf") then number_step bytes head Entries else
    if bytes_eq (name_of bytes) (codes "pitm") then number_step bytes head Zeros else
    if bytes_eq (name_of bytes) (codes "iref") then references_listed bytes head else
    if bytes_eq (name_of bytes) (codes "iloc") then locations_listed bytes head else
    if bytes_eq (name_of bytes) (codes "hdlr")
    then whole (head.front + 12 + known_handler_len (handler_rest bytes head)) Zeros
    else whole (length bytes) Rest

abbrev pub box_step : List ℕ → Step
box_step bytes = box_by bytes (head_of bytes)
