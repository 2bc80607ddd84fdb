-- What stays of the configuration of a decoder: of HEVC the units with parameters, and the headers
-- of others (ISO/IEC 14496-15, 8.3.3.1, 9.6.3; ISO/IEC 23008-2, 7.3.1.2); of AV1 the header of the sequence, and the headers of other units (AV1 Codec
-- ISO Media File Format Binding, 2.3; AV1 Bitstream, 4.10.5, 5.3).
use Rattle.std.specs.Prelude.{ℕ, ◌+◌, ◌-◌, ◌*◌, ◌/◌, ◌%◌, min, List, length, take, drop, codes, slice_index, nat_lt, nat_le, Bool, not, ◌||◌, ◌==◌, if◌then◌else◌}
use Rattle.std.specs.Int.{from_be_bytes, w16}
use Rattle.std.specs.Str.{bytes_eq}
use Rattle.exif_blanks.specs.BaseSteps.{front, whole}
use Rattle.exif_inventory.specs.BoxHeaders.{name_of}
use Rattle.exif_inventory.specs.declared.boxes.Head.{Head}
use Rattle.exif_blanks.specs.declared.obus.ObuSize.{ObuSize}
use Rattle.exif_blanks.specs.declared.steps.ListedObus.{ListedObus}
use Rattle.exif_blanks.specs.declared.steps.ListedUnits.{ListedUnits}
use Rattle.exif_blanks.specs.declared.steps.Place.TheVariants.{Obus, Properties, Units}
use Rattle.exif_blanks.specs.declared.steps.Step.{Step}

-- how many bytes of fields the configuration of a HEVC decoder has before the units of its
-- bitstream, with the count of their lists (ISO/IEC 14496-15, 8.3.3.1, 9.6.3); 0 for others
abbrev pub config_len : List ℕ → ℕ
config_len name =
    if bytes_eq name (codes "hvcC") then 23 else if bytes_eq name (codes "lhvC") then 6 else 0

-- a configuration up to its first list of units, if it has all its fields
abbrev pub config_step : ℕ → List ℕ → Head → Step
config_step space bytes head =
    if nat_lt head.len (head.front + config_len (name_of bytes))
    then front head.front head.len (Properties (space - head.len))
    else whole (head.front + config_len (name_of bytes)) (Units (record {
      lists = slice_index bytes (head.front + config_len (name_of bytes) - 1);
      left = 0;
      space = head.len - (head.front + config_len (name_of bytes));
      behind = space - head.len;
    }))

-- whether a unit, by its first byte, has parameters: of the video, of a sequence or of a picture
-- (ISO/IEC 23008-2, 7.3.1.2, table 7-1)
abbrev pub is_parameters : ℕ → Bool
is_parameters b = (b / 2 % 64 == 32) || (b / 2 % 64 == 33) || (b / 2 % 64 == 34)

-- a list of units up to the first one: a type and a count
abbrev pub units_listed : List ℕ → ListedUnits → Step
units_listed bytes units = whole 3 (Units (record {
  lists = units.lists - 1;
  left = from_be_bytes w16 (take 2 (drop 1 bytes));
  space = units.space - 3;
  behind = units.behind;
}))

-- a unit behind its length; of one without parameters its header of two bytes stays
abbrev pub unit_len : List ℕ → ℕ
unit_len bytes = 2 + from_be_bytes w16 (take 2 bytes)

abbrev pub one_unit : List ℕ → ListedUnits → Step
one_unit bytes units =
    front (if is_parameters (slice_index bytes 2) then unit_len bytes else 4)
    (min units.space (unit_len bytes)) (Units (record {
      lists = units.lists;
      left = units.left - 1;
      space = units.space - unit_len bytes;
      behind = units.behind;
    }))

-- the bytes of a configuration that come next; those behind its units become zeros
abbrev pub units_by : List ℕ → ListedUnits → Step
units_by bytes units =
    if nat_lt (length bytes) 3 then front 0 units.space (Properties units.behind) else
    if nat_lt 0 units.left then one_unit bytes units else
    if nat_lt 0 units.lists then units_listed bytes units
    else front 0 units.space (Properties units.behind)

-- the configuration of an AV1 decoder: four bytes of fields
abbrev pub obus_config : ℕ → Head → Step
obus_config space head =
    if nat_lt head.len (head.front + 4)
    then front head.front head.len (Properties (space - head.len))
    else whole (head.front + 4) (Obus (record {
      space = head.len - (head.front + 4);
      behind = space - head.len;
    }))

-- how many bytes the header of a unit takes, by its first byte: one, or two with an extension
abbrev pub obu_head : ℕ → ℕ
obu_head b = if b / 4 % 2 == 0 then 1 else 2

-- whether a unit, by its first byte, says its size
abbrev pub has_size : ℕ → Bool
has_size b = not (b / 2 % 2 == 0)

-- whether it has the parameters of a sequence
abbrev pub is_sequence : ℕ → Bool
is_sequence b = b / 8 % 16 == 1

-- a unit without a size, or with one of more than two bytes, takes all bytes
abbrev pub all_obu : List ℕ → ℕ → ObuSize
all_obu bytes head = record { head = head; len = length bytes }

-- one whose size has two bytes, of 7 bits each, the lowest first
abbrev pub long_obu : List ℕ → ℕ → ObuSize
long_obu bytes head =
    if nat_le (length bytes) (head + 1) || nat_le 128 (slice_index bytes (head + 1))
    then all_obu bytes head
    else record {
      head = head + 2;
      len = head + 2 + slice_index bytes head % 128 + 128 * slice_index bytes (head + 1);
    }

-- one whose size has one or two bytes
abbrev pub sized_obu : List ℕ → ℕ → ObuSize
sized_obu bytes head =
    if nat_le (length bytes) head then all_obu bytes head else
    if nat_lt (slice_index bytes head) 128
    then record { head = head + 1; len = head + 1 + slice_index bytes head }
    else long_obu bytes head

abbrev pub obu_size : List ℕ → ObuSize
obu_size bytes =
    if has_size (slice_index bytes 0) then sized_obu bytes (obu_head (slice_index bytes 0))
    else all_obu bytes (obu_head (slice_index bytes 0))

-- the unit at the front of these bytes
abbrev pub obus_by : List ℕ → ListedObus → Step
obus_by bytes obus =
    front
    (if is_sequence (slice_index bytes 0) then (obu_size bytes).len else (obu_size bytes).head)
    (min obus.space (obu_size bytes).len) (Obus (record {
      space = obus.space - (obu_size bytes).len;
      behind = obus.behind;
    }))
