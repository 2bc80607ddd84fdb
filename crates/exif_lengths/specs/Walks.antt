-- The parts of a file, of which the picture's have as many bytes as their standard gives them.
use Rattle.std.specs.Prelude.{ℕ, zero, suc, ◌+◌, ◌-◌, ◌==◌, Bool, false, List, [], ◌∷◌, ◌++◌, length, take, drop, Option, Some, None, if◌then◌else◌}
use Rattle.std.specs.Option.{option_map}
use Rattle.exif_inventory.specs.Walks.{inventory}
use Rattle.exif_inventory.specs.declared.kind.Kind.{Kind}
use Rattle.exif_inventory.specs.declared.kind.Kind.TheVariants as kind
use Rattle.exif_inventory.specs.declared.part.Part.{Part}
use Rattle.exif_lengths.specs.Formats.{format_of, step_at}
use Rattle.exif_lengths.specs.Pictures.{pictures_fit}
use Rattle.exif_lengths.specs.declared.format.Format.{Format}
use Rattle.exif_lengths.specs.declared.step.Step.{Step}
use Rattle.exif_lengths.specs.declared.walk.Walk.{Walk}

-- the parts so far, where the pieces begin that fit and are no part yet, how many bytes they have,
-- and whether bytes of a scan may come
pub record Found : Type 0 where
  pub parts : List Part
  pub from : ℕ
  pub len : ℕ
  pub scanning : Bool

-- those of the program
abbrev pub walk_view : Walk → Found
walk_view walk =
    record { parts = walk.parts.items; from = walk.from; len = walk.len; scanning = walk.scanning }

-- so many bytes from an offset on, as a part
abbrev pub part_at : Kind → ℕ → ℕ → ℕ → Part
part_at k picture from len = record {
  kind = k;
  picture = picture;
  offset = from;
  len = len;
  data_offset = from;
  data_len = len;
}

-- parts with one more of so many bytes from an offset on, if there are some
abbrev pub with_run : ℕ → ℕ → ℕ → List Part → List Part
with_run picture from len parts =
    if len == 0 then parts else parts ++ part_at kind.Picture picture from len ∷ []

-- the parts with the pieces that fit, which are one
abbrev pub closed : ℕ → Found → List Part
closed picture found = with_run picture found.from found.len found.parts

-- a piece that fits more
abbrev pub longer : Found → Step → Found
longer found step = record {
  parts = found.parts;
  from = found.from;
  len = found.len + step.len;
  scanning = step.scanning;
}

-- one that does not, which is a part of its own
abbrev pub apart : ℕ → Found → Step → Found
apart picture found step = record {
  parts = closed picture found
      ++ part_at kind.Unknown picture (found.from + found.len) step.len ∷ [];
  from = found.from + found.len + step.len;
  len = 0;
  scanning = step.scanning;
}

-- one piece more
abbrev pub stepped : ℕ → Found → Step → Found
stepped picture found step =
    if step.fits then longer found step else apart picture found step

-- at most n pieces more; each has a byte at least
unfoldable pub split : ℕ → Format → ℕ → List ℕ → Found → Found
split n format picture [] found = found
split zero format picture (b ∷ bytes) found = found
split (suc n) format picture (b ∷ bytes) found =
    let step = step_at format found.scanning (b ∷ bytes) in
    split n format picture (drop (step.len - 1) bytes) (stepped picture found step)

-- the parts that bytes from an offset on are, behind others; a piece has a byte, so there are no
-- more of them than bytes. No scan goes on from the part before, which is another one since
-- something else is between them.
abbrev pub split_from : Format → ℕ → ℕ → List ℕ → List Part → List Part
split_from format picture at bytes parts =
    closed picture (split (length bytes) format picture bytes
    (record { parts = parts; from = at; len = 0; scanning = false }))

-- those of a part, behind others
abbrev pub split_part : Format → List ℕ → Part → List Part → List Part
split_part format file part parts =
    split_from format part.picture part.offset (take part.len (drop part.offset file)) parts

-- a part whose kind is not known
abbrev pub unknown : Part → Part
unknown part = record {
  kind = kind.Unknown;
  picture = part.picture;
  offset = part.offset;
  len = part.len;
  data_offset = part.data_offset;
  data_len = part.data_len;
}

-- an index of pictures, if its data are one and have no more bytes
abbrev pub indexed : List ℕ → Part → Part
indexed file part =
    if pictures_fit (take part.data_len (drop part.data_offset file)) then part else unknown part

-- a part, behind others: one of the picture is split, and an index of pictures is looked at
abbrev pub by_kind : Kind → Format → List ℕ → Part → List Part → List Part
by_kind kind.Picture format file part parts = split_part format file part parts
by_kind kind.MultiPicture format file part parts = parts ++ indexed file part ∷ []
by_kind _ format file part parts = parts ++ part ∷ []

-- parts of a file, behind others
abbrev pub measured_from : Format → List ℕ → List Part → List Part → List Part
measured_from format file parts [] = parts
measured_from format file parts (part ∷ more) =
    measured_from format file (by_kind part.kind format file part parts) more

-- parts of a file
abbrev pub measured : Format → List ℕ → List Part → List Part
measured format file parts = measured_from format file [] parts

-- the parts of a file, if its format is this
abbrev pub inventory_by : Option Format → List ℕ → Option (List Part)
inventory_by None file = None
inventory_by (Some format) file = option_map (measured format file) (inventory file)

-- the parts of a file, if its format is known: each piece of the picture that has other bytes than
-- its standard gives it is a part of its own, whose kind is not known, and so is an index of pictures
abbrev pub measured_inventory : List ℕ → Option (List Part)
measured_inventory file = inventory_by (format_of file) file
