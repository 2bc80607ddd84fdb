-- The parts of a file: its pieces, of which those that go on with a part are joined.
use Rattle.std.specs.Prelude.{ℕ, zero, suc, ◌+◌, ◌-◌, ◌==◌, ◌&&◌, Bool, true, false, List, [], ◌∷◌, ◌++◌, length, drop, Option, if◌then◌else◌}
use Rattle.std.specs.Option.{option_map}
use Rattle.exif_inventory.specs.Pieces.{piece_at, start_of}
use Rattle.exif_inventory.specs.declared.kind.Kind.{Kind}
use Rattle.exif_inventory.specs.declared.kind.Kind.TheVariants as kind
use Rattle.exif_inventory.specs.declared.part.Part.{Part}
use Rattle.exif_inventory.specs.declared.piece.Piece.{Piece}
use Rattle.exif_inventory.specs.declared.piece.State.{State}
use Rattle.exif_inventory.specs.declared.walk.Walk.{Walk}

-- the parts that are whole, and the one that may go on
pub record Parts : Type 0 where
  pub done : List Part
  pub last : Part

-- those of the program
abbrev pub walk_view : Walk → Parts
walk_view walk = record { done = walk.done.items; last = walk.last }

-- whether pieces of two kinds are one part
abbrev pub same_part : Kind → Kind → Bool
same_part kind.Picture kind.Picture = true
same_part kind.Trailer kind.Trailer = true
same_part _ _ = false

-- whether a piece goes on with a part
abbrev pub joins : Part → Piece → Bool
joins part piece = (part.picture == piece.picture) && same_part part.kind piece.kind

-- a part that is longer
abbrev pub longer : Part → ℕ → Part
longer part n = record {
  kind = part.kind;
  picture = part.picture;
  offset = part.offset;
  len = part.len + n;
  data_offset = part.data_offset;
  data_len = part.data_len + n;
}

-- the part that a piece begins, behind another one
abbrev pub part_behind : Part → Piece → Part
part_behind part piece = record {
  kind = piece.kind;
  picture = piece.picture;
  offset = part.offset + part.len;
  len = piece.len;
  data_offset = part.offset + part.len + piece.front;
  data_len = piece.len - piece.front - piece.pad;
}

-- the parts with one piece more
abbrev pub added : Parts → Piece → Parts
added parts piece =
    if joins parts.last piece
    then record { done = parts.done; last = longer parts.last piece.len }
    else record { done = parts.done ++ parts.last ∷ []; last = part_behind parts.last piece }

-- the parts with those of at most n pieces of the bytes that are left; each piece has a byte at
-- least
unfoldable pub walked : ℕ → State → List ℕ → Parts → Parts
walked n state [] parts = parts
walked zero state (b ∷ bytes) parts = parts
walked (suc n) state (b ∷ bytes) parts =
    let piece = piece_at state (b ∷ bytes) in
    walked n piece.next (drop (piece.len - 1) bytes) (added parts piece)

-- nothing yet
abbrev pub none : Parts
none = record {
  done = [];
  last = record {
    kind = kind.Picture;
    picture = 0;
    offset = 0;
    len = 0;
    data_offset = 0;
    data_len = 0;
  };
}

-- all parts
abbrev pub all_parts : Parts → List Part
all_parts parts = parts.done ++ parts.last ∷ []

-- the parts of a file that begins so; a piece has a byte, so there are no more pieces than bytes
abbrev pub parts_of : State → List ℕ → List Part
parts_of start file = all_parts (walked (length file) start file none)

-- the parts of a file, if its format is known
abbrev pub inventory : List ℕ → Option (List Part)
inventory file = option_map (λ start. parts_of start file) (start_of file)
