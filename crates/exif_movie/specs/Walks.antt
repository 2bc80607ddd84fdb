-- Boxes one after another, and those in them.
use Rattle.std.specs.Prelude.{ℕ, zero, suc, ◌+◌, ◌-◌, List, [], ◌∷◌, length, drop}
use Rattle.std.specs.List.{flat_map}
use Rattle.exif_movie.specs.Parts.{data_of}
use Rattle.exif_movie.specs.Pieces.{piece_at}
use Rattle.exif_movie.specs.declared.kind.Kind.{Kind}
use Rattle.exif_movie.specs.declared.kind.Kind.TheVariants as kind
use Rattle.exif_movie.specs.declared.kind.Container.{Container}
use Rattle.exif_movie.specs.declared.kind.Container.TheVariants as container
use Rattle.exif_movie.specs.declared.part.Part.{Part}
use Rattle.exif_movie.specs.declared.piece.Piece.{Piece}

-- the part that a piece is, from an offset on
abbrev pub part_at : ℕ → ℕ → Piece → Part
part_at level from piece = record {
  kind = piece.kind;
  level = level;
  offset = from;
  data_offset = from + piece.front;
  end = from + piece.len;
}

-- at most n boxes of the bytes from an offset on; each piece has a byte at least
unfoldable pub walked : ℕ → Container → ℕ → ℕ → List ℕ → List Part
walked n within level from [] = []
walked zero within level from (b ∷ bytes) = []
walked (suc n) within level from (b ∷ bytes) =
    let piece = piece_at within (b ∷ bytes) in
    part_at level from piece
    ∷ walked n within level (from + piece.len) (drop (piece.len - 1) bytes)

-- all of them; a piece has a byte, so there are no more pieces than bytes
abbrev pub boxes_in : Container → ℕ → ℕ → List ℕ → List Part
boxes_in within level from bytes = walked (length bytes) within level from bytes

-- the header of a box, whose content is boxes
abbrev pub header_of : Container → Part → Part
header_of inner part = record {
  kind = kind.Header inner;
  level = part.level;
  offset = part.offset;
  data_offset = part.data_offset;
  end = part.data_offset;
}

-- a box that contains others, opened
abbrev pub opened_box : List ℕ → ℕ → Container → Part → List Part
opened_box file level inner part =
    header_of inner part ∷ boxes_in inner level part.data_offset (data_of part file)

-- a part, opened if it is a box that contains others
abbrev pub opened_kind : Kind → List ℕ → ℕ → Part → List Part
opened_kind (kind.Unopened inner) file level part = opened_box file level inner part
opened_kind k file level part = part ∷ []

abbrev pub opened_one : List ℕ → ℕ → Part → List Part
opened_one file level part = opened_kind part.kind file level part

-- all parts, each box that contains others opened
abbrev pub opened : List ℕ → ℕ → List Part → List Part
opened file level parts = flat_map (opened_one file level) parts

-- the boxes of a file, opened six levels deep
abbrev pub opened_file : List ℕ → List Part
opened_file file =
    opened file 6 (opened file 5 (opened file 4 (opened file 3 (opened file 2
    (opened file 1 (boxes_in container.File 0 0 file))))))
