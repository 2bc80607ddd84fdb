-- Files that were moved: new pictures whose bytes are those of a picture that is gone.
use Rattle.std.specs.Prelude.{ℕ, List, [], ◌∷◌, Option, Some, None, filter, flat_map}
use Rattle.std.specs.Str.{bytes_eq}
use Rattle.std.specs.String.{string_bytes}
use Rattle.exif_catalog.specs.declared.hashes.Move.{Move}
use Rattle.exif_catalog.specs.declared.moving.Hashed.{Hashed}
use Rattle.exif_catalog.specs.declared.moving.Holder.{Holder}
use Rattle.exif_catalog.specs.declared.moving.Holder.TheVariants as holder
use Rattle.exif_catalog.specs.declared.moving.Moved.{Moved}

-- who has a hash: no picture, one with a path, or several
pub data Held : Type 0 where
  nobody : Held
  one : List ℕ → Held
  several : Held

-- the same of what is noted
abbrev pub held : Option Holder → Held
held None = nobody
held (Some (holder.One path)) = one path.now
held (Some holder.Several) = several

-- with one picture more
abbrev pub joined : Held → List ℕ → Held
joined nobody path = one path
joined (one other) path = several
joined several path = several

-- the pictures with a hash
abbrev pub with_hash : List ℕ → List Hashed → List Hashed
with_hash hash pictures = filter (λ picture. bytes_eq (string_bytes picture.hash) hash) pictures

-- who they are
abbrev pub held_by : List Hashed → Held
held_by [] = nobody
held_by (picture ∷ []) = one (string_bytes picture.path)
held_by (picture ∷ other ∷ pictures) = several

-- A move is from the one picture that is gone to the one that is new.
abbrev pub move_by : Held → Held → Option (List ℕ × List ℕ)
move_by (one old) (one new) = Some (old, new)
move_by (one old) nobody = None
move_by (one old) several = None
move_by nobody new = None
move_by several new = None

-- none or one as a list
abbrev pub listed : Option (List ℕ × List ℕ) → List (List ℕ × List ℕ)
listed None = []
listed (Some move) = move ∷ []

-- the move of a new picture, by its hash
abbrev pub move_with : List Hashed → List Hashed → List ℕ → Option (List ℕ × List ℕ)
move_with gone new hash = move_by (held_by (with_hash hash gone)) (held_by (with_hash hash new))

-- the moves, in the order of the new pictures
abbrev pub moves_of : List Hashed → List Hashed → List (List ℕ × List ℕ)
moves_of gone new =
    flat_map (λ picture. listed (move_with gone new (string_bytes picture.hash))) new

-- the paths of a move
abbrev pub paths_of : Moved → List ℕ × List ℕ
paths_of moved = (moved.old.now, moved.new.now)

-- the same of texts of its own
abbrev pub moved_paths : Move → List ℕ × List ℕ
moved_paths moved = (string_bytes moved.old, string_bytes moved.new)
