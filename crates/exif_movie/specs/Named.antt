-- Metadata items, by the keys of their metadata.
use Rattle.std.specs.Prelude.{ℕ, List, [], ◌∷◌, length, take, drop, nat_lt, Option, Some, None, if◌then◌else◌}
use Rattle.exif_inventory.specs.BoxHeaders.{name_of}
use Rattle.exif_movie.specs.Keys.{item_subject}
use Rattle.exif_movie.specs.Parts.{bytes_of, data_of}
use Rattle.exif_movie.specs.declared.kind.Kind.{Kind}
use Rattle.exif_movie.specs.declared.kind.Kind.TheVariants as kind
use Rattle.exif_movie.specs.declared.kind.Container.TheVariants as container
use Rattle.exif_movie.specs.declared.part.Part.{Part}

-- the type of the box that bytes are, as far as it is there
abbrev pub whole_name : List ℕ → List ℕ
whole_name bytes = if nat_lt (length bytes) 8 then [] else name_of bytes

abbrev pub name_in : Part → List ℕ → List ℕ
name_in part file = whole_name (bytes_of part file)

-- the bytes behind a version, flags and a count
abbrev pub behind_count : List ℕ → List ℕ
behind_count content = if nat_lt (length content) 8 then [] else drop 8 content

-- the keys in a box
abbrev pub keys_in : Option Part → List ℕ → List ℕ
keys_in None file = []
keys_in (Some part) file = behind_count (data_of part file)

-- the box with the keys of what follows a part of this kind
abbrev pub keys_behind : Kind → Option Part → Part → Option Part
keys_behind kind.Keys keys part = Some part
keys_behind (kind.Header container.Meta) keys part = None
keys_behind k keys part = keys

abbrev pub keys_after : Option Part → Part → Option Part
keys_after keys part = keys_behind part.kind keys part

-- what a part of this kind holds, where these are the keys
abbrev pub kind_by : Kind → List ℕ → Option Part → Part → Kind
kind_by (kind.Item s) file keys part =
    kind.Item (item_subject (name_in part file) (keys_in keys file))
kind_by k file keys part = k

abbrev pub kind_named : List ℕ → Option Part → Part → Kind
kind_named file keys part = kind_by part.kind file keys part

-- a part, with the subject of an item
abbrev pub named_part : List ℕ → Option Part → Part → Part
named_part file keys part = record {
  kind = kind_named file keys part;
  level = part.level;
  offset = part.offset;
  data_offset = part.data_offset;
  end = part.end;
}

-- the parts, where each metadata item has the subject of its key
abbrev pub named : List ℕ → Option Part → List Part → List Part
named file keys [] = []
named file keys (part ∷ parts) =
    named_part file keys part ∷ named file (keys_after keys part) parts
