-- What a catalogue knows of the pictures that it has, and what becomes of their rows.
use Rattle.std.specs.Prelude.{ℕ, ℤ, pos, List, [], ◌∷◌, Bool, true, false, ◌==◌, ◌&&◌, ◌||◌, not, nat_eq, length, drop, Option, Some, None, if◌then◌else◌, codes, option_and_then, slice_get}
use Rattle.std.specs.Borrow.{Bor}
use Rattle.std.specs.Ordering.{int_eq}
use Rattle.std.specs.List.{ends_with, list_any, starts_with}
use Rattle.exif_catalog.specs.declared.known.Known.{Known}
use Rattle.exif_catalog.specs.declared.known.Side.{Side}
use Rattle.exif_catalog.specs.declared.known.Side.TheVariants as side
use Rattle.exif_catalog.specs.declared.known.Stamp.{Stamp}

-- what is behind a folder's path is nothing, or begins behind a `/` (47)
abbrev pub ends_folder : List ℕ → List ℕ → Bool
ends_folder root [] = true
ends_folder root (byte ∷ rest) = byte == 47 || ends_with nat_eq root (codes "/")

-- a path is a root, or below it
abbrev pub is_below : List ℕ → List ℕ → Bool
is_below path root =
    if starts_with nat_eq path root then ends_folder root (drop (length root) path) else false

-- the same of one of the roots
abbrev pub is_below_any : List ℕ → List (Bor (List ℕ)) → Bool
is_below_any path roots = list_any (λ root. is_below path root.now) roots

-- How a row's mark changes, if it does, by whether the file was seen, the mark, and whether it is
-- below the roots: a file that was seen is not removed, and one that was looked for and not seen
-- is.
abbrev pub mark_for : Bool → Bool → Bool → Option Bool
mark_for true true below = Some false
mark_for true false below = None
mark_for false true below = None
mark_for false false below = if below then Some true else None

-- the same of a row
abbrev pub mark_of : List ℕ → Known → List (Bor (List ℕ)) → Option Bool
mark_of path known roots = mark_for known.is_seen known.is_removed (is_below_any path roots)

-- the stamp by which a row is up to date: none where it lacks a hash that is needed
abbrev pub stamp_for : Option Stamp → Bool → Bool → Option Stamp
stamp_for stamp needs_hash has_hash = if needs_hash && not has_hash then None else stamp

-- one file, with one length, whose bytes and attributes were not changed since
abbrev pub is_same : Stamp → Stamp → Bool
is_same known stamp = known.size == stamp.size
    && known.modified == stamp.modified && known.modified_ns == stamp.modified_ns
    && known.changed == stamp.changed && known.changed_ns == stamp.changed_ns
    && known.device == stamp.device && known.inode == stamp.inode

-- a stamp that is known is this one
abbrev pub is_stamp : Option Stamp → Stamp → Bool
is_stamp None stamp = false
is_stamp (Some known) stamp = is_same known stamp

-- the same of a row, if there is one
abbrev pub has_stamp : Option Known → Stamp → Bool
has_stamp None stamp = false
has_stamp (Some known) stamp = is_stamp known.stamp stamp

-- a row whose file was seen
abbrev pub seen : Known → Known
seen known = record known { is_seen = true }

-- What a picture may be of a move: one that had no row as the run began is new, and one below the
-- roots that was not seen is gone.
abbrev pub side_of : Option Known → List ℕ → List (Bor (List ℕ)) → Option Side
side_of None path roots = Some side.New
side_of (Some known) path roots =
    if not known.is_seen && is_below_any path roots then Some side.Gone else None

-- a part of a stamp, if it is there
abbrev pub part : List (Option ℕ) → ℕ → Option ℕ
part parts at = option_and_then (λ number. number) (slice_get parts at)

-- a stamp of its seven parts, if all are there
abbrev pub stamp_from : List (Option ℕ) → Option Stamp
stamp_from parts =
    option_and_then (λ size. option_and_then (λ modified. option_and_then (λ modified_ns.
    option_and_then (λ changed. option_and_then (λ changed_ns. option_and_then (λ device.
    option_and_then (λ inode. Some (record {
      size = size;
      modified = modified;
      modified_ns = modified_ns;
      changed = changed;
      changed_ns = changed_ns;
      device = device;
      inode = inode;
    })) (part parts 6)) (part parts 5)) (part parts 4)) (part parts 3)) (part parts 2))
    (part parts 1)) (part parts 0)

-- a number that is 0: neither NULL nor another one
abbrev pub is_no : Option ℤ → Bool
is_no None = false
is_no (Some n) = int_eq n (pos 0)

-- what is known of a picture before a run: its row has a mark that is not 0, or it has a hash
abbrev pub known_from : Option Stamp → Option ℤ → Option ℤ → Bool → Known
known_from stamp removed lacks_hash needs_hash = record {
  stamp = stamp_for stamp needs_hash (is_no lacks_hash);
  is_removed = not (is_no removed);
  is_seen = false;
}
