-- The subjects of metadata items: by the types of their boxes, or by keys (QuickTime File Format,
-- "Metadata Item Keys Atom", "Metadata Item List Atom").
use Rattle.std.specs.Prelude.{ℕ, zero, suc, ◌-◌, List, [], ◌∷◌, length, take, drop, slice_index, codes, nat_lt, Bool, false, ◌||◌, ◌==◌, Option, Some, None, if◌then◌else◌}
use Rattle.exif_movie.specs.Bytes.{begins, number}
use Rattle.exif_movie.specs.Kinds.{user_subject}
use Rattle.exif_movie.specs.declared.kind.Subject.{Subject}
use Rattle.exif_movie.specs.declared.kind.Subject.TheVariants as subject

-- whether bytes contain a word
abbrev pub has_bytes : List ℕ → List ℕ → Bool
has_bytes word [] = false
has_bytes word (b ∷ bytes) = begins word (b ∷ bytes) || has_bytes word bytes

-- whether a key is one of a location, by words in it
abbrev pub is_of_location : List ℕ → Bool
is_of_location key =
    has_bytes (codes "ocation") key || has_bytes (codes "OCATION") key
    || has_bytes (codes "6709") key
    || has_bytes (codes "xyz") key || has_bytes (codes "gps") key || has_bytes (codes "GPS") key
    || has_bytes (codes "atitude") key || has_bytes (codes "ongitude") key
    || has_bytes (codes "oordinate") key

-- the subject of a key that is of no location
abbrev pub plain_subject : List ℕ → Subject
plain_subject key =
    if has_bytes (codes "date") key then subject.Date else
    if has_bytes (codes "make") key || has_bytes (codes "manufacturer") key then subject.Make else
    if has_bytes (codes "model") key then subject.Model else
    if has_bytes (codes "software") key || has_bytes (codes "encoder") key
    then subject.Software else
    subject.Other

-- the subject of a key; one that is too long may be of a location
abbrev pub key_subject : List ℕ → Subject
key_subject key =
    if nat_lt 256 (length key) || is_of_location key then subject.Location else plain_subject key

-- a key of this size, if it is whole
abbrev pub sized_key : List ℕ → ℕ → Option ℕ
sized_key bytes size = if nat_lt size 8 || nat_lt (length bytes) size then None else Some size

-- how many bytes the first key takes, if it is whole
abbrev pub key_size : List ℕ → Option ℕ
key_size bytes = if nat_lt (length bytes) 8 then None else sized_key bytes (number bytes)

-- what follows from a size; without one, the key may be of a location
abbrev pub by_size : Option ℕ → (ℕ → Subject) → Subject
by_size None next = subject.Location
by_size (Some size) next = next size

-- the subject of the key after n others
unfoldable pub subject_at : ℕ → List ℕ → Subject
subject_at zero keys = by_size (key_size keys) (λ size. key_subject (take (size - 8) (drop 8 keys)))
subject_at (suc n) keys = by_size (key_size keys) (λ size. subject_at n (drop size keys))

-- the subject of an item whose key has this number, counted from 1
abbrev pub numbered_subject : ℕ → List ℕ → Subject
numbered_subject n keys =
    if (n == 0) || nat_lt 1024 n then subject.Location else subject_at (n - 1) keys

-- the subject of an item whose type is the number of its key
abbrev pub keyed_subject : List ℕ → List ℕ → Subject
keyed_subject name keys = numbered_subject (number name) keys

-- the subject of an item, by the type of its box, or by the keys if the type is a number
abbrev pub item_subject : List ℕ → List ℕ → Subject
item_subject name keys =
    if nat_lt (length name) 4 then subject.Location else
    if slice_index name 0 == 0 then keyed_subject name keys else user_subject name
