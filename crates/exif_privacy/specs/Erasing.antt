-- A file without the locations of its parts.
use Rattle.std.specs.Prelude.{ℕ, zero, suc, ◌-◌, List, [], ◌∷◌, map, take, Option, None, Some}
use Rattle.std.specs.List.{flat_map}
use Rattle.std.specs.Option.{option_map}
use Rattle.exif_inventory.specs.declared.kind.Kind.TheVariants as kind
use Rattle.exif_inventory.specs.declared.part.Part.{Part}
use Rattle.exif_privacy.specs.Chunks.{mended}
use Rattle.exif_privacy.specs.Data.{data_of, with_data}
use Rattle.exif_privacy.specs.Files.{parts_of}
use Rattle.exif_privacy.specs.Judging.{judged}
use Rattle.exif_privacy.specs.Parts.{part_answer}
use Rattle.exif_privacy.specs.Portions.{joined, joined_len, put_back}
use Rattle.exif_privacy.specs.declared.remaining.Remaining.{Remaining}
use Rattle.exif_privacy.specs.declared.remaining.Reason.{Reason}
use Rattle.exif_locations.specs.declared.unread.Unread.{Unread}

-- a part that may hold a location, for a reason
abbrev pub stays_for : Part → Reason → Remaining
stays_for part why = record { part = part; why = why }

-- so for each of its reasons
abbrev pub all_stay : Part × List Reason → List Remaining
all_stay (part, whys) = map (stays_for part) whys

-- the parts of a file that may hold a location
abbrev pub found : Unread → List ℕ → List Part → List Remaining
found unread file parts = flat_map all_stay (judged unread file parts)

-- the same of all its parts, if its format is known
abbrev pub found_in : Unread → List ℕ → Option (List Remaining)
found_in unread file = option_map (found unread file) (parts_of file)

-- a file without the locations of a part
abbrev pub part_erased : Unread → Part → List ℕ → List ℕ
part_erased unread part file =
    with_data part (part_answer unread part.kind (data_of part file)).0 file

-- a file without the locations of the packet whose portions are in these parts
abbrev pub joined_erased : Unread → List Part → List ℕ → List ℕ
joined_erased unread parts file =
    put_back parts (part_answer unread kind.Xmp (joined parts file)).0 file

-- a file without the locations of a part, or of the packet in the first n parts
abbrev pub front_erased : Unread → ℕ → Part → List Part → List ℕ → List ℕ
front_erased unread zero part parts file = part_erased unread part file
front_erased unread (suc n) part parts file =
    joined_erased unread (take (suc n) (part ∷ parts)) file

-- a file without the locations of the first of these parts, and how many more these are of
abbrev pub first_erased : Unread → List Part → List ℕ → List ℕ × ℕ
first_erased unread [] file = (file, 0)
first_erased unread (part ∷ parts) file =
    let n = joined_len file (part ∷ parts) in (front_erased unread n part parts file, n - 1)

-- so behind a packet that goes on in so many parts
abbrev pub next_erased : Unread → ℕ → List Part → List ℕ → List ℕ × ℕ
next_erased unread (suc left) parts file = (file, left)
next_erased unread zero parts file = first_erased unread parts file

-- the same with parts one after the other
abbrev pub parts_erased : Unread → ℕ → List Part → List ℕ → List ℕ
parts_erased unread left [] file = file
parts_erased unread left (part ∷ parts) file =
    let next = next_erased unread left (part ∷ parts) file in
    parts_erased unread next.1 parts next.0

-- a file without the locations of these parts, if there are some, and with the CRCs of chunks that
-- were changed
abbrev pub erased_by : Unread → List ℕ → Option (List Part) → List ℕ
erased_by unread file None = file
erased_by unread file (Some parts) = mended file parts (parts_erased unread 0 parts file)

-- a file without the locations of its parts, and those that may still hold one then, if its format
-- is known
abbrev pub erased : Unread → List ℕ → List ℕ × Option (List Remaining)
erased unread file =
    let new = erased_by unread file (parts_of file) in (new, found_in unread new)
