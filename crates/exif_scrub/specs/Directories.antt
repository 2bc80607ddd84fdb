-- Directories that are kept (TIFF 6.0, section 2; Adobe PageMaker 6.0 TIFF Technical Notes, note 1,
-- for the directories below one).
use Rattle.std.specs.Prelude.{ℕ, zero, suc, ◌+◌, ◌*◌, ◌==◌, Bool, true, false, List, Option, Some, None, Result, Ok, Err, if◌then◌else◌}
use Rattle.exif_base.specs.Bytes.{Reading}
use Rattle.exif_base.specs.Orders.{number_of}
use Rattle.exif_base.specs.declared.endian.Order.{Order}
use Rattle.exif_layout.specs.Encoding.{spelled}
use Rattle.exif_scrub.specs.Entries.{count_of, entry_kept, entry_named, entry_tested, item_at}
use Rattle.exif_scrub.specs.Keeping.{◌>>=◌, kept_bytes, number_in}
use Rattle.exif_scrub.specs.Pictures.{picture_visited}
use Rattle.exif_scrub.specs.Shapes.{entries_shaped}
use Rattle.exif_scrub.specs.declared.tiff.fault.Fault.{Fault}
use Rattle.exif_scrub.specs.declared.tiff.fault.Fault.TheVariants.{NotSupported, TooManyDirectories}
use Rattle.exif_scrub.specs.declared.tiff.pass.Pass.{Pass}
use Rattle.exif_scrub.specs.declared.tiff.pass.Pass.TheVariants.{Keep, Pictures, Tags}

-- how many entries stay, with one more where it does
abbrev pub one_more : Bool → ℕ → ℕ
one_more true kept = kept + 1
one_more false kept = kept

-- the new file with so many entries from e on, of which so many were kept, and how many those are
abbrev pub entries_kept : Reading → List ℕ → Bool → Bool → ℕ → ℕ → ℕ → ℕ → List ℕ
    → Result (ℕ × List ℕ) Fault
entries_kept number old keeps_orientation is_nested first zero e kept new = Ok (kept, new)
entries_kept number old keeps_orientation is_nested first (suc left) e kept new =
    entry_kept number old keeps_orientation is_nested e (first + 12 * kept) new
    >>= λ made. entries_kept number old keeps_orientation is_nested first left (e + 12)
    (one_more made.0 kept) made.1

-- the new file with the count of a directory and the offset of the next one, behind so many of its
-- entries, and with its picture
abbrev pub directory_closed : Order → List ℕ → Bool → ℕ → ℕ → ℕ × List ℕ
    → Result (List ℕ) Fault
directory_closed order old keeps_orientation p count (kept, new) =
    kept_bytes (spelled order 2 kept) 0 2 p new
    >>= λ counted. kept_bytes old (p + 2 + 12 * count) 4 (p + 2 + 12 * kept) counted
    >>= λ closed. picture_visited (number_of order) old (Keep keeps_orientation) count (p + 2)
    closed

-- the same, if the values of its entries that stay are those that their tags have
abbrev pub directory_shaped : Order → List ℕ → Bool → ℕ → ℕ → ℕ × List ℕ
    → Result (List ℕ) Fault
directory_shaped order old keeps_orientation p count made =
    entries_shaped (number_of order) old keeps_orientation count (p + 2) count (p + 2)
    >>= λ u. directory_closed order old keeps_orientation p count made

-- the new file with a directory and its picture
abbrev pub directory_kept : Order → List ℕ → Bool → Bool → ℕ → List ℕ → Result (List ℕ) Fault
directory_kept order old keeps_orientation is_nested p new =
    number_in (number_of order) 2 old p
    >>= λ count. entries_kept (number_of order) old keeps_orientation is_nested (p + 2) count
    (p + 2) 0 new
    >>= λ made. directory_shaped order old keeps_orientation p count made

-- the new file where a walk comes to the picture of a directory alone
abbrev pub directory_picture : Reading → List ℕ → Pass → ℕ → List ℕ → Result (List ℕ) Fault
directory_picture number old pass p new =
    number_in number 2 old p >>= λ count. picture_visited number old pass count (p + 2) new

-- whether so many entries from e on all describe the picture, and no value of theirs has metadata;
-- others are refused
abbrev pub tags_tested : Reading → List ℕ → Bool → ℕ → ℕ → Result Unit Fault
tags_tested number old keeps_orientation zero e = Ok tt
tags_tested number old keeps_orientation (suc left) e =
    entry_tested number old keeps_orientation e
    >>= λ u. tags_tested number old keeps_orientation left (e + 12)

-- the same of a directory, whose values must be those that their tags have
abbrev pub directory_tested : Reading → List ℕ → Bool → ℕ → Result Unit Fault
directory_tested number old keeps_orientation p =
    number_in number 2 old p
    >>= λ count. tags_tested number old keeps_orientation count (p + 2)
    >>= λ u. entries_shaped number old keeps_orientation count (p + 2) count (p + 2)

-- the new file where a walk comes to a directory
abbrev pub directory_visited : Order → List ℕ → Pass → Bool → ℕ → List ℕ
    → Result (List ℕ) Fault
directory_visited order old (Keep keeps_orientation) is_nested p new =
    directory_kept order old keeps_orientation is_nested p new
directory_visited order old Pictures is_nested p new =
    directory_picture (number_of order) old Pictures p new
directory_visited order old (Tags keeps_orientation) is_nested p new =
    directory_tested (number_of order) old keeps_orientation p
    >>= λ u. directory_picture (number_of order) old (Tags keeps_orientation) p new

-- the offset of the directory behind one
abbrev pub next_of : Reading → List ℕ → ℕ → Result ℕ Fault
next_of number old p =
    number_in number 2 old p >>= λ count. number_in number 4 old (p + 2 + 12 * count)

-- the new file after a walk to a directory below another one, behind which there is none
abbrev pub child_walked : Order → List ℕ → Pass → ℕ → List ℕ → Result (List ℕ) Fault
child_walked order old pass p new =
    next_of (number_of order) old p
    >>= λ next. if next == 0 then directory_visited order old pass true p new
    else Err NotSupported

-- the same to so many directories that an entry names, from an index on
abbrev pub children_from : Order → List ℕ → Pass → ℕ → ℕ → ℕ → List ℕ → Result (List ℕ) Fault
children_from order old pass e zero index new = Ok new
children_from order old pass e (suc left) index new =
    item_at (number_of order) old e index
    >>= λ p. child_walked order old pass p new
    >>= children_from order old pass e left (index + 1)

-- the same to those of an entry, if there is one
abbrev pub children_named : Order → List ℕ → Pass → Option ℕ → List ℕ → Result (List ℕ) Fault
children_named order old pass None new = Ok new
children_named order old pass (Some e) new =
    count_of (number_of order) old e
    >>= λ count. children_from order old pass e count 0 new

-- the same to the directories below one
abbrev pub children_walked : Order → List ℕ → Pass → ℕ → List ℕ → Result (List ℕ) Fault
children_walked order old pass p new =
    number_in (number_of order) 2 old p
    >>= λ count. entry_named (number_of order) old 330 count (p + 2)
    >>= λ found. children_named order old pass found new

-- the same to at most so many directories of a chain, and to those below them
unfoldable pub chain_walked : Order → List ℕ → Pass → ℕ → ℕ → List ℕ → Result (List ℕ) Fault
chain_walked order old pass zero p new =
    if p == 0 then Ok new else Err TooManyDirectories
chain_walked order old pass (suc left) p new =
    if p == 0 then Ok new else
    (directory_visited order old pass false p new
    >>= λ made. children_walked order old pass p made
    >>= λ with. next_of (number_of order) old p
    >>= λ next. chain_walked order old pass left next with)
