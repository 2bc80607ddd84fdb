-- GPS directories to which data point, whether or not reading visits them (TIFF 6.0, section 2;
-- TIFF Technical Note 1, "TIFF Trees"; Exif 2.32, 4.6.3).
use Rattle.std.specs.Prelude.{ℕ, zero, suc, ◌+◌, ◌-◌, ◌*◌, ◌/◌, ◌==◌, ◌&&◌, ◌||◌, nat_le, nat_lt, min, Bool, true, false, not, if◌then◌else◌, List, [], ◌∷◌, ◌++◌, length, take, slice_index, Result, Ok, Err}
use Rattle.std.specs.List.{filter, flat_map, list_any}
use Rattle.exif_base.specs.Bytes.{Reading, items_at, number_at}
use Rattle.exif_base.specs.Orders.{number_of, order_named}
use Rattle.exif_tiff.specs.Trace.{directory_end, entry_offsets}
use Rattle.exif_tiff.specs.declared.fault.Fault.{Fault}
use Rattle.exif_edit_base.specs.Causes.{Cause, of_data, ◌>>=◌}
use Rattle.exif_edit_base.specs.Locations.{visited_gps}
use Rattle.exif_edit_base.specs.Readings.{reading}
use Rattle.exif_edit_base.specs.declared.offsets.Target.{Target}
use Rattle.exif_edit_base.specs.declared.offsets.Target.TheVariants.{Gps, Child}

-- at most so many directories are followed, and of each so many pointers
abbrev pub max_directories : ℕ
max_directories = 1000

abbrev pub max_pointers : ℕ
max_pointers = 256

-- ---- the pointers of a directory

-- whether a tag's values are offsets of such directories: of GPS data; or of Exif data, of
-- interoperability data and of other pictures
abbrev pub points_to : Target → ℕ → Bool
points_to Gps n = n == 0x8825
points_to Child n = (n == 0x14a) || ((n == 0x8769) || (n == 0xa005))

-- whether values of a type are read as offsets: SHORT, LONG, SLONG and IFD
abbrev pub is_offset_type : ℕ → Bool
is_offset_type t = (t == 3) || ((t == 4) || ((t == 9) || (t == 13)))

-- how many bytes an offset of a type takes
abbrev pub offset_len : ℕ → ℕ
offset_len t = if t == 3 then 2 else 4

-- how many offsets of a type so many bytes have
abbrev pub fitting : ℕ → ℕ → ℕ
fitting t n = if t == 3 then n / 2 else n / 4

-- the type of the value of the entry at e
abbrev pub type_at : Reading → List ℕ → ℕ → ℕ
type_at number bytes e = number_at number 2 bytes (e + 2)

-- where the offsets in the entry at e are: in the entry if they take at most four bytes
abbrev pub values_offset : Reading → List ℕ → ℕ → ℕ
values_offset number bytes e =
    if nat_le (offset_len (type_at number bytes e) * number_at number 4 bytes (e + 4)) 4 then e + 8
    else number_at number 4 bytes (e + 8)

-- how many of them are in the data
abbrev pub values_count : Reading → List ℕ → ℕ → ℕ
values_count number bytes e =
    min (min (number_at number 4 bytes (e + 4)) max_pointers)
    (fitting (type_at number bytes e) (length bytes - values_offset number bytes e))

-- the offsets in the entry at e
abbrev pub offsets_in : Reading → List ℕ → ℕ → List ℕ
offsets_in number bytes e =
    let len = offset_len (type_at number bytes e) in
    items_at (number_at number len bytes) len (values_count number bytes e)
    (values_offset number bytes e)

-- the same, if they are those of such directories
abbrev pub pointers_in : Target → Reading → List ℕ → ℕ → List ℕ
pointers_in target number bytes e =
    if points_to target (number_at number 2 bytes e) && is_offset_type (type_at number bytes e)
    then offsets_in number bytes e else []

-- the first pointers of the directory at p to such directories
unfoldable pub pointers : Target → Reading → List ℕ → ℕ → List ℕ
pointers target number bytes p =
    take max_pointers (flat_map (pointers_in target number bytes) (entry_offsets number bytes p))

-- ---- the directories

-- whether a directory can be at p: behind the header, with its count in the data
abbrev pub is_usable : List ℕ → ℕ → Bool
is_usable bytes p = nat_le 8 p && nat_le (p + 2) (length bytes)

-- whether it is none of those that were found, and these are not too many
abbrev pub is_new : List ℕ → List ℕ → ℕ → Bool
is_new bytes found p =
    is_usable bytes p
    && (nat_lt (length found) max_directories && not (list_any (λ q. q == p) found))

-- those that were found, with one more if it is new
abbrev pub noted_new : List ℕ → List ℕ → ℕ → List ℕ
noted_new bytes found p = if is_new bytes found p then found ++ p ∷ [] else found

-- the same of several, one after another
abbrev pub all_noted : List ℕ → List ℕ → List ℕ → List ℕ
all_noted bytes found [] = found
all_noted bytes found (p ∷ ps) = all_noted bytes (noted_new bytes found p) ps

-- an offset, or 0 where there is none
abbrev pub offset_or_zero : Result ℕ Fault → ℕ
offset_or_zero (Ok next) = next
offset_or_zero (Err fault) = 0

-- where the directory is that follows the one at p
abbrev pub next_offset : Reading → List ℕ → ℕ → ℕ
next_offset number bytes p = offset_or_zero (directory_end number bytes p)

-- those of a chain that were found, and the rest of it from p on
unfoldable pub chain_from : ℕ → Reading → List ℕ → List ℕ → ℕ → List ℕ
chain_from zero number bytes found p = found
chain_from (suc left) number bytes found p = elim (is_new bytes found p) [
  | false ↦ found
  | true ↦ chain_from left number bytes (found ++ p ∷ []) (next_offset number bytes p)
]

-- the directories that were found, the first i of them with all to which they point, and then the
-- others with theirs
unfoldable pub children_from : ℕ → Reading → List ℕ → ℕ → List ℕ → List ℕ
children_from zero number bytes i found = found
children_from (suc left) number bytes i found = elim (nat_lt i (length found)) [
  | false ↦ found
  | true ↦ children_from left number bytes (i + 1)
      (all_noted bytes found (pointers Child number bytes (slice_index found i)))
]

-- the directories of the whole chain, and all to which they point, but for GPS directories
unfoldable pub all_directories : Reading → List ℕ → List ℕ
all_directories number bytes =
    children_from max_directories number bytes 0
    (chain_from max_directories number bytes [] (number_at number 4 bytes 4))

-- their pointers to GPS directories
unfoldable pub gps_pointers : Reading → List ℕ → List ℕ
gps_pointers number bytes =
    flat_map (pointers Gps number bytes) (all_directories number bytes)

-- the GPS directories that reading visits, and then the others
unfoldable pub gps_offsets : Reading → List ℕ → List ℕ
gps_offsets number bytes = all_noted bytes (visited_gps bytes) (gps_pointers number bytes)

-- ---- what is left over

-- whether a pointer to q leads to none of these directories, and behind the header
abbrev pub is_left : List ℕ → List ℕ → ℕ → Bool
is_left bytes offsets q =
    nat_le 8 q && not (is_usable bytes q && list_any (λ p. p == q) offsets)

-- the pointers to GPS directories outside of the data or over a limit
abbrev pub left_pointers : Reading → List ℕ → List ℕ
left_pointers number bytes =
    filter (is_left bytes (gps_offsets number bytes)) (gps_pointers number bytes)

-- whether the directory at p has as many pointers as are followed
abbrev pub is_full : Reading → List ℕ → ℕ → Bool
is_full number bytes p =
    (length (pointers Child number bytes p) == max_pointers)
    || (length (pointers Gps number bytes p) == max_pointers)

-- whether there are as many directories or pointers as are followed, so that there may be more
abbrev pub meets_limit : Reading → List ℕ → Bool
meets_limit number bytes =
    (length (all_directories number bytes) == max_directories)
    || list_any (is_full number bytes) (all_directories number bytes)

-- what may be GPS data and is not erased with them
pub record Left : Type 0 where
  pub pointers : List ℕ
  pub meets_limit : Bool

-- what is left over of data, or the fault of their header
unfoldable pub leftovers : List ℕ → Result Left Cause
leftovers bytes = do
  read ← of_data (reading bytes)
  let number = number_of (order_named read.little) in Ok (record {
    pointers = left_pointers number bytes;
    meets_limit = meets_limit number bytes;
  })
