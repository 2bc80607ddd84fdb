-- The counts of entries, and where the values of directories end, from the entries as they come.
use Rattle.std.proofs.Common.{◌≡◌, ℕ, ◌+◌, List, [], ◌∷◌, ◌++◌, length, map, refl, ap, ◌∙◌, arith, Option, Some, None}
use Rattle.std.proofs.lemmas.List.{length-append, length-map}
use Rattle.exif_table.specs.declared.context.Context.{Context}
use Rattle.exif_table.specs.declared.context.Context.TheVariants.{Tiff, Exif, Gps, Interop}
use Rattle.exif_layout.specs.declared.block_kind.BlockKind.{BlockKind}
use Rattle.exif_layout.specs.declared.block_kind.BlockKind.TheVariants.{Strips, Tiles, Jpeg}
use Rattle.exif_layout.specs.Groups.{Group, single}
use Rattle.exif_layout.specs.Slots.{Slot, known, in_tag_order, set_slots, block_slots, pointer_slots, unsorted, slots_of, tiff_slots, exif_slots, gps_slots, interop_slots}
use Rattle.exif_layout.specs.Offsets.{directory_len, after_values}
use Rattle.exif_layout.specs.Counting.{set_count, pointer_count, entry_count, exif_count, gps_count, interop_count, counted_len}
use Rattle.exif_layout.specs.Measuring.{span, last_out, end_from}
use Rattle.exif_layout.proofs.Images.Sorting.{length-sorted}
use Rattle.exif_layout.proofs.Images.Exact.{end_is}

-- what is written is what comes, in tag order
pub slots_sorted : (group : Group) (context : Context) → slots_of group context ≡ in_tag_order (unsorted group context)
unfolding tiff_slots exif_slots gps_slots interop_slots
slots_sorted group Tiff = refl
slots_sorted group Exif = refl
slots_sorted group Gps = refl
slots_sorted group Interop = refl

-- where the values of a directory end
pub values_end_is : (offset : ℕ) (group : Group) (context : Context) → after_values offset (slots_of group context) ≡ end_from offset (span (unsorted group context)) (last_out (unsorted group context))
values_end_is offset group context = ap (after_values offset) (slots_sorted group context) ∙ end_is offset (unsorted group context)

pointer_len : (tag : ℕ) (child : Context) (slots : List Slot) (n : ℕ) → length slots ≡ n → length (pointer_slots tag child slots) ≡ pointer_count n
pointer_len tag child [] n e = ap pointer_count e
pointer_len tag child (slot ∷ slots) n e = ap pointer_count e

set_len : (kind : BlockKind) (texts : Option (List (List ℕ))) → length (set_slots kind texts) ≡ set_count texts
set_len kind None = refl
set_len kind (Some texts) = refl

single_len : (text : Option (List ℕ)) → set_count (single text) ≡ set_count text
single_len None = refl
single_len (Some text) = refl

interop_len : (group : Group) → length (interop_slots group) ≡ interop_count group
unfolding interop_slots
interop_len group = length-sorted (map known group.interop) ∙ length-map group.interop known

gps_len : (group : Group) → length (gps_slots group) ≡ gps_count group
unfolding gps_slots
gps_len group = length-sorted (map known group.gps) ∙ length-map group.gps known

exif_len : (group : Group) → length (exif_slots group) ≡ exif_count group
unfolding exif_slots
exif_len group =
    let p : List Slot = pointer_slots 0xa005 Interop (interop_slots group) in
    length-sorted (map known group.exif ++ p) ∙ length-append (map known group.exif) p
    ∙ (λ i. length-map group.exif known i + pointer_len 0xa005 Interop (interop_slots group) (interop_count group) (interop_len group) i)

tiff_len : (group : Group) → length (tiff_slots group) ≡ entry_count group Tiff
unfolding tiff_slots
tiff_len group =
    let k : List Slot = map known group.tiff in
    let s : List Slot = block_slots group Strips in
    let t : List Slot = block_slots group Tiles in
    let j : List Slot = block_slots group Jpeg in
    let e : List Slot = pointer_slots 0x8769 Exif (exif_slots group) in
    let g : List Slot = pointer_slots 0x8825 Gps (gps_slots group) in
    let all = length-sorted (k ++ s ++ t ++ j ++ e ++ g) in
    let a = length-append (k ++ s ++ t ++ j ++ e) g in
    let b = length-append (k ++ s ++ t ++ j) e in
    let c = length-append (k ++ s ++ t) j in
    let d = length-append (k ++ s) t in
    let f = length-append k s in
    let kl : length k ≡ length group.tiff = length-map group.tiff known in
    let sl : length s ≡ set_count group.strips = set_len Strips group.strips in
    let tl : length t ≡ set_count group.tiles = set_len Tiles group.tiles in
    let jl : length j ≡ set_count group.jpeg = set_len Jpeg (single group.jpeg) ∙ single_len group.jpeg in
    let el : length e ≡ pointer_count (exif_count group) = pointer_len 0x8769 Exif (exif_slots group) (exif_count group) (exif_len group) in
    let gl : length g ≡ pointer_count (gps_count group) = pointer_len 0x8825 Gps (gps_slots group) (gps_count group) (gps_len group) in
    omega arith

-- how many entries a directory has
pub count_is : (group : Group) (context : Context) → length (slots_of group context) ≡ entry_count group context
count_is group Tiff = tiff_len group
count_is group Exif = exif_len group
count_is group Gps = gps_len group
count_is group Interop = interop_len group

len_counted : (slots : List Slot) → directory_len slots ≡ counted_len (length slots)
len_counted [] = refl
len_counted (slot ∷ slots) = refl

-- how long a directory is
pub directory_len_is : (group : Group) (context : Context) → directory_len (slots_of group context) ≡ counted_len (entry_count group context)
directory_len_is group context = len_counted (slots_of group context) ∙ ap counted_len (count_is group context)
