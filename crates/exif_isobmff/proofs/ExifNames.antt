-- The Exif data of a HEIF file are refused by a named refusal only.
use Rattle.std.proofs.Common.{ℕ, zero, suc, ◌+◌, ◌-◌, ◌^◌, Bool, true, false, cond, eqb, leb, ltb, not, ◌&&◌, ◌||◌, List, [], ◌∷◌, ◌++◌, length, Option, Some, None, Result, Ok, Err, IfErr, IfSome, refl, arith}
use Rattle.std.specs.List.{Contains, find, list_any}
use Rattle.byteorder.specs.Endian.{big_number}
use Rattle.std.specs.Prelude.{unwrap_or}
use Rattle.exif_types.specs.Refusals.{Refusal, ◌>>=◌, all_pass, joined, last_read, or_refuse, unless_refused, Front}
use Rattle.exif_isobmff.specs.HeifRefusals.{heif_refusals, too_small, broken_file, no_exif, unsupported_infe}
use Rattle.exif_isobmff.specs.declared.kind.Kind.{Kind}
use Rattle.exif_isobmff.specs.declared.kind.Kind.TheVariants.{FileType, ItemInfo, ItemInfoEntry}
use Rattle.exif_isobmff.specs.Kinds.{same_kind}
use Rattle.exif_isobmff.specs.declared.extents.Within.{Within}
use Rattle.exif_isobmff.specs.declared.extents.Within.TheVariants.{File, ItemDataBox}
use Rattle.exif_isobmff.specs.declared.locations.Extent.{Extent}
use Rattle.exif_isobmff.specs.declared.locations.Sizes.{Sizes}
use Rattle.exif_isobmff.specs.Boxes.{Part, Parts, and_then, bytes_at, pass_at, number_at, version_at, times, header_len, box_size, header_at, box_at, boxes, filling, all_boxes, children, bodies, read_each}
use Rattle.exif_isobmff.specs.Items.{entry_width, exif_number, exif_numbers}
use Rattle.exif_isobmff.specs.ItemLocations.{ItemExtents, sized_at, extent_at, method_at, item_width, item_head_at, location_at, locations, sizes, file_extent, idat_extent, extent_bytes, gathered, item_bytes}
use Rattle.exif_isobmff.specs.HeifFile.{file_box_at, file_boxes, has_heif_brand, whole, checked, before_meta, is_meta, is_ftyp, meta_body}
use Rattle.exif_isobmff.specs.Heif.{tables_of, meta_tables, after_header, exif_item, exif_block, exif_of}

-- an answer that is refused by a named refusal only
abbrev pub Only : {A : Type 0} → Result A Refusal → Type 0
Only answer = IfErr answer (Contains heif_refusals)

-- a step, and what follows it
pub only_then : {A B : Type 0} (x : Result A Refusal) (f : A → Result B Refusal) → Only x → ((a : A) → Only (f a)) → Only (x >>= f)
only_then (Ok a) f h k = k a
only_then (Err r) f h k = h

-- one of two answers
pub only_if : {A : Type 0} (b : Bool) (x y : Result A Refusal) → Only x → Only y → Only (cond b x y)
only_if true x y h k = h
only_if false x y h k = k

or_only : {A : Type 0} (o : Option A) (r : Refusal) → Contains heif_refusals r → Only (or_refuse o r)
or_only (Some x) r h = tt
or_only None r h = h

unless_only : (o : Option Refusal) → IfSome o (Contains heif_refusals) → Only (unless_refused o)
unless_only None h = tt
unless_only (Some r) h = h

joined_only : {A B : Type 0} (f : A → Result (List B) Refusal) → ((x : A) → Only (f x)) → (xs : List A) → Only (joined f xs)
joined_only f h [] = tt
joined_only f h (x ∷ xs) = only_then (f x) _ (h x) (λ ys. only_then (joined f xs) _ (joined_only f h xs) (λ rest. tt))

all_only : {A : Type 0} (f : A → Result (Unit {0}) Refusal) → ((x : A) → Only (f x)) → (xs : List A) → Only (all_pass f xs)
all_only f h [] = tt
all_only f h (x ∷ xs) = only_then (f x) _ (h x) (λ u. all_only f h xs)

last_only : {A : Type 0} (found : Option A) (read : Result (List A) Refusal) → Only read → Only (last_read found read)
last_only found read h = only_then read _ h (λ xs. tt)

-- ---- boxes

small : Contains heif_refusals too_small
small = (5, omega arith, refl)

broken : Contains heif_refusals broken_file
broken = (0, omega arith, refl)

bytes_only : (n : ℕ) (text : List ℕ) → Only (bytes_at n text)
bytes_only n text = only_if (ltb (length text) n) _ _ small tt

pass_only : (n : ℕ) (text : List ℕ) → Only (pass_at n text)
pass_only n text = only_if (ltb (length text) n) _ _ small tt

number_only : (n : ℕ) (text : List ℕ) → Only (number_at n text)
number_only n text = only_if (ltb (length text) n) _ _ small tt

version_only : (text : List ℕ) → Only (version_at text)
version_only text = only_if (ltb (length text) 4) _ _ small tt

times_only : {A : Type 0} (value : List ℕ → Front A) → ((text : List ℕ) → Only (value text)) → (n : ℕ) (text : List ℕ) → Only (times n value text)
unfolding times
times_only value h zero text = tt
times_only value h (suc n) text = only_then (value text) _ (h text) (λ x. only_then (times n value x.1) _ (times_only value h n x.1) (λ xs. tt))

header_only : (text : List ℕ) → Only (header_at text)
unfolding header_at
header_only text = only_if (ltb (box_size text) (header_len text)) _ _ (1, omega arith, refl) tt

box_only : (text : List ℕ) → Only (box_at text)
unfolding box_at
box_only text =
    only_if (leb (header_len text) (length text)) _ _ (only_then (header_at text) _ (header_only text) (λ h. only_then (bytes_at h.0.len h.1) _ (bytes_only h.0.len h.1) (λ b. tt))) small

file_box_only : (text : List ℕ) → Only (file_box_at text)
unfolding file_box_at
file_box_only text = only_if (leb (header_len text) (length text)) _ _ (only_then (header_at text) _ (header_only text) (λ h. tt)) broken

-- what ends boxes early has a name
abbrev Ends : Parts → Type 0
Ends parts = IfSome parts.fault (Contains heif_refusals)

and_then_ends : (r : Front Part) (others : List ℕ → Parts) → Only r → ((rest : List ℕ) → Ends (others rest)) → Ends (and_then r others)
and_then_ends (Ok p) others h k = k p.1
and_then_ends (Err r) others h k = h

boxes_end : (n : ℕ) (text : List ℕ) → Ends (boxes n text)
unfolding boxes
boxes_end zero text = tt
boxes_end (suc n) text = and_then_ends (box_at text) (boxes n) (box_only text) (boxes_end n)

filling_ends : (box : List ℕ → Front Part) → ((text : List ℕ) → Only (box text)) → (n : ℕ) (text : List ℕ) → Ends (filling box n text)
filling_ends box h zero text = tt
filling_ends box h (suc n) [] = tt
filling_ends box h (suc n) (b ∷ text) = and_then_ends (box (b ∷ text)) (filling box n) (h (b ∷ text)) (filling_ends box h n)

all_boxes_end : (box : List ℕ → Front Part) → ((text : List ℕ) → Only (box text)) → (text : List ℕ) → Ends (all_boxes box text)
unfolding all_boxes
all_boxes_end box h text = filling_ends box h (length text) text

read_each_only : {A : Type 0} (kind : Kind) (read : List ℕ → Result (List A) Refusal) → ((text : List ℕ) → Only (read text)) → (parts : Parts) → Ends parts → Only (read_each kind read parts)
read_each_only kind read h parts end =
    only_then (joined read (bodies kind parts)) _ (joined_only read h (bodies kind parts)) (λ found. only_then (unless_refused parts.fault) _ (unless_only parts.fault end) (λ w. tt))

-- ---- items

exif_number_only : (body : List ℕ) → Only (exif_number body)
unfolding exif_number
exif_number_only body =
    only_then (version_at body) _ (version_only body) (λ v.
    only_then (or_refuse (entry_width v.0) unsupported_infe) _ (or_only (entry_width v.0) unsupported_infe (7, omega arith, refl)) (λ w.
    only_then (number_at w v.1) _ (number_only w v.1) (λ n.
    only_then (bytes_at 2 n.1) _ (bytes_only 2 n.1) (λ p.
    only_then (bytes_at 4 p.1) _ (bytes_only 4 p.1) (λ t. tt)))))

exif_numbers_only : (body : List ℕ) → Only (exif_numbers body)
unfolding exif_numbers
exif_numbers_only body =
    only_then (version_at body) _ (version_only body) (λ v.
    only_then (number_at (cond (eqb v.0 0) 2 4) v.1) _ (number_only (cond (eqb v.0 0) 2 4) v.1) (λ n.
    read_each_only ItemInfoEntry exif_number exif_number_only (boxes n.0 n.1) (boxes_end n.0 n.1)))

-- ---- offsets

sized_only : (r : Refusal) → Contains heif_refusals r → (size : ℕ) (text : List ℕ) → Only (sized_at r size text)
sized_only r h size text = only_if (eqb size 0 || eqb size 4 || eqb size 8) _ _ (number_only size text) h

extent_only : (s : Sizes) (text : List ℕ) → Only (extent_at s text)
unfolding extent_at
extent_only s text =
    only_then (sized_at _ s.index text) _ (sized_only _ (11, omega arith, refl) s.index text) (λ i.
    only_then (sized_at _ s.offset i.1) _ (sized_only _ (12, omega arith, refl) s.offset i.1) (λ o.
    only_then (sized_at _ s.len o.1) _ (sized_only _ (13, omega arith, refl) s.len o.1) (λ l. tt)))

method_only : (version : ℕ) (text : List ℕ) → Only (method_at version text)
method_only version text = only_if (eqb version 0) _ _ tt (only_then (bytes_at 2 text) _ (bytes_only 2 text) (λ b. tt))

item_head_only : (version : ℕ) (s : Sizes) (text : List ℕ) → Only (item_head_at version s text)
unfolding item_head_at
item_head_only version s text =
    only_then (number_at (item_width version) text) _ (number_only (item_width version) text) (λ n.
    only_then (method_at version n.1) _ (method_only version n.1) (λ m.
    only_then (number_at 2 m.1) _ (number_only 2 m.1) (λ r.
    only_then (cond (eqb m.0 0 && not (eqb r.0 0)) (Err _) (sized_at _ s.base r.1)) _
    (only_if (eqb m.0 0 && not (eqb r.0 0)) (Err _) (sized_at _ s.base r.1) (9, omega arith, refl) (sized_only _ (10, omega arith, refl) s.base r.1)) (λ b.
    only_then (number_at 2 b.1) _ (number_only 2 b.1) (λ c. tt)))))

location_only : (wanted version : ℕ) (s : Sizes) (text : List ℕ) → Only (location_at wanted version s text)
unfolding location_at
location_only wanted version s text =
    only_then (item_head_at version s text) _ (item_head_only version s text) (λ h.
    only_if (eqb h.0.number wanted) _ _
    (only_then (times h.0.count (extent_at s) h.1) _ (times_only (extent_at s) (extent_only s) h.0.count h.1) (λ e. tt))
    (only_then (pass_at _ h.1) _ (pass_only _ h.1) (λ p. tt)))

locations_only : (wanted : ℕ) (body : List ℕ) → Only (locations wanted body)
unfolding locations
locations_only wanted body =
    only_then (version_at body) _ (version_only body) (λ v.
    only_then (number_at 2 v.1) _ (number_only 2 v.1) (λ p.
    only_then (cond (ltb 2 v.0) (Err _) (number_at (item_width v.0) p.1)) _ (only_if (ltb 2 v.0) (Err _) (number_at (item_width v.0) p.1) (8, omega arith, refl) (number_only (item_width v.0) p.1)) (λ c.
    only_then (times c.0 (location_at wanted v.0 (sizes v.0 p.0)) c.1) _
    (times_only (location_at wanted v.0 (sizes v.0 p.0)) (location_only wanted v.0 (sizes v.0 p.0)) c.0 c.1) (λ all. tt))))

file_extent_only : (file : List ℕ) (base : ℕ) (e : Extent) → Only (file_extent file base e)
unfolding file_extent
file_extent_only file base e =
    only_if (leb (2 ^ 64) (base + e.offset)) _ _ (17, omega arith, refl) (only_if (eqb e.len 0) _ _ tt (only_if (ltb (length file) (base + e.offset + e.len)) _ _ broken tt))

idat_extent_only : (idat : List ℕ) (base : ℕ) (e : Extent) → Only (idat_extent idat base e)
unfolding idat_extent
idat_extent_only idat base e =
    only_if (leb (2 ^ 64) (base + e.offset)) _ _ (17, omega arith, refl)
    (only_if (leb (2 ^ 64) (base + e.offset + e.len)) _ _ (19, omega arith, refl)
    (only_if (ltb (length idat) (base + e.offset + e.len)) _ _ (20, omega arith, refl) (only_if (eqb e.len 0) _ _ tt tt)))

extent_bytes_only : (within : Within) (bytes : List ℕ) (base : ℕ) (e : Extent) → Only (extent_bytes within bytes base e)
extent_bytes_only File bytes base e = file_extent_only bytes base e
extent_bytes_only ItemDataBox bytes base e = idat_extent_only bytes base e

-- extents that are each refused only by the list are gathered, or refused only by it
pub gathered_only : (bytes_of : Extent → Result (List ℕ) Refusal) → ((e : Extent) → Only (bytes_of e)) → (front : List ℕ) (es : List Extent) → Only (gathered bytes_of front es)
gathered_only bytes_of h front [] = tt
gathered_only bytes_of h front (e ∷ es) =
    only_then (bytes_of e) _ (h e) (λ bytes. only_if (ltb 65535 (length (front ++ bytes))) _ _ (23, omega arith, refl) (gathered_only bytes_of h (front ++ bytes) es))

-- an item's bytes, by whichever construction method, are refused only by the list
pub item_bytes_only : (file : List ℕ) (idat : Option (List ℕ)) (p : ItemExtents) → Only (item_bytes file idat p)
unfolding item_bytes
item_bytes_only file idat p =
    only_if (eqb p.method 0) _ _ (gathered_only (extent_bytes File file p.base) (extent_bytes_only File file p.base) [] p.extents)
    (only_if (eqb p.method 1) _ _
    (only_then (or_refuse idat _) _ (or_only idat _ (18, omega arith, refl)) (λ beside.
    gathered_only (extent_bytes ItemDataBox beside p.base) (extent_bytes_only ItemDataBox beside p.base) [] p.extents))
    (only_if (eqb p.method 2) _ _ (21, omega arith, refl) (22, omega arith, refl)))

-- ---- a file

whole_only : (len : ℕ) (body : List ℕ) → Only (whole len body)
whole_only len body = only_if (ltb (length body) len) _ _ broken tt

checked_only : (kind : Kind) (len : ℕ) (body : List ℕ) → Only (checked kind len body)
checked_only kind len body =
    only_if (same_kind FileType kind) _ _
    (only_then (whole len body) _ (whole_only len body) (λ b. only_if (ltb (length b) 8) _ _ small (only_if (has_heif_brand b) _ _ tt (3, omega arith, refl))))
    (only_if (leb (2 ^ 63) len) _ _ (2, omega arith, refl) tt)

unwrap_only : (o : Option Refusal) → IfSome o (Contains heif_refusals) → Contains heif_refusals (unwrap_or o no_exif)
unwrap_only None h = (16, omega arith, refl)
unwrap_only (Some r) h = h

-- the body of the meta box is found, or refused only by the list
pub meta_body_only : (file : List ℕ) → Only (meta_body file)
unfolding meta_body
meta_body_only file =
    let parts = file_boxes file in
    only_then (all_pass (λ p. checked p.kind p.len p.body) (before_meta parts.whole)) _ (all_only (λ p. checked p.kind p.len p.body) (λ p. checked_only p.kind p.len p.body) (before_meta parts.whole)) (λ u.
    only_then (or_refuse (find is_meta parts.whole) (unwrap_or parts.fault no_exif)) _
    (or_only (find is_meta parts.whole) (unwrap_or parts.fault no_exif) (unwrap_only parts.fault (all_boxes_end file_box_at file_box_only file))) (λ m.
    only_if (list_any is_ftyp (before_meta parts.whole)) _ _ (whole_only m.len m.body) (4, omega arith, refl)))

tables_only : (parts : Parts) → Ends parts → Only (tables_of parts)
tables_only parts end =
    only_then (last_read None (read_each ItemInfo exif_numbers parts)) _ (last_only None (read_each ItemInfo exif_numbers parts) (read_each_only ItemInfo exif_numbers exif_numbers_only parts end)) (λ item. tt)

meta_tables_only : (body : List ℕ) → Only (meta_tables body)
unfolding meta_tables
meta_tables_only body =
    only_then (version_at body) _ (version_only body) (λ v. only_if (eqb v.0 0) _ _ (tables_only (children v.1) (all_boxes_end box_at box_only v.1)) (6, omega arith, refl))

-- what is behind a block's header is found, or refused only by the list
pub after_header_only : (block : List ℕ) → Only (after_header block)
unfolding after_header
after_header_only block =
    only_if (ltb (length block) 4) _ _ (24, omega arith, refl) (only_if (ltb (length block - 4) (big_number 4 block)) _ _ (25, omega arith, refl) tt)

-- where the Exif item is, is refused by a refusal of the list
pub exif_item_only : (meta : List ℕ) → Only (exif_item meta)
unfolding exif_item
exif_item_only meta =
    only_then (meta_tables meta) _ (meta_tables_only meta) (λ t.
    only_then (or_refuse t.item _) _ (or_only t.item _ (16, omega arith, refl)) (λ item.
    only_then (or_refuse t.iloc _) _ (or_only t.iloc _ (15, omega arith, refl)) (λ iloc.
    only_then (last_read None (locations item iloc)) _ (last_only None (locations item iloc) (locations_only item iloc)) (λ found.
    only_then (or_refuse found _) _ (or_only found _ (14, omega arith, refl)) (λ x. tt)))))

exif_block_only : (file meta : List ℕ) → Only (exif_block file meta)
unfolding exif_block
exif_block_only file meta = only_then (exif_item meta) _ (exif_item_only meta) (λ found. item_bytes_only file found.idat found.location)

-- the Exif data of a file are refused by a refusal of the list
pub exif_of_only : (file : List ℕ) → Only (exif_of file)
unfolding exif_of
exif_of_only file =
    only_then (meta_body file) _ (meta_body_only file) (λ meta.
    only_then (exif_block file meta) _ (exif_block_only file meta) (λ block. after_header_only block))
