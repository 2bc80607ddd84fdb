-- The steps of erasing the fields of a name.
use Rattle.std.proofs.Common.{◌≡◌, ◌≤◌, ◌<◌, ◌+◌, ◌-◌, ◌*◌, ◌==◌, ℕ, suc, Bool, true, false, if◌then◌else◌, List, [], ◌∷◌, ◌++◌, length, map, Result, Ok, Err, refl, sym, ap, ◌∙◌, arith, append_assoc, length-append}
use Rattle.std.specs.Prelude.{not}
use Rattle.std.specs.List.{filter}
use Rattle.std.proofs.lemmas.Bool.{false≢true}
use Rattle.std.proofs.lemmas.Bool.Decides.{nat_tests}
use Rattle.std.proofs.lemmas.Grind.{common_steps}
use Rattle.std.proofs.lemmas.List.{length-map, map-append}
use Rattle.exif_base.specs.Bytes.{bytes_at, spaced}
use Rattle.exif_base.specs.Orders.{number_of, order_named}
use Rattle.exif_base.specs.declared.endian.Order.{Order}
use Rattle.exif_types.specs.declared.field.Field.{Field}
use Rattle.exif_types.specs.declared.tag.Tag.{Tag}
use Rattle.exif_text.specs.declared.ifd.In.{In}
use Rattle.exif_tiff.specs.Trace.{directory_end, whole_entries}
use Rattle.exif_tiff.specs.declared.fault.Fault.{Fault}
use Rattle.exif_layout.specs.Encoding.{spelled}
use Rattle.exif_layout.proofs.Images.Standing.{length_spelled}
use Rattle.exif_edit_base.specs.Causes.{Cause, no_field, of_data, offset_named}
use Rattle.exif_edit_base.specs.Locations.{located}
use Rattle.exif_edit_base.specs.Readings.{Read, reading}
use Rattle.exif_edit_base.specs.declared.patch.Patch.{Patch}
use Rattle.exif_edit_base.specs.Walked.{entry_of}
use Rattle.exif_edit_base.specs.Patches.{padded, zeros_over}
use Rattle.exif_edit_base.specs.declared.patch.Span.{Span}
use Rattle.exif_edit_base.proofs.FindSteps.{field_of, fields_read}
use Rattle.exif_edit.specs.Removing.{checked_removals, directories_with, directory_without, entries_bytes, field_patches, has_tag, named_removals, next_offset_bytes, read_without, removals, removals_from, without_named}
use Rattle.exif_edit.specs.Setting.{names_offsets}
use Rattle.exif_edit.proofs.SetSound.{length-padded}
use Rattle.exif_tiff.specs.declared.offset.EntryOffset.{EntryOffset}
use Rattle.exif_tiff.proofs.VisitBound.{length-spaced}
use Rattle.exif_tiff.proofs.ParserRuns.{spaced_step}

-- ---- entries that pass a test

passed_first : (t : ℕ → Bool) (x : ℕ) (xs : List ℕ)
    → filter t (x ∷ xs) ≡ filter t (x ∷ []) ++ filter t xs
passed_first t x xs = by_test (t x)
  where
    by_test : (b : Bool)
        → (if b then x ∷ filter t xs else filter t xs) ≡ (if b then x ∷ [] else []) ++ filter t xs
    by_test true = refl
    by_test false = refl

-- one of the entries that are left
pub passed_on : {X : Type 0} (F : List ℕ → List X)
    → ((xs ys : List ℕ) → F (xs ++ ys) ≡ F xs ++ F ys)
    → (t : ℕ → Bool) (at' n i : ℕ) (out new all : List X) → i < n
    → new ≡ out ++ F (filter t (at' ∷ []))
    → out ++ F (filter t (spaced at' 12 (n - i))) ≡ all
    → new ++ F (filter t (spaced (at' + 12) 12 (n - (i + 1)))) ≡ all
passed_on F hom t at' n i out new all h e f =
    let rest = spaced (at' + 12) 12 (n - (i + 1)) in
    let g : out ++ F (filter t (at' ∷ rest)) ≡ all = rw (spaced_step n i at' 12 h) at f in
    ap (λ xs. xs ++ F (filter t rest)) e
    ∙ (append_assoc out (F (filter t (at' ∷ []))) (F (filter t rest))
    ∙ (ap (λ xs. out ++ xs)
    (sym (ap F (passed_first t at' rest) ∙ hom (filter t (at' ∷ [])) (filter t rest))) ∙ g))

-- with one more entry counted if it passes, the count and what is left still make the same sum
pub counted_on : (t : ℕ → Bool) (at' n i out new all : ℕ) → i < n
    → new ≡ out + length (filter t (at' ∷ []))
    → out + length (filter t (spaced at' 12 (n - i))) ≡ all
    → new + length (filter t (spaced (at' + 12) 12 (n - (i + 1)))) ≡ all
counted_on t at' n i out new all h e f =
    let rest = spaced (at' + 12) 12 (n - (i + 1)) in
    let g : out + length (filter t (at' ∷ rest)) ≡ all = rw (spaced_step n i at' 12 h) at f in
    let l = length-append (filter t (at' ∷ [])) (filter t rest) in
    let k : out + length (filter t (at' ∷ []) ++ filter t rest) ≡ all =
    rw (passed_first t at' rest) at g in
    omega arith

-- no more of them than there are
pub few_passed : (t : ℕ → Bool) (xs : List ℕ) → length (filter t xs) ≤ length xs
few_passed t [] = omega arith
few_passed t (x ∷ xs) = by_test (t x) (few_passed t xs)
  where
    by_test : (b : Bool) → length (filter t xs) ≤ length xs
        → length (if b then x ∷ filter t xs else filter t xs) ≤ suc (length xs)
    by_test true h = omega arith
    by_test false h = omega arith

-- the bytes of entries are no more than twelve each
pub few_bytes : (bytes : List ℕ) (es : List ℕ) → length (entries_bytes bytes es) ≤ 12 * length es
few_bytes bytes [] = omega arith
few_bytes bytes (e ∷ es) =
    let h = few_bytes bytes es in
    let l : length (bytes_at 12 bytes e) ≤ 12 = grind (arith, common_steps) in
    let a = length-append (bytes_at 12 bytes e) (entries_bytes bytes es) in
    omega arith

-- entries of a directory have their space in it
pub encoded_fits : (order : Order) (bytes : List ℕ) (t : ℕ → Bool) (p n count : ℕ) (next : List ℕ)
    → length (spelled order 2 count ++ (entries_bytes bytes (filter t (spaced p 12 n)) ++ next)) ≤ 2
    + 12 * n + length next
encoded_fits order bytes t p n count next =
    let es = filter t (spaced p 12 n) in
    let a = few_bytes bytes es in
    let b = few_passed t (spaced p 12 n) in
    let l = length-spaced p 12 n in
    let s = length_spelled order 2 count in
    let x = length-append (entries_bytes bytes es) next in
    let y = length-append (spelled order 2 count) (entries_bytes bytes es ++ next) in
    omega arith

-- the count, the entries that are kept and the next offset have space in the old directory
pub whole_fits : (order : Order) (bytes : List ℕ) (number offset count kept : ℕ)
    (encoded next whole : List ℕ)
    → encoded ≡ entries_bytes bytes
    (filter (λ e. not (has_tag (number_of order) bytes number e)) (spaced (offset + 2) 12 count))
    → whole ≡ spelled order 2 kept ++ (encoded ++ next)
    → length whole ≤ 2 + 12 * count + length next
whole_fits order bytes number offset count kept encoded next whole t w =
    let test : ℕ → Bool = λ e. not (has_tag (number_of order) bytes number e) in
    let fits = encoded_fits order bytes test (offset + 2) count kept next in
    let z : whole ≡ spelled order 2 kept
    ++ (entries_bytes bytes (filter test (spaced (offset + 2) 12 count)) ++ next) =
    w ∙ ap (λ xs. spelled order 2 kept ++ (xs ++ next)) t in
    rw z fits

-- the parts, put together with zeros behind, are the directory without its entries of a tag
pub directory_made : (order : Order) (bytes : List ℕ) (number offset count kept : ℕ)
    (encoded next whole new : List ℕ)
    → count ≡ whole_entries (number_of order) bytes offset
    → kept ≡ length
    (filter (λ e. not (has_tag (number_of order) bytes number e)) (spaced (offset + 2) 12 count))
    → encoded ≡ entries_bytes bytes
    (filter (λ e. not (has_tag (number_of order) bytes number e)) (spaced (offset + 2) 12 count))
    → next ≡ next_offset_bytes order (directory_end (number_of order) bytes offset)
    → whole ≡ spelled order 2 kept ++ (encoded ++ next)
    → new ≡ padded (2 + 12 * count + length next) whole
    → new ≡ directory_without order bytes number offset
directory_made order bytes number offset count kept encoded next whole new c k t n w p =
    p ∙ rw (w, k, t, n, c) refl

next_length : (order : Order) (x : Result ℕ Fault) → length (next_offset_bytes order x) ≤ 4
next_length order (Ok next) = let l = length_spelled order 4 next in omega arith
next_length order (Err fault) = omega arith

-- a directory without entries takes no more than it did
pub directory_length : (order : Order) (bytes : List ℕ) (n p : ℕ)
    → length (directory_without order bytes n p) ≤ 2 + 12 * whole_entries (number_of order) bytes p
    + 4
directory_length order bytes n p =
    let test : ℕ → Bool = λ e. not (has_tag (number_of order) bytes n e) in
    let count = whole_entries (number_of order) bytes p in
    let next = next_offset_bytes order (directory_end (number_of order) bytes p) in
    let es = filter test (spaced (p + 2) 12 count) in
    let encoded = spelled order 2 (length es) ++ (entries_bytes bytes es ++ next) in
    let f = encoded_fits order bytes test (p + 2) count (length es) next in
    let l = length-padded (2 + 12 * count + length next) encoded f in
    let m = next_length order (directory_end (number_of order) bytes p) in
    omega arith

-- ---- the directories of a name

-- ---- directories and values, one after another

-- zeros over the spans of two joined lists are those of the first and then of the second
pub zeros_append : (span : ℕ → Span) (xs ys : List ℕ)
    → map zeros_over (map span (xs ++ ys)) ≡ map zeros_over (map span xs)
    ++ map zeros_over (map span ys)
zeros_append span xs ys =
    ap (λ ss. map zeros_over ss) (map-append span xs ys)
    ∙ map-append zeros_over (map span xs) (map span ys)

-- zeros over two joined lists of spans are those over the first and then over the second
pub spans_append : (xs ys : List Span)
    → map zeros_over (xs ++ ys) ≡ map zeros_over xs ++ map zeros_over ys
spans_append xs ys = map-append zeros_over xs ys

-- ---- the whole

-- where the data are refused, so is taking a name out of them
pub remove_refused : (bytes : List ℕ) (tag : Tag) (k : In) (c : Cause)
    → of_data (reading bytes) ≡ Err c → named_removals bytes tag k ≡ Err c
unfolding named_removals
remove_refused bytes tag k c h = rw h refl

-- of data that were read, a name is taken out of the directories that have fields of it
pub named_from : (bytes : List ℕ) (tag : Tag) (k : In) (read : Read) → reading bytes ≡ Ok read
    → named_removals bytes tag k
    ≡ removals_from tag k read bytes
    (directories_with tag k read.fields (map entry_of (located bytes)))
unfolding named_removals
named_from bytes tag k read h = rw h refl

-- as many fields as offsets
pub as_many : (bytes : List ℕ) (read : Read) (ps : List EntryOffset) → reading bytes ≡ Ok read
    → ps ≡ map entry_of (located bytes) → length read.fields ≡ length ps
as_many bytes read ps h w =
    ap (λ (xs : List Field). length xs) (sym (fields_read bytes read h))
    ∙ (length-map (located bytes) field_of
    ∙ (sym (length-map (located bytes) entry_of)
    ∙ ap (λ (xs : List EntryOffset). length xs) (sym w)))

-- where no directory has such a field
pub none_named : (bytes : List ℕ) (tag : Tag) (k : In) (read : Read) (ps : List EntryOffset)
    (qs : List ℕ) → reading bytes ≡ Ok read → ps ≡ map entry_of (located bytes)
    → qs ≡ directories_with tag k read.fields ps → (length qs == 0) ≡ true
    → named_removals bytes tag k ≡ Err no_field
none_named bytes tag k read ps (x ∷ xs) h w q n = absurd (not_none (length xs) n)
  where
    not_none : (m : ℕ) → (suc m == 0) ≡ true → ⊥
    not_none m e = let l : 0 < suc m = omega arith in let f : (suc m == 0) ≡ false =
        grind (arith, nat_tests) in false≢true (sym f ∙ e)
none_named bytes tag k read ps [] h w q n =
    let d : directories_with tag k read.fields (map entry_of (located bytes)) ≡ [] =
    ap (directories_with tag k read.fields) (sym w) ∙ sym q in
    named_from bytes tag k read h ∙ ap (removals_from tag k read bytes) d

-- the patches are the answer if the data are read without the fields then
pub remove_wanted : (bytes : List ℕ) (tag : Tag) (k : In) (read : Read) (es : List EntryOffset)
    (qs : List ℕ) (ps : List Patch) (fs : List Field) (order : Order)
    → reading bytes ≡ Ok read → es ≡ map entry_of (located bytes)
    → qs ≡ directories_with tag k read.fields es → order ≡ order_named read.little
    → ps ≡ removals order bytes tag.1 qs
    → fs ≡ without_named tag k read.fields → (length qs == 0) ≡ false
    → checked_removals (record { little = read.little; fields = fs; faults = read.faults }) bytes ps
    ≡ named_removals bytes tag k
remove_wanted bytes tag k read es [] ps fs order h w q o p f z = absurd (false≢true (sym z))
remove_wanted bytes tag k read es (p0 ∷ rest) ps fs order h w q o p f z =
    let d : directories_with tag k read.fields (map entry_of (located bytes)) ≡ p0 ∷ rest =
    ap (directories_with tag k read.fields) (sym w) ∙ sym q in
    let r : ps ≡ removals (order_named read.little) bytes tag.1 (p0 ∷ rest) =
    p ∙ ap (λ x. removals x bytes tag.1 (p0 ∷ rest)) o in
    ap (λ x. checked_removals
    (record { little = read.little; fields = x; faults = read.faults }) bytes ps) f
    ∙ (ap (checked_removals (read_without tag k read) bytes) r
    ∙ sym (named_from bytes tag k read h ∙ ap (removals_from tag k read bytes) d))

-- a field whose values say where other bytes are is not erased
pub field_named : (bytes : List ℕ) (tag : Tag) (k : In) → names_offsets tag ≡ true
    → field_patches bytes tag k ≡ Err offset_named
unfolding field_patches
field_named bytes tag k h = rw h refl

-- any other field is erased as its name is taken out of directories
pub field_else : (bytes : List ℕ) (tag : Tag) (k : In) → names_offsets tag ≡ false
    → field_patches bytes tag k ≡ named_removals bytes tag k
unfolding field_patches
field_else bytes tag k h = rw h refl
