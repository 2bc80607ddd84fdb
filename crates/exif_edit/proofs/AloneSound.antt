-- Where what an edit changes stands alone, its patches are the answer.
use Rattle.std.proofs.Common.{◌≡◌, ◌+◌, ◌*◌, max, ℕ, suc, Bool, true, false, if◌then◌else◌, List, [], ◌∷◌, ◌++◌, length, map, replicate, Ok, refl, sym, ap, ◌∙◌, arith, subst}
use Rattle.std.specs.Prelude.{◌&&◌, ◌||◌, ◌==◌, ◌^◌, ◌-◌, not, nat_lt, nat_le}
use Rattle.std.specs.List.{filter, flat_map, list_any}
use Rattle.std.proofs.lemmas.Bool.Decides.{nat_tests}
use Rattle.std.proofs.lemmas.List.{length-replicate}
use Rattle.std.proofs.Math.Bool.{or-false}
use Rattle.exif_base.specs.Bytes.{Reading, number_at}
use Rattle.exif_base.specs.Orders.{number_of, order_named}
use Rattle.exif_base.specs.declared.endian.Order.{Order}
use Rattle.exif_text.specs.FieldTypes.{type_of, known_length}
use Rattle.exif_types.specs.Sound.{HasPlainTexts}
use Rattle.exif_types.specs.ValueTypes.{count_of}
use Rattle.exif_types.specs.declared.tag.Tag.{Tag}
use Rattle.exif_text.specs.declared.ifd.In.{In}
use Rattle.exif_types.specs.declared.value.Value.{Value}
use Rattle.exif_tiff.specs.Footprint.{Stretch, looked_at}
use Rattle.exif_tiff.specs.Trace.{header}
use Rattle.exif_layout.specs.Encoding.{encode}
use Rattle.exif_layout.specs.Ranged.{IsRanged}
use Rattle.exif_layout.specs.Refused.{is_unknown}
use Rattle.exif_edit_base.specs.Locations.{Located, located}
use Rattle.exif_edit_base.specs.Walked.{Finds, Walked, entry_of}
use Rattle.exif_tiff.specs.declared.offset.DirectoryOffset.{DirectoryOffset}
use Rattle.exif_tiff.specs.declared.offset.EntryOffset.{EntryOffset}
use Rattle.exif_edit_base.specs.Causes.{shared, too_long, unless, ◌>>=◌}
use Rattle.exif_edit_base.specs.Finding.{find_answer}
use Rattle.exif_edit_base.specs.Patches.{zeros_over}
use Rattle.exif_edit_base.specs.Readings.{Read}
use Rattle.exif_edit_base.specs.declared.patch.Patch.{Patch}
use Rattle.exif_edit_base.specs.declared.patch.Span.{Span}
use Rattle.exif_edit_base.proofs.CauseSteps.{passed}
use Rattle.exif_edit_base.proofs.FindSteps.{header_named}
use Rattle.exif_edit.specs.Changing.{ChangeEntry, ChangeOffsets, changes, covers}
use Rattle.exif_edit.specs.Erasing.{erase_patches, gps_spans, is_gps}
use Rattle.exif_edit.specs.GpsAlone.{all_kept, gps_is_unshared}
use Rattle.exif_edit_base.specs.Spans.{space_of, value_space}
use Rattle.exif_edit.specs.Setting.{answer_in, checked_patches, entry_bytes, names_offsets, space_bytes, set_patches, value_answer, value_patches}
use Rattle.exif_edit.specs.Sharing.{all_beside, beside, changed_entry, fit_answer, overlaps, names_child, is_unshared, standing_at}
use Rattle.exif_edit.proofs.AloneSteps.{any_flat, any_kept, any_same}
use Rattle.exif_edit.proofs.GpsUnshared.{gps_unshared}
use Rattle.exif_edit.proofs.SetSound.{Fits, edit_fits_in, value_lengths, was_found}
use Rattle.exif_edit.proofs.SetSteps.{set_known}
use Rattle.exif_edit.proofs.Unshared.{set_unshared}
use Rattle.exif_edit.proofs.WalkedDirectories.{kept_of, walked_kept, walked_offsets}

-- ---- what the patches change

or_turned : (a b : Bool) → (a || b) ≡ (b || a)
or_turned true true = refl
or_turned true false = refl
or_turned false true = refl
or_turned false false = refl

abbrev space_by : ℕ → ℕ → Bool → Span
space_by offset size b =
    if b then record { offset = 0; len = 0 } else record { offset = offset; len = size }

-- a space of no bytes is nowhere, and overlaps nothing
no_space : (offset size : ℕ) (t : Stretch) → ((space_of offset size).len == 0) ≡ true
    → overlaps (space_of offset size) t ≡ false
no_space offset size t h = by_test (nat_le size 4) refl h
  where
    by_test : (b : Bool) → nat_le size 4 ≡ b → ((space_by offset size b).len == 0) ≡ true
        → overlaps (space_by offset size b) t ≡ false
    by_test true e h = let z : nat_lt t.offset 0 ≡ false = grind (arith, nat_tests) in rw z refl
    by_test false e h = absurd (grind (arith, nat_tests))

module _ (order : Order) (value : Value) (e : ℕ) (bytes : List ℕ) (ps : List Patch)
    (f : Fits order value e bytes ps) (t : Stretch) where
  abbrev space : Span
  space = value_space (number_of order) bytes e

  abbrev encoded : List ℕ
  encoded = encode order value

  abbrev entry : Patch
  entry = record { offset = e + 2; bytes = entry_bytes order value space.offset encoded }

  abbrev filled : Patch
  filled = record { offset = space.offset; bytes = space_bytes space.len encoded }

  entry_covers : covers t entry ≡ overlaps (changed_entry e) t
  entry_covers =
      ap (λ n. overlaps (record { offset = e + 2; len = n }) t) (value_lengths order value space f.encoded).1

  space_covers : covers t filled ≡ overlaps space t
  space_covers =
      ap (λ n. overlaps (record { offset = space.offset; len = n }) t)
      (value_lengths order value space f.encoded).0

  by_test : (b : Bool) → (space.len == 0) ≡ b
      → changes ((if b then [] else filled ∷ []) ++ entry ∷ []) t
      ≡ (overlaps (changed_entry e) t || overlaps space t)
  by_test true h =
      let none : overlaps space t ≡ false =
      no_space (number_at (number_of order) 4 bytes (e + 8))
      (known_length (type_of (number_at (number_of order) 2 bytes (e + 2)))
      * number_at (number_of order) 4 bytes (e + 4)) t h in
      ap (λ b. b || false) entry_covers ∙ ap (λ b. overlaps (changed_entry e) t || b) (sym none)
  by_test false h =
      ap (λ b. b || (covers t entry || false)) space_covers
      ∙ (ap (λ b. overlaps space t || b) (or-false (covers t entry) ∙ entry_covers)
      ∙ or_turned (overlaps space t) (overlaps (changed_entry e) t))

  value_changed : changes ps t ≡ (overlaps (changed_entry e) t || overlaps space t)
  value_changed = ap (λ qs. changes qs t) f.is ∙ by_test (space.len == 0) refl

-- the patches of a value change its entry and its space
pub value_changes : (order : Order) (value : Value) (e : ℕ) (bytes : List ℕ) (ps : List Patch)
    → Fits order value e bytes ps → ChangeEntry (number_of order) bytes e ps
value_changes order value e bytes ps f t = value_changed order value e bytes ps f t

-- zeros over spans change these
zeros_change : (ss : List Span) (t : Stretch)
    → changes (map zeros_over ss) t ≡ list_any (λ s. overlaps s t) ss
zeros_change [] t = refl
zeros_change (s ∷ ss) t =
    let n : length (replicate {A = ℕ} s.len 0) ≡ s.len = length-replicate s.len 0 in
    ap (λ x. overlaps (record { offset = s.offset; len = x }) t || changes (map zeros_over ss) t) n
    ∙ ap (λ b. overlaps s t || b) (zeros_change ss t)

-- zeros over GPS directories and their values change bytes of these, and no others
pub offsets_change : (number : Reading) (bytes : List ℕ) (ps : List Patch)
    → ps ≡ map zeros_over (gps_spans number bytes) → ChangeOffsets number bytes ps
offsets_change number bytes ps e t =
    ap (λ qs. changes qs t) e ∙ zeros_change (gps_spans number bytes) t

-- ---- what was asked

-- of the fields at an entry, without the fields
once_same : (e : ℕ) (ls : List Located)
    → length (filter (λ (p : EntryOffset). p.entry == e) (map entry_of ls))
    ≡ length (standing_at e ls)
once_same e [] = refl
once_same e (l ∷ ls) = by_test (l.entry == e) (once_same e ls)
  where
    by_test : (b : Bool)
        → length (filter (λ (p : EntryOffset). p.entry == e) (map entry_of ls))
        ≡ length (standing_at e ls)
        → length (if b then entry_of l ∷ filter (λ (p : EntryOffset). p.entry == e) (map entry_of ls)
        else filter (λ (p : EntryOffset). p.entry == e) (map entry_of ls))
        ≡ length (if b then l ∷ standing_at e ls else standing_at e ls)
    by_test true h = ap (λ n. suc n) h
    by_test false h = h

-- whether one field is at an entry follows from the entries that a walk has found
pub once_found : (bytes : List ℕ) (w : Walked) (e : ℕ) → Finds bytes w
    → (length (filter (λ (p : EntryOffset). p.entry == e) w.entries) == 1)
    ≡ (length (standing_at e (located bytes)) == 1)
once_found bytes w e f =
    ap (λ es. length (filter (λ (p : EntryOffset). p.entry == e) es) == 1) f.entries
    ∙ ap (λ n. n == 1) (once_same e (located bytes))

-- the header, and all directories, but for the entry
pub beside_found : (bytes : List ℕ) (order : Order) (ps : List Patch) (e : ℕ) (w : Walked)
    → header bytes ≡ Ok order → Finds bytes w → ChangeEntry (number_of order) bytes e ps
    → (changes ps (record { offset = 0; len = 8 })
    || list_any (λ (d : DirectoryOffset). list_any (changes ps)
    (beside (number_of order) bytes e d.offset)) w.directories)
    ≡ list_any
    (λ t. overlaps (changed_entry e) t || overlaps (value_space (number_of order) bytes e) t)
    (all_beside (number_of order) bytes e)
beside_found bytes order ps e w h f c =
    ap (λ b. changes ps (record { offset = 0; len = 8 }) || b)
    (any_flat (changes ps) (λ (d : DirectoryOffset). d.offset) (beside (number_of order) bytes e)
    w.directories
    ∙ ap (λ qs. list_any (changes ps) (flat_map (beside (number_of order) bytes e) qs))
    (walked_offsets bytes order w h f))
    ∙ any_same (changes ps)
    (λ t. overlaps (changed_entry e) t || overlaps (value_space (number_of order) bytes e) t)
    (all_beside (number_of order) bytes e) c

-- the same of what is kept where GPS data are erased
pub kept_found : (bytes : List ℕ) (order : Order) (ps : List Patch) (w : Walked)
    → header bytes ≡ Ok order → Finds bytes w → ChangeOffsets (number_of order) bytes ps
    → (changes ps (record { offset = 0; len = 8 })
    || list_any (λ (d : DirectoryOffset). not (is_gps d.context)
    && list_any (changes ps) (looked_at (number_of order) bytes d.offset)) w.directories)
    ≡ list_any (λ t. list_any (λ s. overlaps s t) (gps_spans (number_of order) bytes))
    (all_kept (number_of order) bytes)
kept_found bytes order ps w h f c =
    ap (λ b. changes ps (record { offset = 0; len = 8 }) || b)
    (any_kept (λ (d : DirectoryOffset). not (is_gps d.context))
    (λ (d : DirectoryOffset). list_any (changes ps) (looked_at (number_of order) bytes d.offset))
    w.directories
    ∙ (any_flat (changes ps) (λ (d : DirectoryOffset). d.offset) (looked_at (number_of order) bytes)
    (kept_of w.directories)
    ∙ ap (λ qs. list_any (changes ps) (flat_map (looked_at (number_of order) bytes) qs))
    (walked_kept bytes order w h f)))
    ∙ any_same (changes ps) (λ t. list_any (λ s. overlaps s t) (gps_spans (number_of order) bytes))
    (all_kept (number_of order) bytes) c

-- whether the entry stands alone, by its parts
pub alone_parts : (bytes : List ℕ) (order : Order) (ps : List Patch) (e : ℕ) (w : Walked)
    → header bytes ≡ Ok order → Finds bytes w → ChangeEntry (number_of order) bytes e ps
    → (not
    (changes ps (record { offset = 0; len = 8 })
    || list_any (λ (d : DirectoryOffset). list_any (changes ps)
    (beside (number_of order) bytes e d.offset)) w.directories)
    && (not (overlaps (value_space (number_of order) bytes e) (record { offset = e; len = 12 }))
    && (length (filter (λ (p : EntryOffset). p.entry == e) w.entries) == 1)))
    ≡ is_unshared (number_of order) bytes e
alone_parts bytes order ps e w h f c =
    let near = overlaps (value_space (number_of order) bytes e) (record { offset = e; len = 12 }) in
    ap (λ b. not b
    && (not near && (length (filter (λ (p : EntryOffset). p.entry == e) w.entries) == 1)))
    (beside_found bytes order ps e w h f c)
    ∙ ap (λ b. not
    (list_any (λ t. overlaps (changed_entry e) t || overlaps (value_space (number_of order) bytes e) t)
    (all_beside (number_of order) bytes e)) && (not near && b)) (once_found bytes w e f)

-- the first part that says no settles it
pub first_met : (a b r x : Bool) → a ≡ true → (not (a || b) && r) ≡ x → false ≡ x
first_met a b r x p e = rw p at e

-- where the first part is not met but the second is, the answer is no
pub second_met : (a b r x : Bool) → a ≡ false → b ≡ true → (not (a || b) && r) ≡ x → false ≡ x
second_met a b r x p q e = rw (p, q) at e

-- where the first two parts are not met but the third is, the answer is no
pub third_met : (a b m o x : Bool) → a ≡ false → b ≡ false → m ≡ true
    → (not (a || b) && (not m && o)) ≡ x → false ≡ x
third_met a b m o x p q r e = rw (p, q, r) at e

-- where none of the first three parts is met, the last part is the answer
pub none_met : (a b m o x : Bool) → a ≡ false → b ≡ false → m ≡ false
    → (not (a || b) && (not m && o)) ≡ x → o ≡ x
none_met a b m o x p q r e = rw (p, q, r) at e

-- neither the header nor a kept directory
pub offsets_parts : (bytes : List ℕ) (order : Order) (ps : List Patch) (w : Walked)
    → header bytes ≡ Ok order → Finds bytes w → ChangeOffsets (number_of order) bytes ps
    → changes ps (record { offset = 0; len = 8 }) ≡ false
    → list_any (λ (d : DirectoryOffset). not (is_gps d.context)
    && list_any (changes ps) (looked_at (number_of order) bytes d.offset)) w.directories ≡ false
    → gps_is_unshared (number_of order) bytes ≡ true
offsets_parts bytes order ps w h f c p q =
    ap not (sym (kept_found bytes order ps w h f c)
    ∙ (ap (λ b. b || list_any (λ (d : DirectoryOffset). not (is_gps d.context)
    && list_any (changes ps) (looked_at (number_of order) bytes d.offset)) w.directories) p ∙ q))

-- ---- the answers

-- the header of data in which a field was found
pub header_found : (bytes : List ℕ) (tag : Tag) (k : In) (read : Read) (e : ℕ)
    → find_answer bytes tag k ≡ Ok (read, e) → header bytes ≡ Ok (order_named read.little)
header_found bytes tag k read e h =
    header_named bytes read (was_found bytes tag k (read, e) h).reads

-- this many items fit into an entry
few_told : (order : Order) (value : Value) (e : ℕ) (bytes : List ℕ) (ps : List Patch)
    → value_answer order value e bytes ≡ Ok ps → nat_lt (2 ^ 32 - 1) (count_of value) ≡ false
unfolding value_answer
few_told order value e bytes ps h =
    let s = value_space (number_of order) bytes e in
    let long = nat_lt (max 4 s.len) (length (encode order value)) in
    let a = passed (nat_lt (length bytes) (e + 12)) shared
    (λ u. answer_in order value e s (length bytes)) ps h in
    let b = passed (nat_lt (length bytes) (s.offset + s.len)) shared
    (λ u. unless (nat_lt (2 ^ 32 - 1) (count_of value)) too_long >>= λ v. unless long too_long
    >>= λ w. Ok (value_patches order value e s)) ps a.1 in
    (passed (nat_lt (2 ^ 32 - 1) (count_of value)) too_long
    (λ v. unless long too_long >>= λ w. Ok (value_patches order value e s)) ps b.1).0

fit_told : (order : Order) (tag : Tag) (value : Value) (e : ℕ) (bytes : List ℕ) (ps : List Patch)
    → value_answer order value e bytes ≡ Ok ps → names_offsets tag ≡ false
    → is_unknown value ≡ false
    → fit_answer order tag value e (value_space (number_of order) bytes e) ≡ Ok ps
fit_told order tag value e bytes ps h n u =
    let few = few_told order value e bytes ps h in
    let f = edit_fits_in order value e bytes ps h in
    let encoded = f.encoded in
    let fits : nat_lt (max 4 (value_space (number_of order) bytes e).len)
    (length (encode order value)) ≡ false = grind (arith, nat_tests) in
    rw (n, u, few, fits) (ap (λ qs. Ok qs) (sym f.is))

-- a value whose entry stands alone is set
pub set_alone : (bytes : List ℕ) (tag : Tag) (k : In) (value : Value) (read : Read) (e : ℕ)
    (order : Order) (ps : List Patch)
    → find_answer bytes tag k ≡ Ok (read, e) → order ≡ order_named read.little
    → value_answer order value e bytes ≡ Ok ps → names_offsets tag ≡ false
    → is_unknown value ≡ false → names_child tag.1 ≡ false → IsRanged value → HasPlainTexts value
    → is_unshared (number_of order) bytes e ≡ true → checked_patches bytes tag k value ≡ Ok ps
set_alone bytes tag k value read e order ps h o v n u childless ranged plain alone =
    let w = was_found bytes tag k (read, e) h in
    let head : header bytes ≡ Ok order =
    header_found bytes tag k read e h ∙ ap (λ x. Ok x) (sym o) in
    let law = set_unshared tag k value bytes order w.at head w.last
    (subst (λ x. is_unshared (number_of order) bytes x ≡ true) (sym w.entry) alone) childless ranged
    plain in
    let law_at : set_patches bytes tag k value
    ≡ fit_answer order tag value e (value_space (number_of order) bytes e) =
    subst (λ x. set_patches bytes tag k value
    ≡ fit_answer order tag value x (value_space (number_of order) bytes x)) w.entry law in
    set_known bytes tag k value n u ∙ (law_at ∙ fit_told order tag value e bytes ps v n u)

-- GPS data that stand alone are erased
pub erase_alone : (bytes : List ℕ) (order : Order) (ps : List Patch) → header bytes ≡ Ok order
    → ps ≡ map zeros_over (gps_spans (number_of order) bytes)
    → gps_is_unshared (number_of order) bytes ≡ true → erase_patches bytes ≡ Ok ps
erase_alone bytes order ps h z alone =
    gps_unshared bytes order h alone ∙ ap (λ qs. Ok qs) (sym z)
