-- What an answered putting of a field into a new directory promises.
use Rattle.std.proofs.Common.{◌≡◌, ◌≤◌, ◌<◌, ◌+◌, ◌*◌, ℕ, Bool, true, false, List, [], ◌∷◌, length, ◌⊎◌, inl, inr, replicate, All, Some, Ok, sym, ap, subst, ◌∙◌, arith, ◌++◌}
use Rattle.std.specs.List.{filter}
use Rattle.std.proofs.lemmas.List.{length-replicate}
use Rattle.exif_base.specs.Orders.{number_of, order_named}
use Rattle.exif_base.specs.declared.endian.Order.{Order}
use Rattle.exif_types.specs.Lookup.{is_named}
use Rattle.exif_types.specs.declared.tag.Tag.{Tag}
use Rattle.exif_text.specs.declared.ifd.In.{In}
use Rattle.exif_types.specs.declared.value.Value.{Value}
use Rattle.exif_tiff.specs.Trace.{fields_of, trace}
use Rattle.exif_layout.specs.Offsets.{even}
use Rattle.exif_layout.specs.Refused.{is_unknown}
use Rattle.exif_layout.proofs.Images.Standing.{length_spelled}
use Rattle.exif_edit_base.specs.Causes.{no_directory, of_data, or_cause, offset_named, unknown_type, unless, ◌>>=◌}
use Rattle.exif_edit_base.specs.Patches.{FitsIn, inside}
use Rattle.exif_edit_base.specs.declared.patch.Patch.{Patch}
use Rattle.exif_edit_base.specs.declared.patch.Span.{Span}
use Rattle.exif_grow.specs.Appending.{span_cleared}
use Rattle.exif_edit_base.specs.Readings.{Read, reading}
use Rattle.exif_edit_base.proofs.CauseSteps.{bound, data_read, option_told, passed}
use Rattle.exif_edit_base.proofs.FindSteps.{header_named}
use Rattle.exif_edit_base.proofs.PatchSteps.{Misses, outside_offset}
use Rattle.exif_edit.specs.Promises.{ReadAs}
use Rattle.exif_edit_base.specs.Rereading.{without_entry_offsets}
use Rattle.exif_edit.specs.Removing.{without_named}
use Rattle.exif_edit.specs.Setting.{names_offsets}
use Rattle.exif_edit.proofs.ReadSound.{reads_are}
use Rattle.exif_grow.specs.Growing.{Added, grown}
use Rattle.exif_grow.specs.Creating.{child_added, child_field, child_value_offset, create_answer, created, created_in, created_under, parent_of}
use Rattle.exif_grow.specs.Directories.{directory_named}
use Rattle.exif_grow.specs.Inserting.{directory_fault, first_with, read_without_offsets, slot_patch, span_of}
use Rattle.exif_grow.specs.Promises.{IsCreated}
use Rattle.exif_grow.specs.declared.directories.Directory.{Directory}
use Rattle.exif_grow.specs.declared.create.Parent.{Parent}
use Rattle.exif_grow.proofs.InsertSound.{FitsThere, IsWith, first_parts, fits_there, reads_with_so}
use Rattle.exif_grow.proofs.GrowthSteps.{both_patches, grown_outside, header_small}

-- ---- an edit that fits

added_fits : (clear : Bool) (order : Order) (p n : ℕ) (value : Value) (bytes : List ℕ)
    (d : Directory)
    → FitsThere d (length bytes)
    → All (FitsIn (length bytes)) (child_added clear order p n value bytes d).patches
added_fits clear order p n value bytes d f =
    let l = length_spelled order 4 (even (length bytes)) in
    let z : length (replicate {A = ℕ} (12 * d.count + 6) 0) ≡ 12 * d.count + 6 =
    length-replicate (12 * d.count + 6) 0 in
    let slot = f.slot in
    let whole = f.whole in
    both_patches (FitsIn (length bytes)) clear (span_of d) (slot_patch order d (length bytes))
    (omega arith) (omega arith)

-- the patches of a new directory lie in the data
pub patches_within : (clear : Bool) (order : Order) (d : Directory) (total : ℕ) (span : Span)
    (p : Patch) (ps : List Patch)
    → ps ≡ span_cleared clear span ++ p ∷ [] → span ≡ span_of d → p ≡ slot_patch order d total
    → d.slot + 4 ≤ total → d.offset + 12 * d.count + 6 ≤ total → All (FitsIn total) ps
patches_within clear order d total span p ps e r q slot whole =
    let l = length_spelled order 4 (even total) in
    let z : length (replicate {A = ℕ} (12 * d.count + 6) 0) ≡ 12 * d.count + 6 =
    length-replicate (12 * d.count + 6) 0 in
    subst (λ xs. All (FitsIn total) xs) (sym e)
    (subst (λ y. All (FitsIn total) (span_cleared clear y ++ p ∷ [])) (sym r)
    (subst (λ y. All (FitsIn total) (span_cleared clear (span_of d) ++ y ∷ [])) (sym q)
    (both_patches (FitsIn total) clear (span_of d) (slot_patch order d total) (omega arith)
    (omega arith))))

added_misses : (clear : Bool) (order : Order) (p n : ℕ) (value : Value) (bytes : List ℕ)
    (d : Directory) (i : ℕ)
    → inside i (record { offset = d.slot; len = 4 }) ≡ false → inside i (span_of d) ≡ false
    → All (Misses i) (child_added clear order p n value bytes d).patches
added_misses clear order p n value bytes d i a b =
    let l = length_spelled order 4 (even (length bytes)) in
    let z : length (replicate {A = ℕ} (12 * d.count + 6) 0) ≡ 12 * d.count + 6 =
    length-replicate (12 * d.count + 6) 0 in
    let x = subst (λ m. (i < d.offset) ⊎ (d.offset + m ≤ i)) (sym z)
    (outside_offset i (span_of d) b) in
    let y = subst (λ m. (i < d.slot) ⊎ (d.slot + m ≤ i)) (sym l)
    (outside_offset i (record { offset = d.slot; len = 4 }) a) in
    both_patches (Misses i) clear (span_of d) (slot_patch order d (length bytes)) x y

-- ---- the whole

-- what is added where an answer is given
pub record WasCreated (bytes : List ℕ) (tag : Tag) (k : In) (value : Value) (a : Added) : Type 0
  where
    pub read : Read
    pub reads : reading bytes ≡ Ok read
    pub parent : Parent
    pub is_parent : parent_of tag.0 ≡ Some parent
    pub at : Directory
    pub there : directory_named (number_of (order_named read.little)) bytes parent.context k.0
        ≡ Some at
    pub fits : FitsThere at (length bytes)
    pub clear : Bool
    pub is : child_added clear (order_named read.little) parent.tag tag.1 value bytes at ≡ a
    pub found : Read
    pub reads_new : reading (grown a bytes) ≡ Ok found
    pub with : IsWith tag k
        (child_field (order_named read.little) tag k value at (length bytes))
        (read_without_offsets read) found

was_created_in : (bytes : List ℕ) (a : Added) (tag : Tag) (k : In) (value : Value) (read : Read)
    (parent : Parent) (d : Directory)
    → reading bytes ≡ Ok read → parent_of tag.0 ≡ Some parent
    → directory_named (number_of (order_named read.little)) bytes parent.context k.0 ≡ Some d
    → created_in tag k value bytes read parent.tag d ≡ Ok a → WasCreated bytes tag k value a
unfolding created_in
was_created_in bytes a tag k value read parent d r q t h =
    let order = order_named read.little in
    let field = child_field order tag k value d (length bytes) in
    let first = child_added true order parent.tag tag.1 value bytes d in
    let second = child_added false order parent.tag tag.1 value bytes d in
    let b = bound (directory_fault order value d (child_value_offset d (length bytes)) (length bytes))
    (λ u. first_with tag k field (read_without_offsets read) bytes first second) a h in
    let p = first_parts tag k field (read_without_offsets read) bytes first second a b.2 in
    let f = fits_there order value d (child_value_offset d (length bytes)) (length bytes) b.1 in
    let w = reads_with_so tag k field (read_without_offsets read) (grown a bytes) p.0 in
    elim p.1 as (λ x. WasCreated bytes tag k value a) [
      | inl s ↦ record {
        read = read;
        reads = r;
        parent = parent;
        is_parent = q;
        at = d;
        there = t;
        fits = f;
        clear = true;
        is = s;
        found = w.found;
        reads_new = w.reads;
        with = w.is;
      }
      | inr s ↦ record {
        read = read;
        reads = r;
        parent = parent;
        is_parent = q;
        at = d;
        there = t;
        fits = f;
        clear = false;
        is = s;
        found = w.found;
        reads_new = w.reads;
        with = w.is;
      }
    ]

was_created_under : (bytes : List ℕ) (a : Added) (tag : Tag) (k : In) (value : Value) (read : Read)
    (parent : Parent)
    → reading bytes ≡ Ok read → parent_of tag.0 ≡ Some parent
    → created_under tag k value bytes read parent ≡ Ok a → WasCreated bytes tag k value a
unfolding created_under
was_created_under bytes a tag k value read parent r q h =
    let o = directory_named (number_of (order_named read.little)) bytes parent.context k.0 in
    let d = bound (or_cause o no_directory)
    (λ d. created_in tag k value bytes read parent.tag d) a h in
    was_created_in bytes a tag k value read parent d.0 r q (option_told o no_directory d.0 d.1) d.2

was_created_there : (bytes : List ℕ) (a : Added) (tag : Tag) (k : In) (value : Value)
    → created bytes tag k value ≡ Ok a → WasCreated bytes tag k value a
unfolding created
was_created_there bytes a tag k value h =
    let b = bound (of_data (reading bytes))
    (λ read. or_cause (parent_of tag.0) no_directory
    >>= λ parent. created_under tag k value bytes read parent) a h in
    let q = bound (or_cause (parent_of tag.0) no_directory)
    (λ parent. created_under tag k value bytes b.0 parent) a b.2 in
    was_created_under bytes a tag k value b.0 q.0 (data_read (reading bytes) b.0 b.1)
    (option_told (parent_of tag.0) no_directory q.0 q.1) q.2

-- what an answer adds puts the field there, and the data are read with it then
pub was_created : (bytes : List ℕ) (a : Added) (tag : Tag) (k : In) (value : Value)
    → create_answer bytes tag k value ≡ Ok a → WasCreated bytes tag k value a
unfolding create_answer
was_created bytes a tag k value h =
    let x = passed (names_offsets tag) offset_named
    (λ u. unless (is_unknown value) unknown_type >>= λ v. created bytes tag k value) a h in
    let y = passed (is_unknown value) unknown_type (λ v. created bytes tag k value) a x.1 in
    was_created_there bytes a tag k value y.1

-- the patches lie in the data
pub create_fits : (bytes : List ℕ) (a : Added) (tag : Tag) (k : In) (value : Value)
    → create_answer bytes tag k value ≡ Ok a → All (FitsIn (length bytes)) a.patches
create_fits bytes a tag k value h =
    let w = was_created bytes a tag k value h in
    subst (λ x. All (FitsIn (length bytes)) x.patches) w.is
    (added_fits w.clear (order_named w.read.little) w.parent.tag tag.1 value bytes w.at w.fits)

-- with what is added one more field is read, and all else is as it was
pub create_sound : (old : List ℕ) (a : Added) (tag : Tag) (k : In) (value : Value)
    → create_answer old tag k value ≡ Ok a → IsCreated old tag k value (grown a old)
create_sound old a tag k value h =
    let w = was_created old a tag k value h in
    let order = order_named w.read.little in
    let fit = create_fits old a tag k value h in
    let r = reads_are old w.read w.reads in
    let s = reads_are (grown a old) w.found w.reads_new in
    record {
      order = order;
      header = header_named old w.read w.reads;
      parent = w.parent;
      is_parent = w.is_parent;
      at = w.at;
      found = w.there;
      reads =
          subst (λ xs. ReadAs (grown a old) (fields_of (trace (grown a old))) xs)
          (w.with.faults ∙ r.2)
          (subst (λ xs. ReadAs (grown a old) xs w.found.faults) s.1 s.0);
      others = ap (λ xs. without_entry_offsets (without_named tag k xs)) (sym s.1) ∙ (w.with.others ∙ ap without_entry_offsets r.1);
      only = ap (filter (is_named tag k)) (sym s.1) ∙ w.with.only;
      small = header_small (grown a old) (order_named w.found.little)
          (header_named (grown a old) w.found w.reads_new);
      outside = λ i x y z. grown_outside a old i fit x
          (subst (λ v. All (Misses i) v.patches) w.is
          (added_misses w.clear order w.parent.tag tag.1 value old w.at i y z));
    }
