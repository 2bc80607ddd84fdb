-- After data have grown, a look-up of the name gives the value.
use Rattle.std.proofs.Common.{◌≡◌, ◌+◌, ℕ, Bool, true, false, if◌then◌else◌, List, [], ◌∷◌, length, Some, None, refl, sym, ap, ◌∙◌}
use Rattle.std.specs.List.{filter, list_any}
use Rattle.exif_types.specs.Lookup.{is_named, last_named}
use Rattle.exif_types.specs.declared.field.Field.{Field}
use Rattle.exif_types.specs.declared.tag.Tag.{Tag}
use Rattle.exif_text.specs.declared.ifd.In.{In}
use Rattle.exif_types.specs.declared.value.Value.{Value}
use Rattle.exif_tiff.specs.Trace.{fields_of, faults_of, trace}
use Rattle.exif_base.specs.Orders.{number_of}
use Rattle.exif_layout.specs.Encoding.{encode, moved_to}
use Rattle.exif_edit.specs.Promises.{FindsValue, ReadAs}
use Rattle.exif_edit.proofs.SetFound.{from_behind, last_passing, passing_none, replaced_read, shown_fields}
use Rattle.exif_grow.specs.Appending.{appended_offset}
use Rattle.exif_grow.specs.Creating.{child_value_offset}
use Rattle.exif_grow.specs.Directories.{leading_in}
use Rattle.exif_grow.specs.Inserting.{entry_offset, value_offset}
use Rattle.exif_edit.specs.Setting.{set_offset}
use Rattle.exif_grow.specs.Promises.{IsAppended, IsCreated, IsInserted}

-- none passes where nothing is left of a filter
none_passes : (p : Field → Bool) (xs : List Field) → filter p xs ≡ [] → list_any p xs ≡ false
none_passes p [] h = refl
none_passes p (x ∷ xs) h = by_test (p x) refl (none_passes p xs) h
  where
    cons_nil : (x : Field) (ys : List Field) → ◌≡◌ {A = List Field} (x ∷ ys) [] → ⊥
    cons_nil x ys e = cc

    by_test : (b : Bool) → p x ≡ b → (filter p xs ≡ [] → list_any p xs ≡ false)
        → ◌≡◌ {A = List Field} (if b then x ∷ filter p xs else filter p xs) []
        → list_any p (x ∷ xs) ≡ false
    by_test true e k h = absurd (cons_nil x (filter p xs) h)
    by_test false e k h = rw e (k h)

-- the only one that passes is the last that does
only_passing : (p : Field → Bool) (xs : List Field) (y : Field) → filter p xs ≡ y ∷ []
    → last_passing p xs ≡ Some y
unfolding last_passing
only_passing p [] y h = absurd (nil_cons h)
  where
    nil_cons : ◌≡◌ {A = List Field} [] (y ∷ []) → ⊥
    nil_cons e = cc
only_passing p (x ∷ xs) y h =
    by_tests (p x) (list_any p xs) refl refl (only_passing p xs y) h
  where
    same_head : (ys : List Field) → ◌≡◌ {A = List Field} (x ∷ ys) (y ∷ []) → x ≡ y
    same_head ys e = cc

    no_rest : (ys : List Field) → ◌≡◌ {A = List Field} (x ∷ ys) (y ∷ []) → ys ≡ []
    no_rest ys e = cc

    by_tests : (a b : Bool) → p x ≡ a → list_any p xs ≡ b
        → (filter p xs ≡ y ∷ [] → last_passing p xs ≡ Some y)
        → ◌≡◌ {A = List Field} (if a then x ∷ filter p xs else filter p xs) (y ∷ [])
        → (if b then last_passing p xs else (if a then Some x else None)) ≡ Some y
    by_tests true true e g k h =
        absurd (true_false (sym g ∙ none_passes p xs (no_rest (filter p xs) h)))
      where
        true_false : true ≡ false → ⊥
        true_false e = cc
    by_tests true false e g k h = ap (λ z. Some z) (same_head (filter p xs) h)
    by_tests false true e g k h = k h
    by_tests false false e g k h =
        sym (passing_none p xs g) ∙ k h

-- a look-up finds the only field of a name
only_found : (tag : Tag) (k : In) (fs : List Field) (f : Field)
    → filter (is_named tag k) fs ≡ f ∷ [] → last_named fs tag k ≡ Some f
only_found tag k fs f h = from_behind (is_named tag k) fs ∙ only_passing (is_named tag k) fs f h

-- where the field is the only one of its name that is read, a look-up finds its value
only_read : (new : List ℕ) (tag : Tag) (k : In) (value : Value) (offset : ℕ) (old : List ℕ)
    → ReadAs new (fields_of (trace new)) (faults_of (trace old))
    → filter (is_named tag k) (fields_of (trace new))
    ≡ record { tag = tag; ifd_num = k; value = moved_to offset value } ∷ []
    → FindsValue tag k value new
only_read new tag k value offset old reads only lenient fields faults e =
    let same = shown_fields lenient (fields_of (trace new)) fields (faults_of (trace old)) faults
    (sym (reads lenient) ∙ e) in (
      offset,
      ap (λ xs. last_named xs tag k) (sym same)
          ∙ only_found tag k (fields_of (trace new))
          (record { tag = tag; ifd_num = k; value = moved_to offset value }) only,
    )

-- the value that was appended
pub appended_found : (old new : List ℕ) (tag : Tag) (k : In) (value : Value)
    → IsAppended old tag k value new → FindsValue tag k value new
appended_found old new tag k value s =
    replaced_read old new tag k value (appended_offset s.order value s.at.entry (length old)) s.at
    s.found s.reads

-- the field that was inserted
pub inserted_found : (old new : List ℕ) (tag : Tag) (k : In) (value : Value)
    → IsInserted old tag k value new → FindsValue tag k value new
inserted_found old new tag k value s =
    only_read new tag k value
    (set_offset (value_offset s.at (length old))
    (entry_offset (leading_in (number_of s.order) old tag.1 s.at) (length old))
    (encode s.order value)) old s.reads s.only

-- the field in a directory that was created
pub created_found : (old new : List ℕ) (tag : Tag) (k : In) (value : Value)
    → IsCreated old tag k value new → FindsValue tag k value new
created_found old new tag k value s =
    only_read new tag k value
    (set_offset (child_value_offset s.at (length old)) (value_offset s.at (length old) + 2)
    (encode s.order value)) old s.reads s.only
