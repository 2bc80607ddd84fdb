-- The steps of setting a value, and what is promised of it.
use Rattle.std.proofs.Common.{◌≡◌, ◌+◌, ℕ, List, [], All, length, inl, inr, Result, Ok, Err, refl, sym, ap, subst, ◌∙◌}
use Rattle.std.proofs.lemmas.List.{append-nil}
use Rattle.exif_base.specs.Orders.{number_of, order_named}
use Rattle.exif_types.specs.declared.tag.Tag.{Tag}
use Rattle.exif_text.specs.declared.ifd.In.{In}
use Rattle.exif_types.specs.declared.value.Value.{Value}
use Rattle.exif_tiff.specs.Trace.{fields_of, trace}
use Rattle.exif_layout.specs.Encoding.{encode, moved_to}
use Rattle.exif_edit_base.specs.Causes.{Cause, full_directory, no_data, no_directory, no_field, picture, offset_named, shared, too_long, unknown_type, wrong_header}
use Rattle.exif_edit_base.proofs.CauseSteps.{ok_same}
use Rattle.exif_edit_base.specs.Finding.{replaced}
use Rattle.exif_edit_base.specs.Patches.{FitsIn, patched}
use Rattle.exif_edit_base.specs.declared.patch.Patch.{Patch}
use Rattle.exif_edit_base.proofs.FindSteps.{header_named}
use Rattle.exif_edit.specs.Promises.{FindsValue, ReadAs}
use Rattle.exif_edit_base.specs.Spans.{value_space}
use Rattle.exif_edit.specs.Setting.{expected, set_patches, set_offset}
use Rattle.exif_edit.proofs.ReadSound.{reads_are}
use Rattle.exif_edit.proofs.SetFound.{set_found}
use Rattle.exif_edit.proofs.SetSound.{set_fits, set_sound, was_set}
use Rattle.exif_grow.specs.Appending.{append_answer, appended_offset, expected_appended}
use Rattle.exif_grow.specs.Creating.{child_value_offset, create_answer}
use Rattle.exif_grow.specs.Directories.{leading_in}
use Rattle.exif_grow.specs.Growing.{Added, grown, in_place}
use Rattle.exif_grow.specs.Inserting.{entry_offset, insert_answer, value_offset}
use Rattle.exif_grow.specs.Promises.{IsGrown}
use Rattle.exif_grow.specs.Setting.{else_created, else_grown, grow_answer}
use Rattle.exif_grow.proofs.AppendSound.{append_fits, append_sound, was_appended}
use Rattle.exif_grow.proofs.CreateSound.{create_fits, create_sound}
use Rattle.exif_grow.proofs.Found.{appended_found, created_found, inserted_found}
use Rattle.exif_grow.proofs.GrowthSteps.{header_small}
use Rattle.exif_grow.proofs.InsertSound.{insert_fits, insert_sound}

-- ---- what is promised

-- what is promised of data that have grown, and of a look-up in them
pub record Promised (old : List ℕ) (tag : Tag) (k : In) (value : Value) (a : Added) : Type 0 where
  pub fits : All (FitsIn (length old)) a.patches
  pub promise : IsGrown old tag k value (grown a old)
  pub found : FindsValue tag k value (grown a old)

in_place_is : (ps : List Patch) (old : List ℕ) → patched ps old ≡ grown (in_place ps) old
in_place_is ps old = sym (append-nil (patched ps old))

-- a value that was set in place
pub set_promised : (old : List ℕ) (ps : List Patch) (tag : Tag) (k : In) (value : Value)
    → set_patches old tag k value ≡ Ok ps → Promised old tag k value (in_place ps)
set_promised old ps tag k value h =
    let w = was_set old ps tag k value h in
    let order = order_named w.read.little in
    let new = patched ps old in
    let wanted = expected tag k value w.at.entry old w.read in
    let r = reads_are old w.read w.reads in
    let s = reads_are new wanted w.reads_new in
    let offset = set_offset (value_space (number_of order) old w.at.entry).offset w.at.entry
    (encode order value) in
    let g : IsGrown old tag k value new = record {
      reads =
          subst (λ xs. ReadAs new (fields_of (trace new)) xs) r.2
          (subst (λ xs. ReadAs new xs w.read.faults) s.1 s.0);
      fields = inl (offset, sym s.1 ∙ ap (replaced tag k (moved_to offset value)) r.1);
      small = header_small new (order_named wanted.little) (header_named new wanted w.reads_new);
    } in
    record {
      fits = set_fits old ps tag k value h;
      promise = subst (λ xs. IsGrown old tag k value xs) (in_place_is ps old) g;
      found = subst (λ xs. FindsValue tag k value xs) (in_place_is ps old)
          (set_found old new tag k value (set_sound old ps tag k value h));
    }

-- a value that was appended
pub append_promised : (old : List ℕ) (a : Added) (tag : Tag) (k : In) (value : Value)
    → append_answer old tag k value ≡ Ok a → Promised old tag k value a
append_promised old a tag k value h =
    let w = was_appended old a tag k value h in
    let order = order_named w.read.little in
    let new = grown a old in
    let wanted = expected_appended tag k value w.at.entry old w.read in
    let r = reads_are old w.read w.reads in
    let s = reads_are new wanted w.reads_new in
    let offset = appended_offset order value w.at.entry (length old) in
    let small = header_small old order (header_named old w.read w.reads) in
    record {
      fits = append_fits old a tag k value h;
      promise = record {
        reads =
            subst (λ xs. ReadAs new (fields_of (trace new)) xs) r.2
            (subst (λ xs. ReadAs new xs w.read.faults) s.1 s.0);
        fields = inl (offset, sym s.1 ∙ ap (replaced tag k (moved_to offset value)) r.1);
        small = header_small new (order_named wanted.little) (header_named new wanted w.reads_new);
      };
      found = appended_found old new tag k value (append_sound old a tag k value small h);
    }

-- a field that was inserted
pub insert_promised : (old : List ℕ) (a : Added) (tag : Tag) (k : In) (value : Value)
    → insert_answer old tag k value ≡ Ok a → Promised old tag k value a
insert_promised old a tag k value h =
    let s = insert_sound old a tag k value h in
    record {
      fits = insert_fits old a tag k value h;
      promise = record {
        reads = s.reads;
        fields = inr (record {
          offset = set_offset (value_offset s.at (length old))
              (entry_offset (leading_in (number_of s.order) old tag.1 s.at) (length old))
              (encode s.order value);
          only = s.only;
          others = s.others;
        });
        small = s.small;
      };
      found = inserted_found old (grown a old) tag k value s;
    }

-- a field in a directory that was created
pub create_promised : (old : List ℕ) (a : Added) (tag : Tag) (k : In) (value : Value)
    → create_answer old tag k value ≡ Ok a → Promised old tag k value a
create_promised old a tag k value h =
    let s = create_sound old a tag k value h in
    record {
      fits = create_fits old a tag k value h;
      promise = record {
        reads = s.reads;
        fields = inr (record {
          offset = set_offset (child_value_offset s.at (length old))
              (value_offset s.at (length old) + 2) (encode s.order value);
          only = s.only;
          others = s.others;
        });
        small = s.small;
      };
      found = created_found old (grown a old) tag k value s;
    }

-- a refusal is no answer
refused : {B : Type 0} (c : Cause) (a : Added) → ◌≡◌ {A = Result Added Cause} (Err c) (Ok a) → B
refused {B = B} c a e = absurd (err_ok e)
  where
    err_ok : ◌≡◌ {A = Result Added Cause} (Err c) (Ok a) → ⊥
    err_ok e = cc

-- a field that was inserted, or put into a directory that was created
created_promised : (old : List ℕ) (a : Added) (tag : Tag) (k : In) (value : Value)
    (x : Result Added Cause)
    → insert_answer old tag k value ≡ x → else_created old tag k value x ≡ Ok a
    → Promised old tag k value a
created_promised old a tag k value (Ok b) e h = insert_promised old a tag k value (e ∙ h)
created_promised old a tag k value (Err no_directory) e h = create_promised old a tag k value h
created_promised old a tag k value (Err no_field) e h = refused no_field a h
created_promised old a tag k value (Err full_directory) e h = refused full_directory a h
created_promised old a tag k value (Err unknown_type) e h = refused unknown_type a h
created_promised old a tag k value (Err too_long) e h = refused too_long a h
created_promised old a tag k value (Err offset_named) e h = refused offset_named a h
created_promised old a tag k value (Err shared) e h = refused shared a h
created_promised old a tag k value (Err picture) e h = refused picture a h
created_promised old a tag k value (Err (wrong_header fault)) e h = refused (wrong_header fault) a h
created_promised old a tag k value (Err (no_data r)) e h = refused (no_data r) a h

grown_promised : (old : List ℕ) (a : Added) (tag : Tag) (k : In) (value : Value)
    (x : Result (List Patch) Cause)
    → set_patches old tag k value ≡ x → else_grown old tag k value x ≡ Ok a
    → Promised old tag k value a
grown_promised old a tag k value (Ok ps) e h =
    subst (λ x. Promised old tag k value x) (ok_same (in_place ps) a h)
    (set_promised old ps tag k value e)
grown_promised old a tag k value (Err too_long) e h = append_promised old a tag k value h
grown_promised old a tag k value (Err shared) e h = append_promised old a tag k value h
grown_promised old a tag k value (Err no_field) e h =
    created_promised old a tag k value (insert_answer old tag k value) refl h
grown_promised old a tag k value (Err no_directory) e h = refused no_directory a h
grown_promised old a tag k value (Err full_directory) e h = refused full_directory a h
grown_promised old a tag k value (Err unknown_type) e h = refused unknown_type a h
grown_promised old a tag k value (Err offset_named) e h = refused offset_named a h
grown_promised old a tag k value (Err picture) e h = refused picture a h
grown_promised old a tag k value (Err (wrong_header fault)) e h = refused (wrong_header fault) a h
grown_promised old a tag k value (Err (no_data r)) e h = refused (no_data r) a h

-- what is promised of any answer
pub grow_promised : (old : List ℕ) (a : Added) (tag : Tag) (k : In) (value : Value)
    → grow_answer old tag k value ≡ Ok a → Promised old tag k value a
unfolding grow_answer
grow_promised old a tag k value h =
    grown_promised old a tag k value (set_patches old tag k value) refl h

-- ---- the steps

-- where a value was set in place
pub grown_in_place : (bytes : List ℕ) (tag : Tag) (k : In) (value : Value) (ps : List Patch)
    (tail : List ℕ)
    → set_patches bytes tag k value ≡ Ok ps → tail ≡ []
    → grow_answer bytes tag k value ≡ Ok (record { patches = ps; tail = tail })
unfolding grow_answer
grown_in_place bytes tag k value ps tail h t = rw (h, t) refl

-- where there is no such field
pub grown_new : (bytes : List ℕ) (tag : Tag) (k : In) (value : Value)
    → set_patches bytes tag k value ≡ Err no_field
    → grow_answer bytes tag k value
    ≡ else_created bytes tag k value (insert_answer bytes tag k value)
unfolding grow_answer
grown_new bytes tag k value h = rw h refl
