-- What is read where several fields were set.
use Rattle.std.proofs.Common.{◌≡◌, ℕ, Bool, true, false, if◌then◌else◌, List, [], ◌∷◌, All, ◌⊎◌, inl, inr, Option, Some, Ok, refl, sym, ap, subst, ◌∙◌}
use Rattle.std.specs.Prelude.{not}
use Rattle.std.specs.List.{list_any}
use Rattle.std.proofs.lemmas.List.Elements.{All-nil, All-cons, All-weaker}
use Rattle.exif_text.specs.declared.ifd.In.{In}
use Rattle.exif_types.specs.Lookup.{is_named, last_named}
use Rattle.exif_types.specs.declared.field.Field.{Field}
use Rattle.exif_types.specs.declared.tag.Tag.{Tag}
use Rattle.exif_types.specs.declared.value.Value.{Value}
use Rattle.exif_types.specs.declared.value.Value.TheVariants.{Byte, Ascii, Short, Long, Rational, SByte, Undefined, SShort, SLong, SRational, Float, Double, Unknown}
use Rattle.exif_tiff.specs.Trace.{faults_of, fields_of, trace}
use Rattle.exif_tiff.specs.declared.fault.Fault.{Fault}
use Rattle.exif_layout.specs.Encoding.{moved_to}
use Rattle.exif_edit_base.specs.Finding.{replaced, with_value}
use Rattle.exif_edit_base.specs.Locations.{located}
use Rattle.exif_edit_base.specs.Rereading.{without_entry_offsets}
use Rattle.exif_edit_base.proofs.CauseSteps.{bound, ok_same}
use Rattle.exif_edit_base.proofs.LawsLocated.{located_fields}
use Rattle.exif_edit_base.proofs.ReadSteps.{unshown, unshown_shown}
use Rattle.exif_edit.specs.Promises.{ReadAs}
use Rattle.exif_edit.specs.Removing.{without_named}
use Rattle.exif_grow.specs.Alike.{made_alike}
use Rattle.exif_grow.specs.Growing.{grown}
use Rattle.exif_grow.specs.Promises.{IsAdded, IsReplaced}
use Rattle.exif_grow.specs.FieldPromises.{AreSet, HasLastValue, IsThere, bare}
use Rattle.exif_grow.specs.Setting.{grow_answer}
use Rattle.exif_grow.specs.Fields.{field_grown, fields_grown}
use Rattle.exif_grow.proofs.AlikeSound.{HasIt, located_last, was_made_alike}
use Rattle.exif_grow.proofs.GrowSteps.{grow_promised}
use Rattle.exif_grow.proofs.SetLists.{HasValueOf, Later, failing, later_others, later_there, later_values, without_failing}

-- ---- one field

-- the same value, wherever it is stored
bare_moved : (offset : ℕ) (v : Value) → bare (moved_to offset v) ≡ bare v
bare_moved offset (Undefined xs old) = refl
bare_moved offset (Unknown type count old) = refl
bare_moved offset (Byte xs) = refl
bare_moved offset (Ascii xs) = refl
bare_moved offset (Short xs) = refl
bare_moved offset (Long xs) = refl
bare_moved offset (Rational xs) = refl
bare_moved offset (SByte xs) = refl
bare_moved offset (SShort xs) = refl
bare_moved offset (SLong xs) = refl
bare_moved offset (SRational xs) = refl
bare_moved offset (Float xs) = refl
bare_moved offset (Double xs) = refl

-- a replaced field has the name, so the others are the same
replaced_others : (tag : Tag) (k : In) (v : Value) (fs : List Field)
    → without_named tag k (replaced tag k v fs) ≡ without_named tag k fs
replaced_others tag k v [] = refl
replaced_others tag k v (f ∷ fs) =
    by_tests (list_any (is_named tag k) fs) (is_named tag k f) refl (replaced_others tag k v fs)
  where
    by_tests : (a b : Bool) → is_named tag k f ≡ b
        → without_named tag k (replaced tag k v fs) ≡ without_named tag k fs
        → without_named tag k
        (if a then f ∷ replaced tag k v fs else ((if b then with_value v f else f) ∷ fs))
        ≡ (if not b then f ∷ without_named tag k fs else without_named tag k fs)
    by_tests true true n h = rw n h
    by_tests true false n h = rw n (ap (λ xs. f ∷ xs) h)
    by_tests false true n h = rw n refl
    by_tests false false n h = rw n refl

others_grown : (tag : Tag) (k : In) (value : Value) (old new : List Field)
    → IsReplaced tag k value old new ⊎ IsAdded tag k value old new
    → without_entry_offsets (without_named tag k new)
    ≡ without_entry_offsets (without_named tag k old)
others_grown tag k value old new (inl r) =
    ap without_entry_offsets
    (ap (without_named tag k) r.1 ∙ replaced_others tag k (moved_to r.0 value) old)
others_grown tag k value old new (inr a) =
    let p = is_named tag k in
    ap without_entry_offsets (sym (twice new))
    ∙ (without_failing p (λ f. refl) (without_named tag k new)
    ∙ (ap (failing p) a.others ∙ sym (without_failing p (λ f. refl) old)))
  where
    twice : (xs : List Field)
        → without_named tag k (without_named tag k xs) ≡ without_named tag k xs
    twice [] = refl
    twice (x ∷ xs) = by_test (is_named tag k x) refl (twice xs)
      where
        by_test : (b : Bool) → is_named tag k x ≡ b
            → without_named tag k (without_named tag k xs) ≡ without_named tag k xs
            → without_named tag k
            (if not b then x ∷ without_named tag k xs else without_named tag k xs)
            ≡ (if not b then x ∷ without_named tag k xs else without_named tag k xs)
        by_test true n h = h
        by_test false n h = rw n (ap (λ ys. x ∷ ys) h)

-- faults that are shown are those of the content
shown_faults : (bytes : List ℕ) (fs gs : List Field) (xs ys : List Fault)
    → ReadAs bytes fs xs → ReadAs bytes gs ys → xs ≡ ys
shown_faults bytes fs gs xs ys a b =
    ap (λ (p : List Field × List Fault). p.1)
    (sym (unshown_shown fs xs) ∙ (ap unshown (sym (a true) ∙ b true) ∙ unshown_shown gs ys))

-- one field was set
pub record WasSet (g : Field) (old new : List ℕ) : Type 0 where
  pub reads : ReadAs new (fields_of (trace new)) (faults_of (trace new))
  pub faults : faults_of (trace new) ≡ faults_of (trace old)
  pub values : All (HasValueOf g) (fields_of (trace new))
  pub there : IsThere (fields_of (trace new)) g
  pub others : without_entry_offsets (without_named g.tag g.ifd_num (fields_of (trace new)))
      ≡ without_entry_offsets (without_named g.tag g.ifd_num (fields_of (trace old)))

pub was_set : (g : Field) (old new : List ℕ) → field_grown g old ≡ Ok new → WasSet g old new
unfolding field_grown
was_set g old new h =
    let b = bound (grow_answer old g.tag g.ifd_num g.value)
    (λ a. made_alike (grown a old) g.tag g.ifd_num) new h in
    let mid = grown b.0 old in
    let p = grow_promised old b.0 g.tag g.ifd_num g.value b.1 in
    let m = was_made_alike mid g.tag g.ifd_num new b.2 in
    let found = p.found true (fields_of (trace mid)) (faults_of (trace old)) (p.promise.reads true) in
    let last : last_named (fields_of (trace mid)) g.tag g.ifd_num ≡ Some m.at.field =
    ap (λ fs. last_named fs g.tag g.ifd_num) (sym (located_fields mid))
    ∙ located_last g.tag g.ifd_num (located mid) m.at m.found in
    let same : bare m.at.field.value ≡ bare g.value =
    ap (λ (f : Field). bare f.value)
    (some_same m.at.field (record { tag = g.tag; ifd_num = g.ifd_num; value = moved_to found.0 g.value })
    (sym last ∙ found.1))
    ∙ bare_moved found.0 g.value in
    record {
      reads = m.reads;
      faults = m.faults
          ∙ shown_faults mid (fields_of (trace mid)) (fields_of (trace mid))
          (faults_of (trace mid)) (faults_of (trace old)) m.known p.promise.reads;
      values = All-weaker (HasIt g.tag g.ifd_num m.at.field.value) (HasValueOf g)
          (λ f e. λ n. e n ∙ same) (fields_of (trace new)) m.values;
      there = m.there;
      others = ap without_entry_offsets m.others
          ∙ others_grown g.tag g.ifd_num g.value (fields_of (trace old)) (fields_of (trace mid))
          p.promise.fields;
    }
  where
    some_same : (a b : Field) → ◌≡◌ {A = Option Field} (Some a) (Some b) → a ≡ b
    some_same a b e = cc

-- ---- several fields

all_last : (xs : List Field) → All (HasLastValue []) xs
all_last [] = All-nil (HasLastValue [])
all_last (x ∷ xs) = All-cons (HasLastValue []) x xs tt (all_last xs)

-- each field that is set has its value, and all else is as it was
pub are_set : (gs : List Field) (old new : List ℕ) → fields_grown gs old ≡ Ok new
    → AreSet gs old new
are_set [] old new h =
    subst (λ xs. AreSet [] old xs) (ok_same old new h) (record {
      reads = λ r. r;
      values = all_last (fields_of (trace old));
      there = All-nil (IsThere (fields_of (trace old)));
      others = refl;
    })
are_set (g ∷ gs) old new h =
    let b = bound (field_grown g old) (fields_grown gs) new h in
    let mid = b.0 in
    let one = was_set g old mid b.1 in
    let rest = are_set gs mid new b.2 in
    let later : Later gs (fields_of (trace mid)) (fields_of (trace new)) =
    record { values = rest.values; there = rest.there; others = rest.others } in
    record {
      reads = λ r. subst (λ xs. ReadAs new (fields_of (trace new)) xs) one.faults
          (rest.reads one.reads);
      values = later_values g gs (fields_of (trace old)) (fields_of (trace mid))
          (fields_of (trace new)) later one.values;
      there = later_there g gs (fields_of (trace old)) (fields_of (trace mid))
          (fields_of (trace new)) later one.there;
      others = later_others g gs (fields_of (trace old)) (fields_of (trace mid))
          (fields_of (trace new)) later one.others;
    }
