-- What is read where all fields of a name were made alike.
use Rattle.std.proofs.Common.{◌≡◌, ◌≤◌, ◌<◌, ℕ, Bool, true, false, if◌then◌else◌, List, [], ◌∷◌, length, map, All, Option, Some, None, Ok, refl, sym, ap, subst, ◌∙◌, arith}
use Rattle.std.specs.Prelude.{◌||◌, not, nat_lt}
use Rattle.std.specs.List.{list_any}
use Rattle.std.proofs.lemmas.Bool.{false≢true}
use Rattle.std.proofs.lemmas.Bool.Decides.{nat_tests}
use Rattle.std.proofs.lemmas.List.Elements.{All-nil, All-cons}
use Rattle.exif_base.specs.Orders.{number_of, order_named}
use Rattle.exif_text.specs.declared.ifd.In.{In}
use Rattle.exif_types.specs.Lookup.{is_named, last_named}
use Rattle.exif_types.specs.declared.field.Field.{Field}
use Rattle.exif_types.specs.declared.tag.Tag.{Tag}
use Rattle.exif_types.specs.declared.value.Value.{Value}
use Rattle.exif_tiff.specs.Trace.{faults_of, fields_of, trace}
use Rattle.exif_edit_base.specs.Causes.{no_field, of_data, or_cause, ◌>>=◌}
use Rattle.exif_edit_base.specs.Finding.{last_located, with_value}
use Rattle.exif_edit_base.specs.Locations.{Located, located}
use Rattle.exif_edit_base.specs.Readings.{Read, reading}
use Rattle.exif_edit_base.specs.Rereading.{value_at_entry}
use Rattle.exif_edit_base.proofs.CauseSteps.{bound, data_read, ok_same, option_told}
use Rattle.exif_edit_base.proofs.FindSteps.{any_map, field_of}
use Rattle.exif_edit_base.proofs.LawsLocated.{located_fields}
use Rattle.exif_edit.specs.Promises.{ReadAs}
use Rattle.exif_edit.specs.Removing.{without_named}
use Rattle.exif_edit.proofs.ReadSound.{reads_are, reads_so}
use Rattle.exif_edit.proofs.SetFound.{from_behind, last_passing}
use Rattle.exif_grow.specs.Alike.{alike_at, alike_patches, entries_alike, entries_named, field_alike, fields_alike, made_alike, read_alike}
use Rattle.exif_grow.specs.Growing.{first_read, grown, in_place}
use Rattle.exif_grow.specs.FieldPromises.{bare}
use Rattle.exif_grow.proofs.GrowthSteps.{first_parts}
use Rattle.exif_grow.proofs.SetLists.{bare_at}

-- ---- the last of a name

none_some : (at : Located) → ◌≡◌ {A = Option Located} None (Some at) → ⊥
none_some at e = cc

some_same : (l at : Located) → ◌≡◌ {A = Option Located} (Some l) (Some at) → l ≡ at
some_same l at e = cc

passing : (tag : Tag) (k : In) (ls : List Located) (at : Located)
    → last_located tag k ls ≡ Some at
    → last_passing (is_named tag k) (map field_of ls) ≡ Some at.field
unfolding last_passing
passing tag k [] at e = absurd (none_some at e)
passing tag k (l ∷ ls) at e =
    by_tests (list_any (λ (m : Located). is_named tag k m.field) ls) (is_named tag k l.field)
    refl e (passing tag k ls at)
  where
    by_tests : (a b : Bool) → list_any (λ (m : Located). is_named tag k m.field) ls ≡ a
        → (if a then last_located tag k ls else (if b then Some l else None)) ≡ Some at
        → (last_located tag k ls ≡ Some at
        → last_passing (is_named tag k) (map field_of ls) ≡ Some at.field)
        → (if list_any (is_named tag k) (map field_of ls)
        then last_passing (is_named tag k) (map field_of ls)
        else (if b then Some l.field else None)) ≡ Some at.field
    by_tests true b g e k0 =
        let a : list_any (is_named tag k) (map field_of ls) ≡ true = sym (any_map tag k ls) ∙ g in
        rw a (k0 e)
    by_tests false true g e k0 =
        let a : list_any (is_named tag k) (map field_of ls) ≡ false = sym (any_map tag k ls) ∙ g in
        rw a (ap (λ (m : Located). Some m.field) (some_same l at e))
    by_tests false false g e k0 = absurd (none_some at e)

-- a look-up finds the last located field of a name
pub located_last : (tag : Tag) (k : In) (ls : List Located) (at : Located)
    → last_located tag k ls ≡ Some at → last_named (map field_of ls) tag k ≡ Some at.field
located_last tag k ls at e =
    from_behind (is_named tag k) (map field_of ls) ∙ passing tag k ls at e

any_located : (tag : Tag) (k : In) (ls : List Located) (at : Located)
    → last_located tag k ls ≡ Some at → list_any (is_named tag k) (map field_of ls) ≡ true
any_located tag k [] at e = absurd (none_some at e)
any_located tag k (l ∷ ls) at e =
    by_tests (list_any (λ (m : Located). is_named tag k m.field) ls) (is_named tag k l.field) refl e
    (any_located tag k ls at)
  where
    by_tests : (a b : Bool) → list_any (λ (m : Located). is_named tag k m.field) ls ≡ a
        → (if a then last_located tag k ls else (if b then Some l else None)) ≡ Some at
        → (last_located tag k ls ≡ Some at → list_any (is_named tag k) (map field_of ls) ≡ true)
        → (b || list_any (is_named tag k) (map field_of ls)) ≡ true
    by_tests true true g e k0 = refl
    by_tests false true g e k0 = refl
    by_tests true false g e k0 = k0 e
    by_tests false false g e k0 = absurd (none_some at e)

-- ---- few fields

-- a field of the name has this value
abbrev pub HasIt : Tag → In → Value → Field → Type 0
HasIt tag k value f = is_named tag k f ≡ true → bare f.value ≡ bare value

none_has : (tag : Tag) (k : In) (value : Value) (ls : List Located)
    → list_any (λ (m : Located). is_named tag k m.field) ls ≡ false
    → All (HasIt tag k value) (map field_of ls)
none_has tag k value [] e = All-nil (HasIt tag k value)
none_has tag k value (l ∷ ls) e =
    by_test (is_named tag k l.field) refl e (none_has tag k value ls)
  where
    by_test : (b : Bool) → is_named tag k l.field ≡ b
        → (b || list_any (λ (m : Located). is_named tag k m.field) ls) ≡ false
        → (list_any (λ (m : Located). is_named tag k m.field) ls ≡ false
        → All (HasIt tag k value) (map field_of ls))
        → All (HasIt tag k value) (map field_of (l ∷ ls))
    by_test true n e h = absurd (false≢true (sym e))
    by_test false n e h =
        All-cons (HasIt tag k value) l.field (map field_of ls)
        (λ m. absurd (false≢true (sym n ∙ m))) (h e)

some_entry : (tag : Tag) (k : In) (ls : List Located)
    → list_any (λ (m : Located). is_named tag k m.field) ls ≡ true
    → 1 ≤ length (entries_named tag k ls)
some_entry tag k [] e = absurd (false≢true e)
some_entry tag k (l ∷ ls) e = by_test (is_named tag k l.field) e (some_entry tag k ls)
  where
    by_test : (b : Bool) → (b || list_any (λ (m : Located). is_named tag k m.field) ls) ≡ true
        → (list_any (λ (m : Located). is_named tag k m.field) ls ≡ true
        → 1 ≤ length (entries_named tag k ls))
        → 1 ≤ length (if b then l.entry ∷ entries_named tag k ls else entries_named tag k ls)
    by_test true e h = omega arith
    by_test false e h = h e

-- where there is one entry of the name, its field is the last one
few_values : (tag : Tag) (k : In) (ls : List Located) (at : Located)
    → length (entries_named tag k ls) < 2 → last_located tag k ls ≡ Some at
    → All (HasIt tag k at.field.value) (map field_of ls)
few_values tag k [] at h e = All-nil (HasIt tag k at.field.value)
few_values tag k (l ∷ ls) at h e =
    by_tests (list_any (λ (m : Located). is_named tag k m.field) ls) (is_named tag k l.field) refl
    refl h e (few_values tag k ls at)
  where
    by_tests : (a b : Bool) → list_any (λ (m : Located). is_named tag k m.field) ls ≡ a
        → is_named tag k l.field ≡ b
        → length (if b then l.entry ∷ entries_named tag k ls else entries_named tag k ls) < 2
        → (if a then last_located tag k ls else (if b then Some l else None)) ≡ Some at
        → (length (entries_named tag k ls) < 2 → last_located tag k ls ≡ Some at
        → All (HasIt tag k at.field.value) (map field_of ls))
        → All (HasIt tag k at.field.value) (map field_of (l ∷ ls))
    by_tests true true g n h e r =
        let s = some_entry tag k ls g in absurd (omega (arith, s, h))
    by_tests true false g n h e r =
        All-cons (HasIt tag k at.field.value) l.field (map field_of ls)
        (λ m. absurd (false≢true (sym n ∙ m))) (r h e)
    by_tests false true g n h e r =
        All-cons (HasIt tag k at.field.value) l.field (map field_of ls)
        (λ m. ap (λ (x : Located). bare x.field.value) (some_same l at e))
        (none_has tag k at.field.value ls g)
    by_tests false false g n h e r = absurd (none_some at e)

-- ---- fields alike

alike_values : (tag : Tag) (k : In) (value : Value) (ls : List Located)
    → All (HasIt tag k value) (fields_alike tag k value ls)
alike_values tag k value [] = All-nil (HasIt tag k value)
alike_values tag k value (l ∷ ls) =
    All-cons (HasIt tag k value) (field_alike tag k value l) (fields_alike tag k value ls)
    (by_test (is_named tag k l.field) refl) (alike_values tag k value ls)
  where
    by_test : (b : Bool) → is_named tag k l.field ≡ b
        → HasIt tag k value (if b then with_value (value_at_entry l.entry value) l.field else l.field)
    by_test true n = λ m. bare_at l.entry value
    by_test false n = λ m. absurd (false≢true (sym n ∙ m))

alike_others : (tag : Tag) (k : In) (value : Value) (ls : List Located)
    → without_named tag k (fields_alike tag k value ls) ≡ without_named tag k (map field_of ls)
alike_others tag k value [] = refl
alike_others tag k value (l ∷ ls) =
    by_test (is_named tag k l.field) refl (alike_others tag k value ls)
  where
    by_test : (b : Bool) → is_named tag k l.field ≡ b
        → without_named tag k (fields_alike tag k value ls) ≡ without_named tag k (map field_of ls)
        → without_named tag k
        ((if b then with_value (value_at_entry l.entry value) l.field else l.field)
        ∷ fields_alike tag k value ls)
        ≡ (if not b then l.field ∷ without_named tag k (map field_of ls)
        else without_named tag k (map field_of ls))
    by_test true n h = rw n h
    by_test false n h = rw n (ap (λ xs. l.field ∷ xs) h)

alike_any : (tag : Tag) (k : In) (value : Value) (ls : List Located)
    → list_any (is_named tag k) (fields_alike tag k value ls)
    ≡ list_any (is_named tag k) (map field_of ls)
alike_any tag k value [] = refl
alike_any tag k value (l ∷ ls) = by_test (is_named tag k l.field) refl (alike_any tag k value ls)
  where
    by_test : (b : Bool) → is_named tag k l.field ≡ b
        → list_any (is_named tag k) (fields_alike tag k value ls)
        ≡ list_any (is_named tag k) (map field_of ls)
        → list_any (is_named tag k)
        ((if b then with_value (value_at_entry l.entry value) l.field else l.field)
        ∷ fields_alike tag k value ls)
        ≡ (b || list_any (is_named tag k) (map field_of ls))
    by_test true n h = rw n refl
    by_test false n h = rw n h

-- ---- the whole

-- what is promised of the fields of a name, and of all others
pub record WasMadeAlike (bytes : List ℕ) (tag : Tag) (k : In) (new : List ℕ) : Type 0 where
  pub at : Located
  pub found : last_located tag k (located bytes) ≡ Some at
  pub known : ReadAs bytes (fields_of (trace bytes)) (faults_of (trace bytes))
  pub reads : ReadAs new (fields_of (trace new)) (faults_of (trace new))
  pub faults : faults_of (trace new) ≡ faults_of (trace bytes)
  pub values : All (HasIt tag k at.field.value) (fields_of (trace new))
  pub others : without_named tag k (fields_of (trace new)) ≡ without_named tag k (fields_of (trace bytes))
  pub there : list_any (is_named tag k) (fields_of (trace new)) ≡ true

-- data that were read are read by their trace
read_by_trace : (bytes : List ℕ) (read : Read) → reading bytes ≡ Ok read
    → ReadAs bytes (fields_of (trace bytes)) (faults_of (trace bytes))
read_by_trace bytes read h =
    let r = reads_are bytes read h in
    subst (λ xs. ReadAs bytes (fields_of (trace bytes)) xs) r.2
    (subst (λ xs. ReadAs bytes xs read.faults) r.1 r.0)

same_alike : (bytes : List ℕ) (tag : Tag) (k : In) (read : Read) (at : Located) (new : List ℕ)
    → reading bytes ≡ Ok read → last_located tag k (located bytes) ≡ Some at
    → length (entries_named tag k (located bytes)) < 2 → bytes ≡ new
    → WasMadeAlike bytes tag k new
same_alike bytes tag k read at new h l few e =
    let fields = located_fields bytes in
    let known = read_by_trace bytes read h in
    subst (λ xs. WasMadeAlike bytes tag k xs) e (record {
      at = at;
      found = l;
      known = known;
      reads = known;
      faults = refl;
      values = subst (λ fs. All (HasIt tag k at.field.value) fs) fields
          (few_values tag k (located bytes) at few l);
      others = refl;
      there = subst (λ fs. list_any (is_named tag k) fs ≡ true) fields
          (any_located tag k (located bytes) at l);
    })

several_alike : (bytes : List ℕ) (tag : Tag) (k : In) (read : Read) (at : Located) (new : List ℕ)
    → reading bytes ≡ Ok read → last_located tag k (located bytes) ≡ Some at
    → entries_alike (read_alike tag k at.field.value (located bytes) read) at.entry
    (entries_named tag k (located bytes)) bytes ≡ Ok new
    → WasMadeAlike bytes tag k new
unfolding entries_alike
several_alike bytes tag k read at new h l e =
    let ls = located bytes in
    let es = entries_named tag k ls in
    let wanted = read_alike tag k at.field.value ls read in
    let number = number_of (order_named read.little) in
    let clear = in_place (alike_patches true number bytes at.entry es) in
    let keep = in_place (alike_patches false number bytes at.entry es) in
    let b = bound (first_read wanted bytes clear keep) (λ a. Ok (grown a bytes)) new e in
    let p = first_parts wanted bytes clear keep b.0 b.1 in
    let now : reading new ≡ Ok wanted =
    subst (λ xs. reading xs ≡ Ok wanted) (ok_same (grown b.0 bytes) new b.2)
    (reads_so (grown b.0 bytes) wanted p.0) in
    let r = reads_are new wanted now in
    let o = reads_are bytes read h in
    let fields = located_fields bytes in
    record {
      at = at;
      found = l;
      known = read_by_trace bytes read h;
      reads = read_by_trace new wanted now;
      faults = sym r.2 ∙ o.2;
      values = subst (λ fs. All (HasIt tag k at.field.value) fs) r.1
          (alike_values tag k at.field.value ls);
      others = ap (without_named tag k) (sym r.1)
          ∙ (alike_others tag k at.field.value ls ∙ ap (without_named tag k) fields);
      there = ap (list_any (is_named tag k)) (sym r.1)
          ∙ (alike_any tag k at.field.value ls ∙ any_located tag k ls at l);
    }

-- what an answer promises
pub was_made_alike : (bytes : List ℕ) (tag : Tag) (k : In) (new : List ℕ)
    → made_alike bytes tag k ≡ Ok new → WasMadeAlike bytes tag k new
unfolding made_alike
was_made_alike bytes tag k new h =
    let a = bound (of_data (reading bytes))
    (λ read. or_cause (last_located tag k (located bytes)) no_field
    >>= λ at. alike_at bytes tag k read at) new h in
    let b = bound (or_cause (last_located tag k (located bytes)) no_field)
    (λ at. alike_at bytes tag k a.0 at) new a.2 in
    by_test (nat_lt (length (entries_named tag k (located bytes))) 2) refl a.0 b.0
    (data_read (reading bytes) a.0 a.1)
    (option_told (last_located tag k (located bytes)) no_field b.0 b.1) b.2
  where
    by_test : (t : Bool) → nat_lt (length (entries_named tag k (located bytes))) 2 ≡ t
        → (read : Read) (at : Located) → reading bytes ≡ Ok read
        → last_located tag k (located bytes) ≡ Some at
        → (if t then Ok bytes else entries_alike (read_alike tag k at.field.value (located bytes) read)
        at.entry (entries_named tag k (located bytes)) bytes) ≡ Ok new
        → WasMadeAlike bytes tag k new
    by_test true t read at r l e =
        let few : length (entries_named tag k (located bytes)) < 2 = grind (arith, nat_tests) in
        same_alike bytes tag k read at new r l few (ok_same bytes new e)
    by_test false t read at r l e = several_alike bytes tag k read at new r l e
