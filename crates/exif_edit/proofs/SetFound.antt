-- After an edit, a look-up of the name gives the value.
use Rattle.std.proofs.Common.{◌≡◌, ℕ, Bool, true, false, if◌then◌else◌, List, [], ◌∷◌, ◌++◌, map, reverse, Option, Some, None, refl, sym, ap, subst, ◌∙◌}
use Rattle.std.specs.Prelude.{◌||◌, ◌==◌, find, not}
use Rattle.std.specs.List.{list_any}
use Rattle.std.proofs.lemmas.Bool.{false≢true, and_parts, or_parts}
use Rattle.std.proofs.lemmas.List.{reverse-append}
use Rattle.exif_types.specs.FieldEq.{tag_Decides, ifd_Decides}
use Rattle.exif_types.specs.Lookup.{is_named, last_named, tag_eq}
use Rattle.exif_types.specs.declared.field.Field.{Field}
use Rattle.exif_types.specs.declared.tag.Tag.{Tag}
use Rattle.exif_text.specs.declared.ifd.In.{In}
use Rattle.exif_types.specs.declared.value.Value.{Value}
use Rattle.exif_tiff.specs.Answers.{answer_of, shown}
use Rattle.exif_tiff.specs.Trace.{fields_of, faults_of, trace}
use Rattle.exif_tiff.specs.declared.fault.Fault.{Fault}
use Rattle.exif_layout.specs.Encoding.{moved_to}
use Rattle.exif_edit_base.specs.Finding.{last_located, replaced, with_value}
use Rattle.exif_edit_base.specs.Locations.{Located, located}
use Rattle.exif_edit_base.proofs.FindSteps.{any_map, field_of}
use Rattle.exif_edit_base.proofs.ReadSteps.{is_refused, not_refused, unshown, unshown_shown}
use Rattle.exif_edit_base.proofs.LawsLocated.{located_fields}
use Rattle.exif_edit.specs.Promises.{FindsNone, FindsValue, IsFieldErased, IsSet, ReadAs, told_by}
use Rattle.exif_edit_base.specs.Rereading.{field_at_entry}
use Rattle.exif_edit.specs.Removing.{without_named}

-- ---- the last of a name

-- the last that passes, found from the front
unfoldable pub last_passing : (Field → Bool) → List Field → Option Field
last_passing p [] = None
last_passing p (x ∷ xs) =
    if list_any p xs then last_passing p xs else (if p x then Some x else None)

or_else : Option Field → Option Field → Option Field
or_else (Some x) o = Some x
or_else None o = o

find_one_more : (p : Field → Bool) (ys : List Field) (x : Field)
    → find p (ys ++ x ∷ []) ≡ or_else (find p ys) (if p x then Some x else None)
unfolding or_else
find_one_more p [] x = refl
find_one_more p (y ∷ ys) x = by_test (p y) (find_one_more p ys x)
  where
    by_test : (b : Bool)
        → find p (ys ++ x ∷ []) ≡ or_else (find p ys) (if p x then Some x else None)
        → (if b then Some y else find p (ys ++ x ∷ []))
        ≡ or_else (if b then Some y else find p ys) (if p x then Some x else None)
    by_test true k = refl
    by_test false k = k

-- none passes
pub passing_none : (p : Field → Bool) (xs : List Field) → list_any p xs ≡ false
    → last_passing p xs ≡ None
unfolding last_passing
passing_none p [] h = refl
passing_none p (x ∷ xs) h = by_tests (p x) (list_any p xs) refl h (passing_none p xs)
  where
    by_tests : (a b : Bool) → list_any p xs ≡ b → (a || b) ≡ false
        → (list_any p xs ≡ false → last_passing p xs ≡ None)
        → (if b then last_passing p xs else (if a then Some x else None)) ≡ None
    by_tests true b e h k = absurd (false≢true (sym h))
    by_tests false true e h k = absurd (false≢true (sym h))
    by_tests false false e h k = refl

passing_some : (p : Field → Bool) (xs : List Field) → list_any p xs ≡ true
    → (x : Field) × (last_passing p xs ≡ Some x)
unfolding last_passing
passing_some p [] h = absurd (false≢true h)
passing_some p (x ∷ xs) h = by_tests (p x) (list_any p xs) refl h (passing_some p xs)
  where
    by_tests : (a b : Bool) → list_any p xs ≡ b → (a || b) ≡ true
        → (list_any p xs ≡ true → (y : Field) × (last_passing p xs ≡ Some y))
        → (y : Field) × ((if b then last_passing p xs else (if a then Some x else None)) ≡ Some y)
    by_tests a true e h k = k e
    by_tests true false e h k = (x, refl)
    by_tests false false e h k = absurd (false≢true h)

-- found from behind it is the same
pub from_behind : (p : Field → Bool) (xs : List Field) → find p (reverse xs) ≡ last_passing p xs
unfolding last_passing or_else
from_behind p [] = refl
from_behind p (x ∷ xs) =
    ap (find p) (reverse-append (x ∷ []) xs)
    ∙ (find_one_more p (reverse xs) x
    ∙ (ap (λ o. or_else o (if p x then Some x else None)) (from_behind p xs)
    ∙ by_test (list_any p xs) refl))
  where
    by_test : (b : Bool) → list_any p xs ≡ b
        → or_else (last_passing p xs) (if p x then Some x else None)
        ≡ (if b then last_passing p xs else (if p x then Some x else None))
    by_test true e = let s = passing_some p xs e in let t = s.1 in rw t refl
    by_test false e = let t = passing_none p xs e in rw t refl

-- ---- the replaced field is found

any_replaced : (tag : Tag) (k : In) (v : Value) (fs : List Field)
    → list_any (is_named tag k) (replaced tag k v fs) ≡ list_any (is_named tag k) fs
any_replaced tag k v [] = refl
any_replaced tag k v (f ∷ fs) =
    by_tests (list_any (is_named tag k) fs) (is_named tag k f) (any_replaced tag k v fs)
  where
    by_tests : (a b : Bool)
        → list_any (is_named tag k) (replaced tag k v fs) ≡ list_any (is_named tag k) fs
        → list_any (is_named tag k)
        (if a then f ∷ replaced tag k v fs else ((if b then with_value v f else f) ∷ fs))
        ≡ (is_named tag k f || list_any (is_named tag k) fs)
    by_tests true b h = ap (λ x. is_named tag k f || x) h
    by_tests false true h = refl
    by_tests false false h = refl

replaced_last : (tag : Tag) (k : In) (v : Value) (fs : List Field)
    → list_any (is_named tag k) fs ≡ true
    → (f : Field) × (is_named tag k f ≡ true)
    × (last_passing (is_named tag k) (replaced tag k v fs) ≡ Some (with_value v f))
unfolding last_passing
replaced_last tag k v [] h = absurd (false≢true h)
replaced_last tag k v (f ∷ fs) h =
    by_tests (list_any (is_named tag k) fs) (is_named tag k f) refl refl h
    (replaced_last tag k v fs)
  where
    by_tests : (a b : Bool) → list_any (is_named tag k) fs ≡ a → is_named tag k f ≡ b
        → (b || a) ≡ true
        → (list_any (is_named tag k) fs ≡ true
        → (g : Field) × (is_named tag k g ≡ true)
        × (last_passing (is_named tag k) (replaced tag k v fs) ≡ Some (with_value v g)))
        → (g : Field) × (is_named tag k g ≡ true)
        × (last_passing (is_named tag k)
        (if a then f ∷ replaced tag k v fs else ((if b then with_value v f else f) ∷ fs))
        ≡ Some (with_value v g))
    by_tests true b e g h r0 =
        let r = r0 e in
        let a : list_any (is_named tag k) (replaced tag k v fs) ≡ true =
        any_replaced tag k v fs ∙ e in
        (r.0, r.1, rw a r.2)
    by_tests false true e g h r0 = (f, g, rw (e, g) refl)
    by_tests false false e g h r0 = absurd (false≢true h)

named_same : (tag : Tag) (k : In) (v : Value) (f : Field) → is_named tag k f ≡ true
    → ◌≡◌ {A = Field} (with_value v f) (record { tag = tag; ifd_num = k; value = v })
named_same tag k v f h =
    let p = and_parts (tag_eq f.tag tag) (f.ifd_num.0 == k.0) h in
    same f.tag f.ifd_num ((tag_Decides f.tag tag).0 p.0) ((ifd_Decides f.ifd_num k).0 p.1)
  where
    same : (t : Tag) (i : In) → t ≡ tag → i ≡ k
        → ◌≡◌ {A = Field} (record { tag = t; ifd_num = i; value = v })
        (record { tag = tag; ifd_num = k; value = v })
    same t i e g = rw (e, g) refl

replaced_found : (tag : Tag) (k : In) (v : Value) (fs : List Field)
    → list_any (is_named tag k) fs ≡ true
    → last_named (replaced tag k v fs) tag k ≡ Some (record { tag = tag; ifd_num = k; value = v })
replaced_found tag k v fs h =
    let r = replaced_last tag k v fs h in
    from_behind (is_named tag k) (replaced tag k v fs)
    ∙ (r.2 ∙ ap (λ (f : Field). Some f) (named_same tag k v r.0 r.1))

-- ---- with what was located

located_any : (tag : Tag) (k : In) (ls : List Located) (at : Located)
    → last_located tag k ls ≡ Some at → list_any (is_named tag k) (map field_of ls) ≡ true
located_any tag k [] at e = absurd (none_some e)
  where
    none_some : ◌≡◌ {A = Option Located} None (Some at) → ⊥
    none_some e = cc
located_any tag k (l ∷ ls) at e =
    by_tests (is_named tag k l.field) (list_any (λ (m : Located). is_named tag k m.field) ls) refl
    refl e
  where
    by_tests : (a b : Bool) → is_named tag k l.field ≡ a
        → list_any (λ (m : Located). is_named tag k m.field) ls ≡ b
        → (if b then last_located tag k ls else (if a then Some l else None)) ≡ Some at
        → (is_named tag k l.field || list_any (is_named tag k) (map field_of ls)) ≡ true
    by_tests true b g h e = rw g refl
    by_tests false true g h e = let x : list_any (is_named tag k) (map field_of ls) ≡ true =
        sym (any_map tag k ls) ∙ h in rw (g, x) refl
    by_tests false false g h e = absurd (none_some e)
      where
        none_some : ◌≡◌ {A = Option Located} None (Some at) → ⊥
        none_some e = cc

-- fields that are shown are those of the content
pub shown_fields : (lenient : Bool) (fs gs : List Field) (xs ys : List Fault)
    → answer_of lenient (record { fields = fs; faults = xs }) ≡ shown gs ys → fs ≡ gs
shown_fields true fs gs xs ys e =
    ap (λ (p : List Field × List Fault). p.0)
    (sym (unshown_shown fs xs) ∙ (ap unshown e ∙ unshown_shown gs ys))
shown_fields false fs gs [] ys e =
    ap (λ (p : List Field × List Fault). p.0) (ap unshown e ∙ unshown_shown gs ys)
shown_fields false fs gs (x ∷ xs) ys e =
    absurd (false≢true (sym (not_refused gs ys) ∙ sym (ap is_refused e)))

-- where the last field of a name is read with a value, a look-up of the name finds it
pub replaced_read : (old new : List ℕ) (tag : Tag) (k : In) (value : Value) (offset : ℕ) (at : Located)
    → last_located tag k (located old) ≡ Some at
    → ReadAs new (replaced tag k (moved_to offset value) (fields_of (trace old)))
    (faults_of (trace old))
    → FindsValue tag k value new
replaced_read old new tag k value offset at found reads lenient fields faults e =
    let fs = fields_of (trace old) in
    let any : list_any (is_named tag k) fs ≡ true =
    subst (λ xs. list_any (is_named tag k) xs ≡ true) (located_fields old)
    (located_any tag k (located old) at found) in
    let same = shown_fields lenient (replaced tag k (moved_to offset value) fs) fields
    (faults_of (trace old)) faults (sym (reads lenient) ∙ e) in (
      offset,
      ap (λ xs. last_named xs tag k) (sym same)
          ∙ replaced_found tag k (moved_to offset value) fs any,
    )

-- once a value was set, a look-up of its name finds it
pub set_found : (old new : List ℕ) (tag : Tag) (k : In) (value : Value) → IsSet old tag k value new
    → FindsValue tag k value new
set_found old new tag k value s = replaced_read old new tag k value s.offset s.at s.found s.reads

-- ---- none of a name is left

none_left : (tag : Tag) (k : In) (fs : List Field)
    → list_any (is_named tag k) (without_named tag k fs) ≡ false
none_left tag k [] = refl
none_left tag k (f ∷ fs) = by_test (is_named tag k f) refl (none_left tag k fs)
  where
    by_test : (b : Bool) → is_named tag k f ≡ b
        → list_any (is_named tag k) (without_named tag k fs) ≡ false
        → list_any (is_named tag k)
        (if not b then f ∷ without_named tag k fs else without_named tag k fs) ≡ false
    by_test true e h = h
    by_test false e h = rw e h

told_none : (tag : Tag) (k : In) (ls : List Located) (gs : List Field)
    → list_any (is_named tag k) gs ≡ false → list_any (is_named tag k) (told_by ls gs) ≡ false
told_none tag k [] gs h = refl
told_none tag k (l ∷ ls) [] h = refl
told_none tag k (l ∷ ls) (g ∷ gs) h =
    let p = or_parts (is_named tag k g) (list_any (is_named tag k) gs) h in
    let t : is_named tag k (field_at_entry l.entry g) ≡ false = p.0 in
    rw t (told_none tag k ls gs p.1)

-- once the fields of a name were erased, a look-up of the name finds nothing
pub none_found : (old new : List ℕ) (tag : Tag) (k : In) → IsFieldErased old tag k new
    → FindsNone tag k new
none_found old new tag k s lenient fields faults e =
    let gs = told_by (located new) (without_named tag k (fields_of (trace old))) in
    let same = shown_fields lenient gs fields s.faults faults (sym (s.reads lenient) ∙ e) in
    let any = told_none tag k (located new) (without_named tag k (fields_of (trace old)))
    (none_left tag k (fields_of (trace old))) in
    ap (λ xs. last_named xs tag k) (sym same)
    ∙ (from_behind (is_named tag k) gs ∙ passing_none (is_named tag k) gs any)
