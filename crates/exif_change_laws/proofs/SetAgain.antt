-- Values that are assigned again to a file that has them.
use Rattle.std.proofs.Common.{◌≡◌, ◌∙◌, ◌<◌, ◌≤◌, ◌^◌, ℕ, Bool, true, false, List, [], ◌∷◌, ◌++◌, All, length, Option, Some, None, Result, Ok, Err, if◌then◌else◌, refl, sym, ap, subst}
use Rattle.std.specs.Prelude.{◌&&◌, ◌||◌, ◌==◌}
use Rattle.std.specs.List.{list_any}
use Rattle.std.specs.Option.{option_and_then}
use Rattle.std.proofs.lemmas.Bool.{and_parts, false≢true}
use Rattle.std.proofs.lemmas.List.Elements.{All-nil, All-cons, All-head, All-tail}
use Rattle.exif_text.specs.declared.field_type.FieldType.{FieldType}
use Rattle.exif_text.specs.declared.ifd.In.{In}
use Rattle.exif_types.specs.FieldEq.{ifd_Decides, tag_Decides}
use Rattle.exif_types.specs.Lookup.{last_named, tag_eq}
use Rattle.exif_types.specs.Refusals.{Refusal}
use Rattle.exif_types.specs.ValueTypes.{field_type_of}
use Rattle.exif_types.specs.declared.field.Field.{Field}
use Rattle.exif_types.specs.declared.tag.Tag.{Tag}
use Rattle.exif_types.specs.declared.value.Value.{Value}
use Rattle.exif_types.specs.declared.value.Value.TheVariants.{Byte, Ascii, Short, Long, Rational, SByte, Undefined, SShort, SLong, SRational, Float, Double, Unknown}
use Rattle.exif_tiff.specs.Limits.{AnswersWithin}
use Rattle.exif_tiff.specs.Trace.{fields_of, trace, visits_of}
use Rattle.exif_segments.specs.declared.remove.Remove.{Remove}
use Rattle.exif_containers.specs.Container.{container_answer, format_in}
use Rattle.exif_containers.specs.declared.container.Format.{Format}
use Rattle.exif_edit.proofs.SetFound.{from_behind, last_passing}
use Rattle.exif_edit_base.specs.Rereading.{without_entry_offsets}
use Rattle.exif_rewrite.specs.FileLaws.{IsFound}
use Rattle.exif_grow.specs.FieldPromises.{bare, is_set, same_name}
use Rattle.exif_grow.proofs.SetLists.{failing, without_failing}
use Rattle.exif_assign.specs.Assigning.{or_else}
use Rattle.exif_assign.specs.Rules.{type_of_new}
use Rattle.exif_assign.specs.Values.{value_in}
use Rattle.exif_assign.specs.declared.assignment.Assignment.{Assignment}
use Rattle.exif_assign.specs.declared.spelled.ValueError.{ValueError}
use Rattle.exif_assign.specs.declared.spelled.ValueError.TheVariants as value_error
use Rattle.exif_change.specs.Changed.{Change, whole}
use Rattle.exif_change.specs.Reading.{Contents, file_contents, fields_in, primary}
use Rattle.exif_change.specs.Refusals.{Reason, no_field, not_of_its_type, out_of_range, unknown_format, ◌>>=◌}
use Rattle.exif_setting.specs.SetLaws.{KeepsOthers}
use Rattle.exif_setting.specs.Setting.{assigned_behind, assigned_fields, field_for, field_or, field_typed, fields_or_none, known_type, set_as, set_file, type_for}
use Rattle.exif_setting.proofs.SetInPlace.{wider}
use Rattle.exif_setting.proofs.SetKept.{bound}
use Rattle.exif_change_laws.specs.Assigned.{AreAssigned, GivesAssigned, GivesAssignedAgain, HasValueOf, IsReadAs}
use Rattle.exif_change_laws.proofs.SetAssigned.{WasRead, assigned_all, traced_fields, was_read}
use Rattle.exif_change_laws.proofs.ShiftedFiles.{contents_are}
use Rattle.exif_change_laws.proofs.SetMade.{IsMade, all_both, all_made, last_text, names_are}

no_ok : {X : Type 0} (why : Reason) (x : X) → ◌≡◌ {A = Result X Reason} (Err why) (Ok x) → ⊥
no_ok why x e = cc

-- ---- types

some_same : {X : Type 0} (a b : X) → ◌≡◌ {A = Option X} (Some a) (Some b) → a ≡ b
some_same a b e = cc

-- what made a field
record WasSpelled (fields : List Field) (tag : Tag) (text : List ℕ) (g : Field) : Type 0 where
  type : FieldType
  known : type_for fields tag ≡ Some type
  value : value_in tag type text ≡ Ok g.value

was_spelled : (fields : List Field) (tag : Tag) (text : List ℕ) (g : Field)
    → field_for fields (tag, text) ≡ Ok g → WasSpelled fields tag text g
was_spelled fields tag text g e = by_type (type_for fields tag) refl e
  where
    by_value : (type : FieldType) (x : Result Value ValueError) → type_for fields tag ≡ Some type
        → value_in tag type text ≡ x → field_or tag x ≡ Ok g → WasSpelled fields tag text g
    by_value type (Ok v) t s e =
        let same : v ≡ g.value = ap (λ (r : Result Field Reason). elim r as (λ _. Value) [ Ok f ↦ f.value | Err why ↦ v ]) e in
        record { type = type; known = t; value = s ∙ ap (λ w. Ok w) same }
    by_value type (Err value_error.NotOfItsType) t s e = absurd (no_ok (not_of_its_type tag) g e)
    by_value type (Err value_error.OutOfRange) t s e = absurd (no_ok (out_of_range tag) g e)
    by_value type (Err value_error.OutOfMemory) t s e = absurd (no_ok (not_of_its_type tag) g e)

    by_type : (o : Option FieldType) → type_for fields tag ≡ o → field_typed (tag, text) o ≡ Ok g
        → WasSpelled fields tag text g
    by_type None t e = absurd (no_ok no_field g e)
    by_type (Some type) t e = by_value type (value_in tag type text) t refl e

-- ---- the field of a name that is there

-- what a look-up finds among fields
record IsPassing (P : Field → Type 0) (p : Field → Bool) (xs : List Field) : Type 0 where
  field : Field
  is : last_passing p xs ≡ Some field
  holds : P field
  named : p field ≡ true

last_there : (P : Field → Type 0) (p : Field → Bool) (xs : List Field) → All P xs
    → list_any p xs ≡ true → IsPassing P p xs
unfolding last_passing
last_there P p [] h e = absurd (false≢true e)
last_there P p (x ∷ xs) h e =
    by_tests (p x) (list_any p xs) refl refl e (last_there P p xs (All-tail P x xs h))
  where
    by_tests : (a b : Bool) → p x ≡ a → list_any p xs ≡ b → (a || b) ≡ true
        → (list_any p xs ≡ true → IsPassing P p xs) → IsPassing P p (x ∷ xs)
    by_tests a true m n k later =
        let r = later n in
        record {
          field = r.field;
          is = ap (λ t. if t then last_passing p xs else (if p x then Some x else None)) n ∙ r.is;
          holds = r.holds;
          named = r.named;
        }
    by_tests true false m n k later =
        record {
          field = x;
          is = ap (λ t. if t then last_passing p xs else (if p x then Some x else None)) n
              ∙ ap (λ t. if t then Some x else None) m;
          holds = All-head P x xs h;
          named = m;
        }
    by_tests false false m n k later = absurd (false≢true k)

-- the type of the values of a name
type_there : (fields : List Field) (g : Field) → g.ifd_num ≡ primary → IsReadAs fields g
    → known_type fields g.tag ≡ field_type_of g.value
type_there fields g i r =
    let f = last_there (HasValueOf g) (same_name g) fields r.values r.there in
    let is : last_named fields g.tag primary ≡ Some f.field =
    subst (λ (k : In). last_named fields g.tag k ≡ Some f.field) i
    (from_behind (same_name g) fields ∙ f.is) in
    ap (option_and_then (λ (x : Field). field_type_of x.value)) is
    ∙ bare_type f.field.value g.value (f.holds f.named)
  where
    type_of_bare : (v : Value) → field_type_of (bare v) ≡ field_type_of v
    type_of_bare (Undefined xs old) = refl
    type_of_bare (Unknown type count old) = refl
    type_of_bare (Byte xs) = refl
    type_of_bare (Ascii xs) = refl
    type_of_bare (Short xs) = refl
    type_of_bare (Long xs) = refl
    type_of_bare (Rational xs) = refl
    type_of_bare (SByte xs) = refl
    type_of_bare (SShort xs) = refl
    type_of_bare (SLong xs) = refl
    type_of_bare (SRational xs) = refl
    type_of_bare (Float xs) = refl
    type_of_bare (Double xs) = refl

    bare_type : (v w : Value) → bare v ≡ bare w → field_type_of v ≡ field_type_of w
    bare_type v w e = sym (type_of_bare v) ∙ (ap field_type_of e ∙ type_of_bare w)

-- ---- one field, set again

-- of the fields of these names, the one that has a name
record IsAmong (P : Field → Type 0) (f : Field) : Type 0 where
  field : Field
  named : same_name field f ≡ true
  holds : P field

among : (P : Field → Type 0) (f : Field) (gs : List Field) → All P gs → is_set gs f ≡ true
    → IsAmong P f
among P f [] h e = absurd (false≢true e)
among P f (g ∷ gs) h e = by_test (same_name g f) refl e (among P f gs (All-tail P g gs h))
  where
    by_test : (b : Bool) → same_name g f ≡ b → (b || is_set gs f) ≡ true
        → (is_set gs f ≡ true → IsAmong P f) → IsAmong P f
    by_test true n e later = record { field = g; named = n; holds = All-head P g gs h }
    by_test false n e later = later e

field_same : (a b : Field) → a.tag ≡ b.tag → a.ifd_num ≡ b.ifd_num → a.value ≡ b.value → a ≡ b
field_same a b t k v =
    ap (λ (x : Tag). record a { tag = x }) t
    ∙ (ap (λ (x : In). record a { tag = b.tag; ifd_num = x }) k
    ∙ ap (λ (x : Value). record a { tag = b.tag; ifd_num = b.ifd_num; value = x }) v)

-- values that texts spell are of the type for which they are spelled
abbrev AreOfTheirTypes : Type 0
AreOfTheirTypes = (tag : Tag) (type : FieldType) (text : List ℕ) (v : Value)
    → value_in tag type text ≡ Ok v → field_type_of v ≡ Some type

-- the field that an assignment makes of a file in which it was set is the same
made_again : AreOfTheirTypes → (old new : List Field) (all : List Assignment) (g h : Field) → IsMade old all g
    → IsMade new all h → same_name h g ≡ true → IsReadAs new g → h ≡ g
made_again law old new all g h a b n r =
    let p = and_parts (tag_eq g.tag h.tag) (g.ifd_num.0 == h.ifd_num.0) n in
    let t : g.tag ≡ h.tag = (tag_Decides g.tag h.tag).0 p.0 in
    let text : a.text ≡ b.text =
    some_same a.text b.text (sym a.last ∙ (ap (λ x. last_text x all) t ∙ b.last)) in
    let x = was_spelled old g.tag a.text g a.made in
    let y = was_spelled new h.tag b.text h b.made in
    let typed : field_type_of g.value ≡ Some x.type = law g.tag x.type a.text g.value x.value in
    let known : known_type new g.tag ≡ Some x.type = type_there new g a.image r ∙ typed in
    let type : y.type ≡ x.type =
    some_same y.type x.type
    (sym y.known ∙ (ap (type_for new) (sym t) ∙ ap (λ o. or_else o (type_of_new g.tag)) known)) in
    let value : h.value ≡ g.value =
    ok_value h.value g.value
    (sym y.value
    ∙ (ap (λ (u : Tag). value_in u y.type b.text) (sym t)
    ∙ (ap (λ (u : FieldType). value_in g.tag u b.text) type
    ∙ (ap (value_in g.tag x.type) (sym text) ∙ x.value)))) in
    field_same h g (sym t) (b.image ∙ sym a.image) value
  where
    ok_value : (v w : Value) → ◌≡◌ {A = Result Value ValueError} (Ok v) (Ok w) → v ≡ w
    ok_value v w e = cc

-- ---- the whole

kept_named : (names sets : List Field) (old new : List ℕ)
    → ((f : Field) → is_set names f ≡ true → is_set sets f ≡ true) → KeepsOthers names old new
    → KeepsOthers sets old new
kept_named names sets old new more k =
    let p = is_set names in
    let q = is_set sets in
    let a = fields_of (trace new) in
    let b = fields_of (trace old) in
    record {
      faults = k.faults;
      others = ap without_entry_offsets (sym (wider p q more a))
          ∙ (without_failing q (λ f. refl) (failing p a)
          ∙ (ap (failing q) k.others
          ∙ (sym (without_failing q (λ f. refl) (failing p b))
          ∙ ap without_entry_offsets (wider p q more b))));
    }

-- the fields that are made of a file
behind_fields : (file : List ℕ) (old : Contents) (assignments : List Assignment)
    (sets : List Field × List Field) → file_contents file ≡ Ok old
    → assigned_fields file assignments ≡ Ok sets
    → assigned_behind old.fields assignments ([], []) ≡ Ok sets
behind_fields file old assignments sets read are =
    sym (ap (λ r. fields_or_none r >>= (λ fields. assigned_behind fields assignments ([], []))) read) ∙ are

-- where a file was set, fields were made
sets_made : (file : List ℕ) (assignments : List Assignment) (new : List ℕ)
    → set_file assignments file ≡ Ok (whole new)
    → (sets : List Field × List Field) × (assigned_fields file assignments ≡ Ok sets)
sets_made file assignments new e = by_format (format_in file) e
  where
    by_format : (o : Option Format)
        → ◌≡◌ {A = Result Change Reason} (elim o [ Some format ↦ set_as format assignments file | None ↦ Err unknown_format ]) (Ok (whole new))
        → (sets : List Field × List Field) × (assigned_fields file assignments ≡ Ok sets)
    by_format None e = absurd (no_ok unknown_format (whole new) e)
    by_format (Some format) e = let b = bound (assigned_fields file assignments) _ (whole new) e in (b.0, b.1)

pub assigned_again : (assignments : List Assignment) (sets : List Field × List Field)
    (file new again : List ℕ) (old now : Contents)
    → ((remove : Remove) (put : Option (List ℕ)) (bytes : List ℕ) → IsFound remove put bytes)
    → ((n : ℕ) (bytes : List ℕ) → AnswersWithin n bytes) → AreOfTheirTypes
    → length file < 2 ^ 64 → length new < 2 ^ 64 → length again < 2 ^ 64
    → file_contents file ≡ Ok old → file_contents new ≡ Ok now
    → visits_of (trace now.bytes) ≤ 1000000
    → assigned_fields file assignments ≡ Ok sets
    → set_file assignments file ≡ Ok (whole new) → set_file assignments new ≡ Ok (whole again)
    → GivesAssignedAgain (sets.0 ++ sets.1) now.bytes (container_answer again)
assigned_again assignments sets file new again old now law within types short small small' read read' few are e e' =
    by_answer (container_answer again)
    (assigned_all assignments second.0 new again now law within small small' read' second.1 e')
  where
    all : List Field
    all = sets.0 ++ sets.1

    second : (sets : List Field × List Field) × (assigned_fields new assignments ≡ Ok sets)
    second = sets_made new assignments again e'

    others : List Field
    others = second.0.0 ++ second.0.1

    w : WasRead new now
    w = was_read new now read'

    -- the fields of the new file, and what they have
    fields_are : fields_of (trace now.bytes) ≡ now.fields
    fields_are =
        traced_fields now.bytes now.fields
        (ap fields_in (sym (within 1000000 now.bytes true few)) ∙ contents_are now.bytes now w.reads)

    once : AreAssigned all old.bytes now.bytes
    once = subst (λ r. GivesAssigned all old.bytes r) w.held
        (assigned_all assignments sets file new old law within short small read are e)

    first_made : All (IsMade old.fields assignments) all
    first_made =
        let b = all_made old.fields assignments assignments ([], []) sets (λ t n. refl)
        (All-nil (IsMade old.fields assignments)) (All-nil (IsMade old.fields assignments))
        (behind_fields file old assignments sets read are) in
        all_both (IsMade old.fields assignments) sets.0 sets.1 b.0 b.1

    second_made : All (IsMade now.fields assignments) others
    second_made =
        let b = all_made now.fields assignments assignments ([], []) second.0 (λ t n. refl)
        (All-nil (IsMade now.fields assignments)) (All-nil (IsMade now.fields assignments))
        (behind_fields new now assignments second.0 read' second.1) in
        all_both (IsMade now.fields assignments) second.0.0 second.0.1 b.0 b.1

    -- both times the same names are set
    same_names : (f : Field) → is_set others f ≡ is_set all f
    same_names f =
        names_are now.fields assignments ([], []) second.0 f
        (behind_fields new now assignments second.0 read' second.1)
        ∙ sym (names_are old.fields assignments ([], []) sets f
        (behind_fields file old assignments sets read are))

    set_self : (gs : List Field) → ((g : Field) → is_set gs g ≡ true → is_set all g ≡ true)
        → All (IsMade old.fields assignments) gs → All (IsReadAs (fields_of (trace now.bytes))) gs
        → (later : List ℕ) → All (IsReadAs (fields_of (trace later))) others
        → All (IsReadAs (fields_of (trace later))) gs
    set_self [] s m r later h = All-nil (IsReadAs (fields_of (trace later)))
    set_self (g ∷ gs) s m r later h =
        let made = All-head (IsMade old.fields assignments) g gs m in
        let self : same_name g g ≡ true =
        both (tag_eq g.tag g.tag) (g.ifd_num.0 == g.ifd_num.0)
        ((tag_Decides g.tag g.tag).1 refl) ((ifd_Decides g.ifd_num g.ifd_num).1 refl) in
        let there : is_set others g ≡ true = same_names g ∙ s g (ap (λ b. b || is_set gs g) self) in
        let x = among (λ k. IsMade now.fields assignments k × IsReadAs (fields_of (trace later)) k) g
        others (zipped (IsMade now.fields assignments) (IsReadAs (fields_of (trace later))) others
        second_made h) there in
        let is : x.field ≡ g =
        made_again types old.fields now.fields assignments g x.field made x.holds.0 x.named
        (subst (λ fs. IsReadAs fs g) fields_are
        (All-head (IsReadAs (fields_of (trace now.bytes))) g gs r)) in
        All-cons (IsReadAs (fields_of (trace later))) g gs
        (subst (IsReadAs (fields_of (trace later))) is x.holds.1)
        (set_self gs (λ k n. s k (or_behind (same_name g k) (is_set gs k) n))
        (All-tail (IsMade old.fields assignments) g gs m)
        (All-tail (IsReadAs (fields_of (trace now.bytes))) g gs r) later h)
      where
        both : (a b : Bool) → a ≡ true → b ≡ true → (a && b) ≡ true
        both true b e f = f
        both false b e f = e

        or_behind : (x y : Bool) → y ≡ true → (x || y) ≡ true
        or_behind true y e = refl
        or_behind false y e = e

        zipped : (P Q : Field → Type 0) (xs : List Field) → All P xs → All Q xs
            → All (λ k. P k × Q k) xs
        zipped P Q [] h k = All-nil (λ k. P k × Q k)
        zipped P Q (x ∷ xs) h k =
            All-cons (λ k. P k × Q k) x xs (All-head P x xs h, All-head Q x xs k)
            (zipped P Q xs (All-tail P x xs h) (All-tail Q x xs k))

    by_answer : (r : Result (List ℕ) Refusal) → GivesAssigned others now.bytes r
        → GivesAssignedAgain all now.bytes r
    by_answer (Err refusal) h = h
    by_answer (Ok later) h = record {
      in_first = once.values;
      in_second = set_self all (λ g n. n) first_made once.values later h.values;
      kept = kept_named others all now.bytes later (λ f n. sym (same_names f) ∙ n) h.kept;
    }
