-- The fields that assignments make: each name once.
use Rattle.std.proofs.Common.{◌≡◌, ◌∙◌, ◌<◌, ◌≤◌, ◌^◌, ℕ, Bool, true, false, List, [], ◌∷◌, ◌++◌, All, length, Option, Some, None, Result, Ok, Err, if◌then◌else◌, refl, sym, ap, subst, arith, append_assoc}
use Rattle.std.specs.Prelude.{◌==◌, nat_lt}
use Rattle.std.proofs.lemmas.Bool.{and_parts, false≢true}
use Rattle.std.proofs.lemmas.Bool.Decides.{nat_tests}
use Rattle.std.proofs.lemmas.List.Elements.{All-nil, All-cons, All-head, All-tail}
use Rattle.exif_base.specs.Orders.{number_of}
use Rattle.exif_base.specs.declared.endian.Order.{Order}
use Rattle.exif_text.specs.declared.field_type.FieldType.{FieldType}
use Rattle.exif_types.specs.FieldEq.{tag_Decides}
use Rattle.exif_types.specs.Lookup.{tag_eq}
use Rattle.exif_types.specs.Refusals as types
use Rattle.exif_types.specs.Refusals.{Refusal}
use Rattle.exif_types.specs.declared.field.Field.{Field}
use Rattle.exif_types.specs.declared.tag.Tag.{Tag}
use Rattle.exif_types.specs.declared.value.Value.{Value}
use Rattle.exif_tiff.specs.Answers.{Answer, Refused, answer_of, raw_answer}
use Rattle.exif_tiff.specs.Faults.{refusal}
use Rattle.exif_tiff.specs.Limits.{AnswersWithin}
use Rattle.exif_tiff.specs.Trace.{content_of, faults_of, fields_of, header, limited, ordered_trace, trace, visits_of}
use Rattle.exif_tiff.specs.declared.fault.Fault.{Fault}
use Rattle.exif_tiff.proofs.TiffAnswers.{trace_right}
use Rattle.exif_segments.specs.declared.remove.Remove.{Remove}
use Rattle.exif_containers.specs.Container.{container_answer, format_in}
use Rattle.exif_containers.specs.declared.container.Format.{Format}
use Rattle.exif_containers.specs.declared.container.Format.TheVariants.{Tiff, Jpeg, Heif, WebP}
use Rattle.exif_rewrite.specs.FileLaws.{IsFound}
use Rattle.exif_grow.specs.FieldPromises.{is_set, same_name}
use Rattle.exif_assign.specs.Assigning.{parts_of}
use Rattle.exif_assign.specs.Values.{value_in}
use Rattle.exif_assign.specs.declared.assignment.Assignment.{Assignment}
use Rattle.exif_assign.specs.declared.spelled.ValueError.{ValueError}
use Rattle.exif_assign.specs.declared.spelled.ValueError.TheVariants as value_error
use Rattle.exif_change.specs.Changed.{Change, whole}
use Rattle.exif_setting.specs.InPlace.{fitting_set}
use Rattle.exif_change.specs.Reading.{Contents, data_contents, entry_limit, fields_in, file_contents, without_fault, primary}
use Rattle.exif_change.specs.Refusals.{Reason, as_edited, no_field, not_of_its_type, out_of_range, unknown_format, ◌>>=◌}
use Rattle.exif_setting.specs.Setting.{assigned_behind, assigned_fields, field_for, field_or, field_typed, fields_or_none, is_assigned, occurs_again, set_as, set_file, set_rest, type_for, with_assigned, with_field}
use Rattle.exif_setting.proofs.SetKept.{IsKnown, bound, edited_ok}
use Rattle.exif_change_laws.specs.Assigned.{GivesAssigned}
use Rattle.exif_change_laws.proofs.ScrubbedFiles.{jpeg_front, webp_front}
use Rattle.exif_change_laws.proofs.SetNames.{AreDistinct, IsOnce, name_apart, or_both, or_left, or_right}
use Rattle.exif_change_laws.proofs.SetTogether.{assigned_in}
use Rattle.exif_change_laws.proofs.ShiftedFiles.{contents_are, fields_same, shown_in}

err_ok : {X : Type 0} (why : Reason) (x : X) → ◌≡◌ {A = Result X Reason} (Err why) (Ok x) → ⊥
err_ok why x e = cc

-- ---- one field more

set_apart : (xs ys : List Field) (f : Field) → is_set xs f ≡ false → is_set ys f ≡ false
    → is_set (xs ++ ys) f ≡ false
set_apart [] ys f a b = b
set_apart (x ∷ xs) ys f a b =
    or_both (same_name x f) (is_set (xs ++ ys) f) (or_left (same_name x f) (is_set xs f) a)
    (set_apart xs ys f (or_right (same_name x f) (is_set xs f) a) b)

set_front : (xs ys : List Field) (f : Field) → is_set (xs ++ ys) f ≡ false → is_set xs f ≡ false
set_front [] ys f e = refl
set_front (x ∷ xs) ys f e =
    or_both (same_name x f) (is_set xs f) (or_left (same_name x f) (is_set (xs ++ ys) f) e)
    (set_front xs ys f (or_right (same_name x f) (is_set (xs ++ ys) f) e))

set_rest_of : (xs ys : List Field) (f : Field) → is_set (xs ++ ys) f ≡ false → is_set ys f ≡ false
set_rest_of [] ys f e = e
set_rest_of (x ∷ xs) ys f e = set_rest_of xs ys f (or_right (same_name x f) (is_set (xs ++ ys) f) e)

-- a field of another name in the middle
distinct_middle : (xs ys : List Field) (f : Field) → is_set xs f ≡ false → is_set ys f ≡ false
    → AreDistinct (xs ++ ys) → AreDistinct (xs ++ f ∷ ys)
distinct_middle [] ys f a b d = (b, d)
distinct_middle (x ∷ xs) ys f a b d = (
  set_apart xs (f ∷ ys) x (set_front xs ys x d.0)
      (or_both (same_name f x) (is_set ys x) (name_apart x f (or_left (same_name x f) (is_set xs f) a))
      (set_rest_of xs ys x d.0)),
  distinct_middle xs ys f (or_right (same_name x f) (is_set xs f) a) b d.1,
)

all_more : (P : Field → Type 0) (xs : List Field) (f : Field) → All P xs → P f
    → All P (xs ++ f ∷ [])
all_more P [] f h p = All-cons P f [] p h
all_more P (x ∷ xs) f h p =
    All-cons P x (xs ++ f ∷ []) (All-head P x xs h) (all_more P xs f (All-tail P x xs h) p)

-- ---- the fields of assignments

-- fields of different names, which the assignments that follow do not set
record AreGood (fields : List Field) (later : List Assignment) (sets : List Field × List Field) : Type 0 where
  distinct : AreDistinct (sets.0 ++ sets.1)
  first : All (λ g. is_assigned later g.tag ≡ false) sets.0
  second : All (λ g. is_assigned later g.tag ≡ false) sets.1
  once : All (IsOnce fields) sets.0

free_later : (a : Assignment) (later : List Assignment) (gs : List Field)
    → All (λ g. is_assigned (a ∷ later) g.tag ≡ false) gs
    → All (λ g. is_assigned later g.tag ≡ false) gs
free_later a later [] h = All-nil (λ g. is_assigned later g.tag ≡ false)
free_later a later (g ∷ gs) h =
    All-cons (λ g. is_assigned later g.tag ≡ false) g gs
    (or_right (tag_eq g.tag a.tag) (is_assigned later g.tag)
    (All-head (λ g. is_assigned (a ∷ later) g.tag ≡ false) g gs h))
    (free_later a later gs (All-tail (λ g. is_assigned (a ∷ later) g.tag ≡ false) g gs h))

-- a field of the tag is none of these
free_unset : (a : Assignment) (later : List Assignment) (gs : List Field) (f : Field)
    → f.tag ≡ a.tag → All (λ g. is_assigned (a ∷ later) g.tag ≡ false) gs → is_set gs f ≡ false
free_unset a later [] f t h = refl
free_unset a later (g ∷ gs) f t h =
    or_both (same_name g f) (is_set gs f)
    (by_test (same_name g f) refl (or_left (tag_eq g.tag a.tag) (is_assigned later g.tag)
    (All-head (λ g. is_assigned (a ∷ later) g.tag ≡ false) g gs h)))
    (free_unset a later gs f t (All-tail (λ g. is_assigned (a ∷ later) g.tag ≡ false) g gs h))
  where
    by_test : (b : Bool) → same_name g f ≡ b → tag_eq g.tag a.tag ≡ false → same_name g f ≡ false
    by_test false n e = n
    by_test true n e =
        let same : f.tag ≡ g.tag =
        (tag_Decides f.tag g.tag).0 (and_parts (tag_eq f.tag g.tag) (f.ifd_num.0 == g.ifd_num.0) n).0 in
        absurd (false≢true (sym e ∙ (tag_Decides g.tag a.tag).1 (sym same ∙ t)))

-- the field of an assignment has its tag, and is one of the primary image
pub record IsFor (tag : Tag) (f : Field) : Type 0 where
  pub tag_is : f.tag ≡ tag
  pub image : f.ifd_num ≡ primary

or_is_for : (tag : Tag) (x : Result Value ValueError) (f : Field) → field_or tag x ≡ Ok f
    → IsFor tag f
or_is_for tag (Ok value) f e =
    subst (IsFor tag) (same (record { tag = tag; ifd_num = primary; value = value }) e)
    (record { tag_is = refl; image = refl })
  where
    same : (g : Field) → ◌≡◌ {A = Result Field Reason} (Ok g) (Ok f) → g ≡ f
    same g e = cc
or_is_for tag (Err value_error.NotOfItsType) f e = absurd (err_ok (not_of_its_type tag) f e)
or_is_for tag (Err value_error.OutOfRange) f e = absurd (err_ok (out_of_range tag) f e)
or_is_for tag (Err value_error.OutOfMemory) f e = absurd (err_ok (not_of_its_type tag) f e)

pub is_for : (tag : Tag) (text : List ℕ) (o : Option FieldType) (f : Field)
    → field_typed (tag, text) o ≡ Ok f → IsFor tag f
is_for tag text None f e = absurd (err_ok no_field f e)
is_for tag text (Some type) f e = or_is_for tag (value_in tag type text) f e

good_more : (fields : List Field) (a : Assignment) (later : List Assignment)
    (sets : List Field × List Field) (f : Field) → AreGood fields (a ∷ later) sets → IsFor a.tag f
    → is_assigned later a.tag ≡ false → AreGood fields later (with_field fields f sets)
good_more fields a later (single, repeated) f g i n = by_test (occurs_again f.tag false fields) refl
  where
    free : is_assigned later f.tag ≡ false
    free = ap (is_assigned later) i.tag_is ∙ n

    x : is_set single f ≡ false
    x = free_unset a later single f i.tag_is g.first

    y : is_set repeated f ≡ false
    y = free_unset a later repeated f i.tag_is g.second

    by_test : (b : Bool) → occurs_again f.tag false fields ≡ b
        → AreGood fields later (if b then (single, repeated ++ f ∷ []) else (single ++ f ∷ [], repeated))
    by_test true o = record {
      distinct = at_end;
      first = free_later a later single g.first;
      second = all_more (λ g. is_assigned later g.tag ≡ false) repeated f
          (free_later a later repeated g.second) free;
      once = g.once;
    }
      where
        none : (xs : List Field) → xs ++ [] ≡ xs
        none [] = refl
        none (z ∷ zs) = ap (λ ys. z ∷ ys) (none zs)

        at_end : AreDistinct (single ++ (repeated ++ f ∷ []))
        at_end =
            subst AreDistinct (append_assoc single repeated (f ∷ []))
            (distinct_middle (single ++ repeated) [] f (set_apart single repeated f x y) refl
            (subst AreDistinct (sym (none (single ++ repeated))) g.distinct))
    by_test false o = record {
      distinct = subst AreDistinct (sym (append_assoc single (f ∷ []) repeated))
          (distinct_middle single repeated f x y g.distinct);
      first = all_more (λ g. is_assigned later g.tag ≡ false) single f
          (free_later a later single g.first) free;
      second = free_later a later repeated g.second;
      once = all_more (IsOnce fields) single f g.once (record { image = i.image; once = o });
    }

good_set : (fields : List Field) (assignments : List Assignment) (sets made : List Field × List Field)
    → AreGood fields assignments sets → assigned_behind fields assignments sets ≡ Ok made
    → AreGood fields [] made
good_set fields [] sets made g e = subst (AreGood fields []) (same e) g
  where
    same : ◌≡◌ {A = Result (List Field × List Field) Reason} (Ok sets) (Ok made) → sets ≡ made
    same e = cc
good_set fields (a ∷ later) sets made g e =
    let b = bound (with_assigned fields a later sets) (assigned_behind fields later) made e in
    good_set fields later b.0 made (by_later (is_assigned later a.tag) refl b.0 b.1) b.2
  where
    same : (x y : List Field × List Field) → ◌≡◌ {A = Result (List Field × List Field) Reason} (Ok x) (Ok y) → x ≡ y
    same x y e = cc

    by_later : (t : Bool) → is_assigned later a.tag ≡ t → (next : List Field × List Field)
        → (if t then Ok sets else field_for fields (parts_of a) >>= (λ field. Ok (with_field fields field sets))) ≡ Ok next
        → AreGood fields later next
    by_later true n next e =
        subst (AreGood fields later) (same sets next e)
        (record {
          distinct = g.distinct;
          first = free_later a later sets.0 g.first;
          second = free_later a later sets.1 g.second;
          once = g.once;
        })
    by_later false n next e =
        let b = bound (field_for fields (parts_of a)) (λ field. Ok (with_field fields field sets)) next e in
        subst (AreGood fields later) (same (with_field fields b.0 sets) next b.2)
        (good_more fields a later sets b.0 g (is_for a.tag (parts_of a).1 (type_for fields a.tag) b.0 b.1) n)

-- the fields of assignments have different names
pub distinct_fields : (fields : List Field) (assignments : List Assignment)
    (made : List Field × List Field) → assigned_behind fields assignments ([], []) ≡ Ok made
    → AreDistinct (made.0 ++ made.1)
distinct_fields fields assignments made e =
    (good_set fields assignments ([], []) made
    (record {
      distinct = tt;
      first = All-nil (λ g. is_assigned assignments g.tag ≡ false);
      second = All-nil (λ g. is_assigned assignments g.tag ≡ false);
      once = All-nil (IsOnce fields);
    }) e).distinct

-- ---- the fields that were read

-- the fields that are read of data, where there is no limit, are those of the trace
pub traced_fields : (bytes : List ℕ) (fs : List Field) → fields_in (raw_answer true None bytes) ≡ Ok fs
    → fields_of (trace bytes) ≡ fs
unfolding raw_answer
traced_fields bytes fs e = by_header (header bytes) refl e
  where
    refused : (r : Refusal) → ◌≡◌ {A = Result (List Field) Refusal} (Err r) (Ok fs) → ⊥
    refused r e = cc

    by_header : (x : Result Order Fault) → header bytes ≡ x
        → fields_in (elim x as (λ y. Answer) [
          | Err fault ↦ Refused fault
          | Ok order ↦ answer_of true (content_of (limited None (ordered_trace (number_of order) bytes)))
        ]) ≡ Ok fs → fields_of (trace bytes) ≡ fs
    by_header (Err fault) h e = absurd (refused (refusal fault) e)
    by_header (Ok order) h e =
        let nodes = ordered_trace (number_of order) bytes in
        ap fields_of (trace_right bytes order h)
        ∙ fields_same (fields_of nodes) fs (sym (shown_in (fields_of nodes) (faults_of nodes)) ∙ e)

-- the data of a file whose fields were read
pub record WasRead (file : List ℕ) (old : Contents) : Type 0 where
  pub held : container_answer file ≡ Ok old.bytes
  pub reads : data_contents old.bytes ≡ Ok old

pub was_read : (file : List ℕ) (old : Contents) → file_contents file ≡ Ok old → WasRead file old
unfolding data_contents
was_read file old e = by_container (container_answer file) refl e
  where
    refused : (r : Refusal) → ◌≡◌ {A = Result Contents Refusal} (Err r) (Ok old) → ⊥
    refused r e = cc

    bytes_are : (bytes : List ℕ) → data_contents bytes ≡ Ok old → bytes ≡ old.bytes
    bytes_are bytes e = by_fields (fields_in (raw_answer true entry_limit bytes)) e
      where
        by_fields : (x : Result (List Field) Refusal)
            → types.◌>>=◌ x (λ fs. types.◌>>=◌ (without_fault (header bytes)) (λ order. Ok (record { bytes = bytes; order = order; fields = fs }))) ≡ Ok old
            → bytes ≡ old.bytes
        by_fields (Err r) e = absurd (refused r e)
        by_fields (Ok fs) e = by_order (without_fault (header bytes)) e
          where
            by_order : (y : Result Order Refusal)
                → types.◌>>=◌ y (λ order. Ok (record { bytes = bytes; order = order; fields = fs })) ≡ Ok old
                → bytes ≡ old.bytes
            by_order (Err r) e = absurd (refused r e)
            by_order (Ok order) e =
                let of : Result Contents Refusal → List ℕ = λ r. elim r [ Ok c ↦ c.bytes | Err why ↦ old.bytes ] in
                ap of e

    by_container : (r : Result (List ℕ) Refusal) → container_answer file ≡ r
        → types.◌>>=◌ r data_contents ≡ Ok old → WasRead file old
    by_container (Err r) h e = absurd (refused r e)
    by_container (Ok bytes) h e =
        let same = bytes_are bytes e in
        record {
          held = h ∙ ap (λ (xs : List ℕ). let r : Result (List ℕ) Refusal = Ok xs in r) same;
          reads = ap data_contents (sym same) ∙ e;
        }

-- ---- the whole

pub assigned_all : (assignments : List Assignment) (sets : List Field × List Field) (file new : List ℕ)
    (old : Contents) → ((remove : Remove) (put : Option (List ℕ)) (bytes : List ℕ) → IsFound remove put bytes)
    → ((n : ℕ) (bytes : List ℕ) → AnswersWithin n bytes)
    → length file < 2 ^ 64 → length new < 2 ^ 64 → file_contents file ≡ Ok old
    → assigned_fields file assignments ≡ Ok sets → set_file assignments file ≡ Ok (whole new)
    → GivesAssigned (sets.0 ++ sets.1) old.bytes (container_answer new)
assigned_all assignments sets file new old law within short small read are e =
    by_format (format_in file) refl e
  where
    w : WasRead file old
    w = was_read file old read

    good : AreGood old.fields [] sets
    good =
        good_set old.fields assignments ([], []) sets
        (record {
          distinct = tt;
          first = All-nil (λ g. is_assigned assignments g.tag ≡ false);
          second = All-nil (λ g. is_assigned assignments g.tag ≡ false);
          once = All-nil (IsOnce old.fields);
        })
        (sym (ap (λ r. fields_or_none r >>= (λ fields. assigned_behind fields assignments ([], []))) read) ∙ are)

    once : nat_lt 1000000 (visits_of (trace old.bytes)) ≡ false
        → All (IsOnce (fields_of (trace old.bytes))) sets.0
    once n =
        let few : visits_of (trace old.bytes) ≤ 1000000 = grind (arith, nat_tests, n) in
        let same : fields_of (trace old.bytes) ≡ old.fields =
        traced_fields old.bytes old.fields
        (ap fields_in (sym (within 1000000 old.bytes true few)) ∙ contents_are old.bytes old w.reads) in
        subst (λ fs. All (IsOnce fs) sets.0) (sym same) good.once

    none_some : (o : Reason) → ◌≡◌ {A = Result Change Reason} (Err o) (Ok (whole new)) → ⊥
    none_some o e = cc

    known : (f : Format) → format_in file ≡ Some f → IsKnown f file
    known Tiff is = tt
    known Heif is = tt
    known Jpeg is = jpeg_front file is
    known WebP is = webp_front file is

    by_format : (o : Option Format) → format_in file ≡ o
        → ◌≡◌ {A = Result Change Reason} (elim o [ Some format ↦ set_as format assignments file | None ↦ Err unknown_format ]) (Ok (whole new))
        → GivesAssigned (sets.0 ++ sets.1) old.bytes (container_answer new)
    by_format None is e = absurd (none_some unknown_format e)
    by_format (Some format) is e =
        let made = sym (ap (λ r. r >>= (λ sets. as_edited (fitting_set sets.0 (file, sets.1)) >>= set_rest format)) are) ∙ e in
        let b = bound (as_edited (fitting_set sets.0 (file, sets.1))) (set_rest format) (whole new) made in
        assigned_in format sets.0 sets.1 b.0.1 file old.bytes b.0.0 new law short small w.held
        (known format is) (edited_ok (fitting_set sets.0 (file, sets.1)) b.0 b.1) b.2 good.distinct once
