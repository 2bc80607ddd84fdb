-- JPEG and WebP files without Exif data that get new ones.
use Rattle.std.proofs.Common.{◌≡◌, ◌∙◌, ◌<◌, ◌^◌, ℕ, Bool, true, false, not, All, List, [], ◌∷◌, ◌++◌, length, append_assoc, append-nil, Option, Some, None, Result, Ok, Err, if◌then◌else◌, refl, sym, ap, subst, arith}
use Rattle.std.specs.Prelude.{nat_lt}
use Rattle.std.proofs.lemmas.Bool.{and_parts, false≢true}
use Rattle.std.proofs.lemmas.Bool.Decides.{nat_tests}
use Rattle.std.proofs.lemmas.List.Elements.{All-nil, All-push}
use Rattle.exif_base.specs.declared.endian.Order.TheVariants.{Big}
use Rattle.exif_text.specs.declared.field_type.FieldType.{FieldType}
use Rattle.exif_types.specs.Refusals as types
use Rattle.exif_types.specs.Refusals.{Refusal, not_found}
use Rattle.exif_types.specs.Sound.{HasPlainTexts}
use Rattle.exif_types.specs.ValueTypes.{field_type_of}
use Rattle.exif_types.specs.declared.field.Field.{Field}
use Rattle.exif_types.specs.declared.tag.Tag.{Tag}
use Rattle.exif_types.specs.declared.value.Value.{Value}
use Rattle.exif_segments.specs.declared.remove.Remove.{Remove}
use Rattle.exif_segments.specs.declared.remove.Remove.TheVariants.{Exif}
use Rattle.exif_containers.specs.Container.{begins_tiff, container_answer, format_in}
use Rattle.exif_containers.specs.Located.{Located, located_answer}
use Rattle.exif_containers.specs.declared.container.Format.{Format}
use Rattle.exif_containers.specs.declared.container.Format.TheVariants.{Tiff, Jpeg, Heif, WebP}
use Rattle.exif_containers.proofs.ContainerSteps.{tiff_is_whole}
use Rattle.exif_isobmff.specs.HeifFile.{begins_heif}
use Rattle.exif_segments.specs.Jpeg.{begins_jpeg}
use Rattle.exif_segments.specs.Webp.{begins_webp}
use Rattle.exif_containers.proofs.Replacing.{data_are_located, refused_alike}
use Rattle.exif_layout.specs.Groups.{is_ignored}
use Rattle.exif_layout.specs.Image.{image}
use Rattle.exif_layout.specs.Pushing.{IsFieldRanged}
use Rattle.exif_layout.specs.Refused.{write_fault}
use Rattle.exif_layout.specs.Rewriting.{pushed_all}
use Rattle.exif_layout.specs.WriteFaults.{write_refusal}
use Rattle.exif_layout.specs.declared.write_fault.WriteFault.{WriteFault}
use Rattle.exif_edit_base.specs.Causes as causes
use Rattle.exif_edit_base.specs.Causes.{Cause, no_data, of_container}
use Rattle.exif_edit_base.specs.Patches.{patched}
use Rattle.exif_edit.specs.InFiles.{data_patches, file_patches, placed}
use Rattle.exif_rewrite.specs.FileLaws.{IsFound}
use Rattle.exif_assign.specs.Assigning.{parts_of}
use Rattle.exif_assign.specs.Rules.{type_of_new}
use Rattle.exif_assign.specs.Values.{value_in}
use Rattle.exif_assign.specs.declared.assignment.Assignment.{Assignment}
use Rattle.exif_assign.specs.declared.spelled.ValueError.{ValueError}
use Rattle.exif_assign.specs.declared.spelled.ValueError.TheVariants as value_error
use Rattle.exif_change.specs.Changed.{Change, whole}
use Rattle.exif_setting.specs.Growing.{created_for, created_in, grown_by, grown_file, longest, naming, new_data, put, too_long_for, unless_fault}
use Rattle.exif_setting.specs.InPlace.{field_set, fit_by, fitting_set, setting}
use Rattle.exif_change.specs.Reading.{data_contents, entry_limit, primary}
use Rattle.exif_change.specs.Refusals.{Reason, as_edited, as_read, no_field, not_of_its_type, out_of_range, reading, unknown_format, ◌>>=◌}
use Rattle.exif_change.specs.Rewriting.{rewritten}
use Rattle.exif_setting.specs.Setting.{assigned_behind, assigned_fields, field_for, field_or, field_typed, fields_or_none, is_assigned, set_as, set_file, set_rest, with_assigned, with_field}
use Rattle.exif_change.proofs.Scrubbed.{jpeg_answers, webp_answers}
use Rattle.exif_setting.proofs.SetKept.{bound}
use Rattle.exif_change_laws.proofs.MadeValues.{made_value, new_written}
use Rattle.exif_change_laws.proofs.ScrubbedFiles.{webp_front}
use Rattle.exif_change_laws.proofs.SetAssigned.{distinct_fields}
use Rattle.exif_change_laws.proofs.SetNames.{AreDistinct}

no_ok : {X : Type 0} (why : Reason) (x : X) → ◌≡◌ {A = Result X Reason} (Err why) (Ok x) → ⊥
no_ok why x e = cc

ok_same : {X : Type 0} (x y : X) → ◌≡◌ {A = Result X Reason} (Ok x) (Ok y) → x ≡ y
ok_same x y e = cc

-- ---- the fields of assignments

-- a field that can be written, and is read as it was
pub record IsNewField (f : Field) : Type 0 where
  pub ranged : IsFieldRanged f
  pub plain : HasPlainTexts f.value
  pub pushed : is_ignored f.tag.0 f.tag.1 ≡ false
  pub image : f.ifd_num ≡ primary

-- the fields of a file without Exif data are all set once, and are such
pub record AreNewFields (sets : List Field × List Field) : Type 0 where
  pub single : All IsNewField sets.0
  pub repeated : sets.1 ≡ []

-- what is assigned is of its type
abbrev pub TypesLaw : Type 0
TypesLaw = (tag : Tag) (type : FieldType) (text : List ℕ) (v : Value)
    → value_in tag type text ≡ Ok v → field_type_of v ≡ Some type

not_true : (b : Bool) → not b ≡ true → b ≡ false
not_true true e = absurd (false≢true e)
not_true false e = refl

new_field : TypesLaw → (tag : Tag) (text : List ℕ) (f : Field) → field_for [] (tag, text) ≡ Ok f
    → IsNewField f
new_field law tag text f e = by_type (type_of_new tag) refl e
  where
    made : (type : FieldType) (v : Value) → type_of_new tag ≡ Some type → value_in tag type text ≡ Ok v
        → IsNewField (record { tag = tag; ifd_num = primary; value = v })
    made type v t e =
        let m = made_value tag type text v (law tag type text v e) e in
        let w = and_parts (nat_lt tag.1 (2 ^ 16)) (not (is_ignored tag.0 tag.1)) (new_written tag type t) in
        record {
          ranged = record { tag = below tag.1 w.0; value = m.0 };
          plain = m.1;
          pushed = not_true (is_ignored tag.0 tag.1) w.1;
          image = refl;
        }
      where
        below : (n : ℕ) → nat_lt n (2 ^ 16) ≡ true → n < 2 ^ 16
        below n e = grind (arith, nat_tests)

    by_value : (type : FieldType) (x : Result Value ValueError) → type_of_new tag ≡ Some type
        → value_in tag type text ≡ x → field_or tag x ≡ Ok f → IsNewField f
    by_value type (Ok v) t h e =
        subst IsNewField (ok_same (record { tag = tag; ifd_num = primary; value = v }) f e) (made type v t h)
    by_value type (Err value_error.NotOfItsType) t h e = absurd (no_ok (not_of_its_type tag) f e)
    by_value type (Err value_error.OutOfRange) t h e = absurd (no_ok (out_of_range tag) f e)
    by_value type (Err value_error.OutOfMemory) t h e = absurd (no_ok (not_of_its_type tag) f e)

    by_type : (o : Option FieldType) → type_of_new tag ≡ o → field_typed (tag, text) o ≡ Ok f → IsNewField f
    by_type None t e = absurd (no_ok no_field f e)
    by_type (Some type) t e = by_value type (value_in tag type text) t refl e

pub new_fields : TypesLaw → (assignments : List Assignment) (sets made : List Field × List Field)
    → AreNewFields sets → assigned_behind [] assignments sets ≡ Ok made → AreNewFields made
new_fields law [] sets made n e = subst AreNewFields (ok_same sets made e) n
new_fields law (a ∷ later) sets made n e =
    let b = bound (with_assigned [] a later sets) (assigned_behind [] later) made e in
    new_fields law later b.0 made (by_later (is_assigned later a.tag) b.0 b.1) b.2
  where
    by_later : (t : Bool) (next : List Field × List Field)
        → (if t then Ok sets else field_for [] (parts_of a) >>= (λ field. Ok (with_field [] field sets))) ≡ Ok next
        → AreNewFields next
    by_later true next e = subst AreNewFields (ok_same sets next e) n
    by_later false next e =
        let b = bound (field_for [] (parts_of a)) (λ field. Ok (with_field [] field sets)) next e in
        subst AreNewFields (ok_same (with_field [] b.0 sets) next b.2)
        (record {
          single = All-push IsNewField sets.0 b.0 n.single (new_field law a.tag a.text.now b.0 b.1);
          repeated = n.repeated;
        })

-- ---- nothing is set in place

-- a file without data holds none that could be edited
none_located : (file : List ℕ) (r : Refusal) → length file < 2 ^ 64 → container_answer file ≡ Err r
    → located_answer file ≡ Err r
none_located file r short e = by_located (located_answer file) refl
  where
    both : (bytes : List ℕ) → ◌≡◌ {A = Result (List ℕ) Refusal} (Err r) (Ok bytes) → ⊥
    both bytes e = cc

    same : (s : Refusal) → ◌≡◌ {A = Result (List ℕ) Refusal} (Err s) (Err r) → s ≡ r
    same s e = cc

    by_located : (x : Result Located Refusal) → located_answer file ≡ x → located_answer file ≡ Err r
    by_located (Ok at) h = absurd (both at.bytes (sym e ∙ (data_are_located file at short h).answered))
    by_located (Err s) h =
        h ∙ ap (λ (x : Refusal). let y : Result Located Refusal = Err x in y) (same s (sym (refused_alike file s h) ∙ e))

not_set : (g : Field) (file : List ℕ) (r : Refusal) → located_answer file ≡ Err r
    → field_set g file ≡ Err (no_data r)
unfolding file_patches
not_set g file r e =
    ap (λ (x : Result Located Refusal). causes.◌>>=◌ (causes.◌>>=◌ (of_container x) (λ at. causes.◌>>=◌ (data_patches entry_limit (setting g) at) (λ ps. placed file at ps))) (λ ps. Ok (patched ps file))) e

-- so all fields are left over
left_over : (file what : List ℕ) → ((g : Field) → field_set g file ≡ Err (no_data (not_found what)))
    → (fields left : List Field) → fitting_set fields (file, left) ≡ Ok (file, left ++ fields)
left_over file what none [] left =
    ap (λ (fs : List Field). let y : Result (List ℕ × List Field) Cause = Ok (file, fs) in y) (sym (append-nil left))
left_over file what none (g ∷ gs) left =
    ap (λ (x : Result (List ℕ) Cause). causes.◌>>=◌ (fit_by g x (file, left)) (fitting_set gs)) (none g)
    ∙ (left_over file what none gs (left ++ g ∷ [])
    ∙ ap (λ (fs : List Field). let y : Result (List ℕ × List Field) Cause = Ok (file, fs) in y) (append_assoc left (g ∷ []) gs))

-- ---- what is put is read

naming_ok : (tag : Option Tag) (x : Result Change Refusal) (c : Change) → naming tag x ≡ Ok c → as_read x ≡ Ok c
naming_ok tag (Ok y) c e = e
naming_ok tag (Err (types.too_big text)) c e = absurd (no_ok (too_long_for tag text) c e)
naming_ok tag (Err (types.invalid_format text)) c e = e
naming_ok tag (Err (types.not_found text)) c e = e
naming_ok tag (Err (types.blank_value text)) c e = e
naming_ok tag (Err (types.not_supported text)) c e = e
naming_ok tag (Err (types.unexpected_value text)) c e = e

-- data that were written
unfaulted : (o : Option WriteFault) (bytes data' : List ℕ) → as_read (unless_fault o bytes) ≡ Ok data'
    → (o ≡ None) × (bytes ≡ data')
unfaulted None bytes data' e = (refl, ok_same bytes data' e)
unfaulted (Some fault) bytes data' e = absurd (no_ok (reading (write_refusal fault)) data' e)

-- new data of a file, which can be written and are read
pub record HasNewData (fields : List Field) (new : List ℕ) : Type 0 where
  pub written : write_fault (pushed_all fields []) ≡ None
  pub read : container_answer new ≡ Ok (image Big (pushed_all fields []))

created : (format : Format) (fields : List Field) (file new : List ℕ)
    → ((data' : List ℕ) → as_read (rewritten format Exif (Some data') file) ≡ Ok (whole new)
    → container_answer new ≡ Ok data')
    → created_in format fields file ≡ Ok (whole new) → HasNewData fields new
created format fields file new answers e =
    let b = bound (as_read (new_data fields)) (λ data'. put format data' fields file) (whole new) e in
    let u = unfaulted (write_fault (pushed_all fields [])) (image Big (pushed_all fields [])) b.0 b.1 in
    record {
      written = u.0;
      read = answers b.0 (naming_ok (longest fields) (rewritten format Exif (Some b.0) file) (whole new) b.2)
          ∙ ap (λ (xs : List ℕ). let y : Result (List ℕ) Refusal = Ok xs in y) (sym u.1);
    }

-- TIFF data are their own container
tiff_told : (file : List ℕ) → format_in file ≡ Some Tiff → begins_tiff file ≡ true
unfolding format_in
tiff_told file e =
    by_tests (begins_tiff file) (begins_jpeg file) (begins_heif file) (begins_webp file) e
  where
    other : (f : Format) → (f ≡ Tiff → ⊥) → ◌≡◌ {A = Option Format} (Some f) (Some Tiff) → ⊥
    other f n e = n (let same : f ≡ Tiff = cc in same)

    none : ◌≡◌ {A = Option Format} None (Some Tiff) → ⊥
    none e = cc

    by_tests : (a b c d : Bool)
        → (if a then Some Tiff else (if b then Some Jpeg else (if c then Some Heif else (if d then Some WebP else None)))) ≡ Some Tiff
        → a ≡ true
    by_tests true b c d e = refl
    by_tests false true c d e = absurd (other Jpeg (λ h. cc) e)
    by_tests false false true d e = absurd (other Heif (λ h. cc) e)
    by_tests false false false true e = absurd (other WebP (λ h. cc) e)
    by_tests false false false false e = absurd (none e)

tiff_answers : (file what : List ℕ) → format_in file ≡ Some Tiff
    → container_answer file ≡ Err (not_found what) → ⊥
tiff_answers file what is e = ok_err (sym (tiff_is_whole file (tiff_told file is)) ∙ e)
  where
    ok_err : ◌≡◌ {A = Result (List ℕ) Refusal} (Ok file) (Err (not_found what)) → ⊥
    ok_err e = cc

-- ---- the whole

-- a file without Exif data gets new ones
created_anew : (format : Format) (fields : List Field) (file what new : List ℕ)
    → container_answer file ≡ Err (not_found what) → grown_file format fields file ≡ Ok (whole new)
    → created_for format what fields file ≡ Ok (whole new)
unfolding grown_file
created_anew format fields file what new none e =
    sym (ap (λ r. grown_by format fields r file) none) ∙ e

-- what a file without Exif data gets
pub record GetsNew (fields : List Field) (new : List ℕ) : Type 0 where
  pub data' : HasNewData fields new
  pub made : All IsNewField fields
  pub distinct : AreDistinct fields

pub new_file : TypesLaw → ((remove : Remove) (put : Option (List ℕ)) (bytes : List ℕ) → IsFound remove put bytes)
    → (assignments : List Assignment) (g : Field) (gs : List Field) (file new what : List ℕ)
    → length file < 2 ^ 64 → length new < 2 ^ 64 → container_answer file ≡ Err (not_found what)
    → assigned_fields file assignments ≡ Ok (g ∷ gs, []) → set_file assignments file ≡ Ok (whole new)
    → GetsNew (g ∷ gs) new
new_file typed law assignments g gs file new what long short none are e = record {
  data' = by_format (format_in file) refl e;
  made = (new_fields typed assignments ([], []) (g ∷ gs, []) (record { single = All-nil IsNewField; repeated = refl }) behind).single;
  distinct = subst AreDistinct (append-nil (g ∷ gs)) (distinct_fields [] assignments (g ∷ gs, []) behind);
}
  where
    behind : assigned_behind [] assignments ([], []) ≡ Ok (g ∷ gs, [])
    behind =
        sym (ap (λ (r : Result (List ℕ) Refusal). fields_or_none (types.◌>>=◌ r data_contents) >>= (λ fields. assigned_behind fields assignments ([], []))) none)
        ∙ are

    fits : fitting_set (g ∷ gs) (file, []) ≡ Ok (file, g ∷ gs)
    fits =
        left_over file what (λ f. not_set f file (not_found what) (none_located file (not_found what) long none))
        (g ∷ gs) []

    by_created : (format : Format) → format_in file ≡ Some format
        → created_for format what (g ∷ gs) file ≡ Ok (whole new) → HasNewData (g ∷ gs) new
    by_created Heif is e = absurd (no_ok (reading (not_found what)) (whole new) e)
    by_created Tiff is e = absurd (tiff_answers file what is none)
    by_created Jpeg is e =
        created Jpeg (g ∷ gs) file new (λ data' h. jpeg_answers Exif (Some data') file new h short) e
    by_created WebP is e =
        created WebP (g ∷ gs) file new
        (λ data' h. webp_answers Exif (Some data') file new law (webp_front file is) h short) e

    by_format : (o : Option Format) → format_in file ≡ o
        → ◌≡◌ {A = Result Change Reason} (elim o [ Some format ↦ set_as format assignments file | None ↦ Err unknown_format ]) (Ok (whole new))
        → HasNewData (g ∷ gs) new
    by_format None is e = absurd (no_ok unknown_format (whole new) e)
    by_format (Some format) is e =
        by_created format is
        (created_anew format (g ∷ gs) file what new none
        (sym (ap (λ r. r >>= (λ sets. as_edited (fitting_set sets.0 (file, sets.1)) >>= set_rest format)) are
        ∙ ap (λ (x : Result (List ℕ × List Field) Cause). as_edited x >>= set_rest format) fits)
        ∙ e))
