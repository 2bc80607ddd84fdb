-- Files in which fields of different names were set, in place and in the data.
use Rattle.std.proofs.Common.{◌≡◌, ◌∙◌, ◌<◌, ◌^◌, inl, inr, ℕ, true, false, List, [], ◌∷◌, ◌++◌, All, length, take, Option, Some, None, Result, Ok, Err, refl, sym, ap, subst, append_assoc}
use Rattle.std.specs.Prelude.{nat_lt}
use Rattle.std.proofs.lemmas.Bool.{false≢true}
use Rattle.std.proofs.lemmas.List.Elements.{All-cons, All-head, All-tail}
use Rattle.exif_base.specs.Orders.{number_of}
use Rattle.exif_base.specs.declared.endian.Order.{Order}
use Rattle.exif_types.specs.Refusals.{Refusal}
use Rattle.exif_types.specs.declared.field.Field.{Field}
use Rattle.exif_types.specs.declared.value.Value.{Value}
use Rattle.exif_types.specs.declared.value.Value.TheVariants.{Byte, Ascii, Short, Long, Rational, SByte, Undefined, SShort, SLong, SRational, Float, Double, Unknown}
use Rattle.exif_tiff.specs.Answers.{Answer, Refused, answer_of, raw_answer, shown}
use Rattle.exif_tiff.specs.Trace.{content_of, faults_of, fields_of, header, limited, ordered_trace, trace, visits_of}
use Rattle.exif_tiff.specs.declared.fault.Fault.{Fault}
use Rattle.exif_segments.specs.declared.remove.Remove.{Remove}
use Rattle.exif_containers.specs.Container.{begins_tiff, container_answer, format_in}
use Rattle.exif_containers.specs.Located.{in_one}
use Rattle.exif_containers.specs.declared.container.Format.{Format}
use Rattle.exif_containers.specs.declared.container.Format.TheVariants.{Tiff, Jpeg, Heif, WebP}
use Rattle.exif_containers.proofs.Replacing.{data_are_located, is_heif, tiff_located}
use Rattle.exif_layout.specs.Encoding.{moved_to}
use Rattle.exif_edit_base.specs.Finding.{replaced}
use Rattle.exif_edit_base.specs.Patches.{patched}
use Rattle.exif_edit_base.proofs.CauseSteps.{bound as edit_bound, ok_same}
use Rattle.exif_edit_base.proofs.ReadSteps.{is_refused, not_refused}
use Rattle.exif_edit.specs.Promises.{ReadAs}
use Rattle.exif_edit.proofs.HeaderMarks.{IsMarked, header_marked}
use Rattle.exif_edit.specs.InFiles.{file_patches}
use Rattle.exif_edit.proofs.FilesSound.{file_sound}
use Rattle.exif_rewrite.specs.FileLaws.{IsFound}
use Rattle.exif_grow.specs.FieldPromises.{bare}
use Rattle.exif_grow.specs.Fields.{field_grown, fields_grown}
use Rattle.exif_grow.proofs.FieldSound.{are_set, was_set}
use Rattle.exif_change.specs.Changed.{whole}
use Rattle.exif_setting.specs.InPlace.{field_set, fitting_set, setting}
use Rattle.exif_change.specs.Reading.{entry_limit}
use Rattle.exif_setting.specs.SetLaws.{GivesOthers, KeepsOthers}
use Rattle.exif_setting.specs.Setting.{set_rest}
use Rattle.exif_setting.proofs.SetInPlace.{all_kept, one_kept}
use Rattle.exif_setting.proofs.SetKept.{Found, IsKnown, data_found, tiff_same}
use Rattle.exif_setting.proofs.SetWhole.{both_kept, grown_kept, in_front, left_among}
use Rattle.exif_change_laws.specs.Assigned.{AreAssigned, GivesAssigned, IsReadAs}
use Rattle.exif_change_laws.proofs.SetFormats.{fitted, format_kept}
use Rattle.exif_change_laws.proofs.SetNames.{AreDistinct, IsOnce, all_by, all_turned, distinct_turned, last_values, once_kept, once_read, read_kept}

-- ---- what is read at the end

-- the same value, wherever it is stored
bare_moved : (offset : ℕ) (v : Value) → bare (moved_to offset v) ≡ bare v
bare_moved offset (Undefined xs old) = refl
bare_moved offset (Unknown type count old) = refl
bare_moved offset (Byte xs) = refl
bare_moved offset (Ascii xs) = refl
bare_moved offset (Short xs) = refl
bare_moved offset (Long xs) = refl
bare_moved offset (Rational xs) = refl
bare_moved offset (SByte xs) = refl
bare_moved offset (SShort xs) = refl
bare_moved offset (SLong xs) = refl
bare_moved offset (SRational xs) = refl
bare_moved offset (Float xs) = refl
bare_moved offset (Double xs) = refl

-- each of these fields is read of the last data, if a file holds few entries each name once
abbrev ReadsAll : List ℕ → List Field → List ℕ → List Field → Type 0
ReadsAll now fields file left =
    (bytes : List ℕ) → length file < 2 ^ 64 → container_answer file ≡ Ok bytes
    → AreDistinct (fields ++ left)
    → (nat_lt 1000000 (visits_of (trace bytes)) ≡ false
    → All (IsOnce (fields_of (trace bytes))) fields)
    → All (IsReadAs (fields_of (trace now))) (fields ++ left)

module _ (mid : List ℕ) (left' : List Field) (old now : List ℕ)
    (held : container_answer mid ≡ Ok old) (grown : fields_grown left' old ≡ Ok now) where
  at_end : ReadsAll now [] mid left'
  at_end bytes short h d o =
      let s = are_set left' old now grown in
      last_values left' (fields_of (trace now)) d s.values s.there

  at_set : (g : Field) (gs : List Field) (file file' : List ℕ) (left : List Field)
      → field_set g file ≡ Ok file' → fitting_set gs (file', left) ≡ Ok (mid, left')
      → ReadsAll now gs file' left → ReadsAll now (g ∷ gs) file left
  at_set g gs file file' left e fits k bytes short h d o =
      let w = one_kept g file bytes file' short h e in
      let small = subst (λ n. n < 2 ^ 64) (sym w.as_long) short in
      let once = o w.few in
      let old_fields = fields_of (trace bytes) in
      let later : All (IsOnce (fields_of (trace w.kept))) gs =
      subst (λ xs. All (IsOnce xs) gs) (sym w.fields)
      (all_by (IsOnce old_fields)
      (IsOnce (replaced g.tag g.ifd_num (moved_to w.offset g.value) old_fields))
      (once_kept g.tag g.ifd_num (moved_to w.offset g.value) old_fields) gs
      (All-tail (IsOnce old_fields) g gs once)) in
      let read = once_read g _ (moved_to w.offset g.value) old_fields (fields_of (trace w.kept))
      (bare_moved w.offset g.value) (All-head (IsOnce old_fields) g gs once) w.fields w.found.1 in
      let front : KeepsOthers (gs ++ left) w.kept old =
      subst (λ r. GivesOthers (gs ++ left) w.kept r) held
      (all_kept (gs ++ left) gs left left' file' w.kept mid (λ f n. in_front gs left f n) small
      w.held fits) in
      let kept = both_kept (gs ++ left) w.kept old now front
      (grown_kept (gs ++ left) left' old now (left_among gs left left' file' mid fits) grown) in
      All-cons (IsReadAs (fields_of (trace now))) g (gs ++ left)
      (read_kept g (gs ++ left) (fields_of (trace w.kept)) (fields_of (trace now)) d.0 kept.others
      read)
      (k w.kept small w.held d.1 (λ n. later))

  at_leave : (g : Field) (gs : List Field) (file : List ℕ) (left : List Field)
      → ReadsAll now gs file (left ++ g ∷ []) → ReadsAll now (g ∷ gs) file left
  at_leave g gs file left k bytes short h d o =
      let a : (gs ++ left) ++ g ∷ [] ≡ gs ++ (left ++ g ∷ []) = append_assoc gs left (g ∷ []) in
      let P = IsReadAs (fields_of (trace now)) in
      all_turned P g (gs ++ left)
      (subst (λ xs. All P xs) (sym a)
      (k bytes short h (subst AreDistinct a (distinct_turned g (gs ++ left) d.0 d.1))
      (λ n. All-tail (IsOnce (fields_of (trace bytes))) g gs (o n))))

  all_assigned : (fields left : List Field) (file bytes : List ℕ) → length file < 2 ^ 64
      → container_answer file ≡ Ok bytes → fitting_set fields (file, left) ≡ Ok (mid, left')
      → AreDistinct (fields ++ left)
      → (nat_lt 1000000 (visits_of (trace bytes)) ≡ false
      → All (IsOnce (fields_of (trace bytes))) fields)
      → AreAssigned (fields ++ left) bytes now
  all_assigned fields left file bytes short h fits d o =
      let front : KeepsOthers (fields ++ left) bytes old =
      subst (λ r. GivesOthers (fields ++ left) bytes r) held
      (all_kept (fields ++ left) fields left left' file bytes mid
      (λ f n. in_front fields left f n) short h fits) in
      record {
        values = fitted mid left' (ReadsAll now) at_end at_set at_leave fields file left fits bytes
            short h d o;
        kept = both_kept (fields ++ left) bytes old now front
            (grown_kept (fields ++ left) left' old now
            (left_among fields left left' file mid fits) grown);
      }

-- ---- the format

length_kept : (g : Field) (file new : List ℕ) → length file < 2 ^ 64 → field_set g file ≡ Ok new
    → length new ≡ length file
length_kept g file new short e =
    let b = edit_bound (file_patches entry_limit (setting g) file) (λ ps. Ok (patched ps file)) new
    e in
    ap (λ (xs : List ℕ). length xs) (sym (ok_same (patched b.0 file) new b.2))
    ∙ (file_sound entry_limit (setting g) file b.0 short b.1).as_long

known_kept : (f : Format) → is_heif f ≡ false → (fields left left' : List Field) (file mid : List ℕ)
    → length file < 2 ^ 64 → format_in (take 4096 file) ≡ Some f
    → fitting_set fields (file, left) ≡ Ok (mid, left') → format_in (take 4096 mid) ≡ Some f
known_kept f h fields left left' file mid short is fits =
    fitted mid left' (λ fs xs l. length xs < 2 ^ 64 → format_in (take 4096 xs) ≡ Some f
    → format_in (take 4096 mid) ≡ Some f)
    (λ s k. k)
    (λ g gs xs ys l e later next s k. next
    (subst (λ n. n < 2 ^ 64) (sym (length_kept g xs ys s e)) s) (format_kept f h g xs ys s k e))
    (λ g gs xs l next. next) fields file left fits short is

pub known_after : (format : Format) (fields left left' : List Field) (file mid : List ℕ)
    → length file < 2 ^ 64 → IsKnown format file
    → fitting_set fields (file, left) ≡ Ok (mid, left') → IsKnown format mid
known_after Tiff fields left left' file mid short is fits = tt
known_after Heif fields left left' file mid short is fits = tt
known_after Jpeg fields left left' file mid short is fits =
    known_kept Jpeg refl fields left left' file mid short is fits
known_after WebP fields left left' file mid short is fits =
    known_kept WebP refl fields left left' file mid short is fits

-- ---- the data of the new file

-- data that are read begin as TIFF data do
read_begins : (bytes : List ℕ) (fs : List Field) (xs : List Fault) → ReadAs bytes fs xs
    → begins_tiff bytes ≡ true
unfolding raw_answer
read_begins bytes fs xs r = by_header (header bytes) refl (r true)
  where
    by_mark : IsMarked bytes → begins_tiff bytes ≡ true
    by_mark (inl e) = rw e refl
    by_mark (inr e) = rw e refl

    by_header : (x : Result Order Fault) → header bytes ≡ x
        → (elim x as (λ y. Answer) [
          | Err fault ↦ Refused fault
          | Ok order ↦ answer_of true (content_of (limited None (ordered_trace (number_of order) bytes)))
        ]) ≡ shown fs xs → begins_tiff bytes ≡ true
    by_header (Err fault) h e =
        absurd (false≢true (sym (not_refused fs xs) ∙ sym (ap is_refused e)))
    by_header (Ok order) h e = by_mark (header_marked bytes order h)

grown_begins : (g : Field) (gs : List Field) (old new : List ℕ)
    → fields_grown (g ∷ gs) old ≡ Ok new → begins_tiff new ≡ true
grown_begins g gs old new e =
    let b = edit_bound (field_grown g old) (fields_grown gs) new e in
    read_begins new (fields_of (trace new)) (faults_of (trace b.0))
    ((are_set gs b.0 new b.2).reads (was_set g old b.0 b.1).reads)

found_data : (format : Format) (g : Field) (gs : List Field) (old new now : List ℕ)
    → length new < 2 ^ 64 → fields_grown (g ∷ gs) old ≡ Ok now → Found format new now
    → container_answer new ≡ Ok now
found_data Jpeg g gs old new now small e h = h
found_data WebP g gs old new now small e h = h
found_data Heif g gs old new now small e h = h
found_data Tiff g gs old new now small e h =
    let begins : begins_tiff new ≡ true = subst (λ xs. begins_tiff xs ≡ true) h (grown_begins g gs old now e) in
    (data_are_located new (in_one Tiff 0 new) small (tiff_located new begins)).answered
    ∙ ap (λ (xs : List ℕ). let r : Result (List ℕ) Refusal = Ok xs in r) (sym h)

-- ---- the whole

pub assigned_in : (format : Format) (fields left left' : List Field) (file bytes mid new : List ℕ)
    → ((remove : Remove) (put : Option (List ℕ)) (bytes : List ℕ) → IsFound remove put bytes)
    → length file < 2 ^ 64 → length new < 2 ^ 64 → container_answer file ≡ Ok bytes
    → IsKnown format file → fitting_set fields (file, left) ≡ Ok (mid, left')
    → set_rest format (mid, left') ≡ Ok (whole new) → AreDistinct (fields ++ left)
    → (nat_lt 1000000 (visits_of (trace bytes)) ≡ false
    → All (IsOnce (fields_of (trace bytes))) fields)
    → GivesAssigned (fields ++ left) bytes (container_answer new)
assigned_in format fields left left' file bytes mid new law short small held is fits e d o =
    by_mid (container_answer mid) refl
    (all_kept (fields ++ left) fields left left' file bytes mid
    (λ f n. in_front fields left f n) short held fits)
  where
    gives : (now : List ℕ) → container_answer new ≡ Ok now → AreAssigned (fields ++ left) bytes now
        → GivesAssigned (fields ++ left) bytes (container_answer new)
    gives now h a = subst (λ r. GivesAssigned (fields ++ left) bytes r) (sym h) a

    by_rest : (old : List ℕ) → container_answer mid ≡ Ok old → (l : List Field) → left' ≡ l
        → set_rest format (mid, l) ≡ Ok (whole new)
        → GivesAssigned (fields ++ left) bytes (container_answer new)
    by_rest old h [] k e =
        gives old (ap container_answer (sym (tiff_same mid new e)) ∙ h)
        (all_assigned mid left' old old h (ap (λ l. fields_grown l old) k) fields left file bytes
        short held fits d o)
    by_rest old h (g ∷ gs) k e =
        let f = data_found format (g ∷ gs) mid old new law
        (known_after format fields left left' file mid short is fits) h e small in
        gives f.0 (found_data format g gs old new f.0 small f.1 f.2)
        (all_assigned mid left' old f.0 h (ap (λ l. fields_grown l old) k ∙ f.1) fields left file
        bytes short held fits d o)

    by_mid : (r : Result (List ℕ) Refusal) → container_answer mid ≡ r
        → GivesOthers (fields ++ left) bytes r
        → GivesAssigned (fields ++ left) bytes (container_answer new)
    by_mid (Err refusal) h k = absurd k
    by_mid (Ok old) h k = by_rest old h left' refl e
