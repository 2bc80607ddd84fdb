-- Files in which fields were set in place, and then others in the data.
use Rattle.std.proofs.Common.{◌≡◌, ◌<◌, ◌^◌, ◌∙◌, ℕ, Bool, true, false, List, [], ◌∷◌, ◌++◌, length, take, Some, Result, Ok, Err, if◌then◌else◌, refl, sym, ap, subst}
use Rattle.std.specs.Prelude.{◌||◌, Option}
use Rattle.exif_types.specs.Refusals.{Refusal}
use Rattle.exif_types.specs.declared.field.Field.{Field}
use Rattle.exif_tiff.specs.Trace.{faults_of, fields_of, trace}
use Rattle.exif_containers.specs.Container.{container_answer, format_in}
use Rattle.exif_containers.specs.declared.container.Format.{Format}
use Rattle.exif_containers.specs.declared.container.Format.TheVariants.{Tiff, Jpeg, Heif, WebP}
use Rattle.exif_edit_base.specs.Causes.{Cause}
use Rattle.exif_edit_base.specs.Causes as causes
use Rattle.exif_edit_base.specs.Rereading.{without_entry_offsets}
use Rattle.exif_edit_base.proofs.CauseSteps.{bound as edit_bound, ok_same}
use Rattle.exif_rewrite.specs.FileLaws.{IsFound}
use Rattle.exif_segments.specs.declared.remove.Remove.{Remove}
use Rattle.exif_grow.specs.FieldPromises.{is_set, same_name}
use Rattle.exif_grow.specs.Fields.{field_grown, fields_grown}
use Rattle.exif_grow.proofs.FieldSound.{are_set, was_set}
use Rattle.exif_grow.proofs.SetLists.{failing, without_failing}
use Rattle.exif_change.specs.Changed.{whole}
use Rattle.exif_setting.specs.Growing.{grown_file}
use Rattle.exif_setting.specs.InPlace.{field_set, fit_by, fitting_set, needs_space}
use Rattle.exif_setting.specs.SetLaws.{GivesOthers, HoldsOthers, KeepsOthers}
use Rattle.exif_setting.proofs.SetInPlace.{all_kept, wider}
use Rattle.exif_setting.proofs.SetKept.{Found, data_found, known_by}

-- ---- names

pub is_set_append : (xs ys : List Field) (f : Field)
    → is_set (xs ++ ys) f ≡ (is_set xs f || is_set ys f)
is_set_append [] ys f = refl
is_set_append (x ∷ xs) ys f = by_test (same_name x f) (is_set_append xs ys f)
  where
    by_test : (b : Bool) → is_set (xs ++ ys) f ≡ (is_set xs f || is_set ys f)
        → (b || is_set (xs ++ ys) f) ≡ ((b || is_set xs f) || is_set ys f)
    by_test true h = refl
    by_test false h = h

pub in_front : (xs ys : List Field) (f : Field) → is_set xs f ≡ true → is_set (xs ++ ys) f ≡ true
in_front xs ys f h = is_set_append xs ys f ∙ ap (λ b. b || is_set ys f) h

-- what is left over is among what was to be set
pub left_among : (fields left left' : List Field) (file new : List ℕ)
    → fitting_set fields (file, left) ≡ Ok (new, left') → (f : Field) → is_set left' f ≡ true
    → is_set (fields ++ left) f ≡ true
left_among [] left left' file new e f h =
    ap (λ (p : List ℕ × List Field). is_set p.1 f)
    (ok_same {A = List ℕ × List Field} (file, left) (new, left') e) ∙ h
left_among (g ∷ gs) left left' file new e f h =
    by_answer (field_set g file) e (λ l k. left_among gs l left' file new k f h)
    (λ file' k. left_among gs left left' file' new k f h)
  where
    err_ok : (c : Cause) → ◌≡◌ {A = Result (List ℕ × List Field) Cause} (Err c) (Ok (new, left')) → ⊥
    err_ok c e = cc

    moved : (a b c : Bool) → (a || (b || (c || false))) ≡ true → (c || (a || b)) ≡ true
    moved a b true e = refl
    moved true b false e = refl
    moved false true false e = refl
    moved false false false e = e

    or_behind : (c : Bool) (d : Bool) → d ≡ true → (c || d) ≡ true
    or_behind true d e = refl
    or_behind false d e = e

    by_left : (t : Bool) (c : Cause)
        → causes.◌>>=◌ {A = List ℕ × List Field} (if t then Ok (file, left ++ g ∷ []) else Err c) (fitting_set gs)
        ≡ Ok (new, left')
        → ((l : List Field) → fitting_set gs (file, l) ≡ Ok (new, left') → is_set (gs ++ l) f ≡ true)
        → (same_name g f || is_set (gs ++ left) f) ≡ true
    by_left true c e k =
        let one = k (left ++ g ∷ []) e in
        let two : (is_set gs f || (is_set left f || (same_name g f || false))) ≡ true =
        sym (is_set_append gs (left ++ g ∷ []) f
        ∙ ap (λ b. is_set gs f || b) (is_set_append left (g ∷ []) f)) ∙ one in
        ap (λ b. same_name g f || b) (is_set_append gs left f)
        ∙ moved (is_set gs f) (is_set left f) (same_name g f) two
    by_left false c e k = absurd (err_ok c e)

    by_answer : (x : Result (List ℕ) Cause)
        → causes.◌>>=◌ (fit_by g x (file, left)) (fitting_set gs) ≡ Ok (new, left')
        → ((l : List Field) → fitting_set gs (file, l) ≡ Ok (new, left') → is_set (gs ++ l) f ≡ true)
        → ((file' : List ℕ) → fitting_set gs (file', left) ≡ Ok (new, left')
        → is_set (gs ++ left) f ≡ true)
        → (same_name g f || is_set (gs ++ left) f) ≡ true
    by_answer (Err c) e stay go = by_left (needs_space c) c e stay
    by_answer (Ok file') e stay go =
        or_behind (same_name g f) (is_set (gs ++ left) f) (go file' e)

-- ---- in the data

grown_faults : (gs : List Field) (old new : List ℕ) → fields_grown gs old ≡ Ok new
    → faults_of (trace new) ≡ faults_of (trace old)
grown_faults [] old new e = ap (λ xs. faults_of (trace xs)) (sym (ok_same old new e))
grown_faults (g ∷ gs) old new e =
    let b = edit_bound (field_grown g old) (fields_grown gs) new e in
    grown_faults gs b.0 new b.2 ∙ (was_set g old b.0 b.1).faults

-- data in which fields were set keep all others of a wider choice
pub grown_kept : (sets gs : List Field) (old new : List ℕ)
    → ((f : Field) → is_set gs f ≡ true → is_set sets f ≡ true) → fields_grown gs old ≡ Ok new
    → KeepsOthers sets old new
grown_kept sets gs old new more e =
    let q = is_set sets in
    let p = is_set gs in
    let a = fields_of (trace new) in
    let b = fields_of (trace old) in
    record {
      faults = grown_faults gs old new e;
      others = ap without_entry_offsets (sym (wider p q more a))
          ∙ (without_failing q (λ f. refl) (failing p a)
          ∙ (ap (failing q) (are_set gs old new e).others
          ∙ (sym (without_failing q (λ f. refl) (failing p b))
          ∙ ap without_entry_offsets (wider p q more b))));
    }

-- ---- the whole

pub both_kept : (sets : List Field) (old mid new : List ℕ) → KeepsOthers sets old mid
    → KeepsOthers sets mid new → KeepsOthers sets old new
both_kept sets old mid new a b =
    record { faults = b.faults ∙ a.faults; others = b.others ∙ a.others }

-- all other fields of a file are as they were
pub set_whole : (format : Format) (fields repeated rest : List Field) (field : Field)
    (file bytes mid new : List ℕ)
    → ((remove : Remove) (put : Option (List ℕ)) (bytes : List ℕ) → IsFound remove put bytes)
    → length file < 2 ^ 64 → length new < 2 ^ 64 → container_answer file ≡ Ok bytes
    → fitting_set fields (file, repeated) ≡ Ok (mid, field ∷ rest)
    → format_in (take 4096 mid) ≡ Some format
    → grown_file format (field ∷ rest) mid ≡ Ok (whole new)
    → HoldsOthers format (fields ++ repeated) bytes new (container_answer new)
set_whole format fields repeated rest field file bytes mid new law short small held fits is e =
    by_mid (container_answer mid) refl
    (all_kept sets fields repeated (field ∷ rest) file bytes mid
    (λ f n. in_front fields repeated f n) short held fits)
  where
    sets : List Field
    sets = fields ++ repeated

    by_format : (f : Format) (data' : List ℕ) → KeepsOthers sets bytes data' → Found f new data'
        → HoldsOthers f sets bytes new (container_answer new)
    by_format Tiff data' k h = subst (λ xs. KeepsOthers sets bytes xs) h k
    by_format Jpeg data' k h = subst (λ r. HoldsOthers Jpeg sets bytes new r) (sym h) k
    by_format WebP data' k h = subst (λ r. HoldsOthers WebP sets bytes new r) (sym h) k
    by_format Heif data' k h = subst (λ r. HoldsOthers Heif sets bytes new r) (sym h) k

    by_mid : (r : Result (List ℕ) Refusal) → container_answer mid ≡ r → GivesOthers sets bytes r
        → HoldsOthers format sets bytes new (container_answer new)
    by_mid (Err refusal) h k = absurd k
    by_mid (Ok old) h k =
        let d = data_found format (field ∷ rest) mid old new law (known_by format mid is) h e small in
        by_format format d.0
        (both_kept sets bytes old d.0 k
        (grown_kept sets (field ∷ rest) old d.0
        (left_among fields repeated (field ∷ rest) file mid fits) d.1)) d.2
