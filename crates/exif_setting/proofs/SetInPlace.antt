-- Files in which fields were set in place.
use Rattle.std.proofs.Common.{◌≡◌, ◌<◌, ◌^◌, ◌∙◌, ℕ, Bool, true, false, List, [], ◌∷◌, ◌++◌, length, Some, None, Result, Ok, Err, if◌then◌else◌, refl, sym, ap, subst}
use Rattle.std.specs.Prelude.{◌||◌, nat_lt, not}
use Rattle.std.specs.List.{list_any}
use Rattle.std.proofs.lemmas.Bool.{false≢true}
use Rattle.exif_base.specs.Orders.{number_of}
use Rattle.exif_base.specs.declared.endian.Order.{Order}
use Rattle.exif_text.specs.declared.ifd.In.{In}
use Rattle.exif_types.specs.Lookup.{is_named, last_named}
use Rattle.exif_types.specs.Refusals.{Refusal}
use Rattle.exif_types.specs.declared.field.Field.{Field}
use Rattle.exif_types.specs.declared.tag.Tag.{Tag}
use Rattle.exif_types.specs.declared.value.Value.{Value}
use Rattle.exif_tiff.specs.Answers.{Answer, Refused, answer_of, raw_answer, shown}
use Rattle.exif_tiff.specs.Trace.{content_of, faults_of, fields_of, header, limited, ordered_trace, trace, visits_of}
use Rattle.exif_tiff.specs.declared.fault.Fault.{Fault}
use Rattle.exif_tiff.specs.declared.fault.Fault.TheVariants.{TooManyEntries}
use Rattle.exif_tiff.proofs.TiffAnswers.{trace_right}
use Rattle.exif_containers.specs.Container.{container_answer}
use Rattle.exif_containers.proofs.Replacing.{data_are_located}
use Rattle.exif_layout.specs.Encoding.{moved_to}
use Rattle.exif_edit_base.specs.Causes.{Cause, wrong_header}
use Rattle.exif_edit_base.specs.Causes as causes
use Rattle.exif_edit_base.specs.Finding.{replaced, with_value}
use Rattle.exif_edit_base.specs.Patches.{patched}
use Rattle.exif_edit_base.specs.Rereading.{without_entry_offsets}
use Rattle.exif_edit_base.proofs.CauseSteps.{bound as edit_bound, ok_same, passed}
use Rattle.exif_edit_base.proofs.ReadSteps.{is_refused, not_refused, unshown, unshown_shown}
use Rattle.exif_edit.specs.Edits.{edited, reads_past}
use Rattle.exif_edit.specs.Promises.{ReadAs}
use Rattle.exif_edit.specs.Removing.{without_named}
use Rattle.exif_edit.specs.InFiles.{IsEditedIn, file_patches}
use Rattle.exif_edit.proofs.FilesSound.{file_sound}
use Rattle.exif_grow.specs.FieldPromises.{is_set, same_name, unset}
use Rattle.exif_grow.proofs.SetLists.{failing}
use Rattle.exif_setting.specs.InPlace.{field_set, fit_by, fitting_set, needs_space, setting}
use Rattle.exif_change.specs.Reading.{entry_limit}
use Rattle.exif_setting.specs.SetLaws.{GivesOthers, KeepsOthers}

-- ---- what is read, by the trace

-- data that are read as fields and faults have them
record IsTraced (bytes : List ℕ) (fs : List Field) (xs : List Fault) : Type 0 where
  fields : fields_of (trace bytes) ≡ fs
  faults : faults_of (trace bytes) ≡ xs

traced : (bytes : List ℕ) (fs : List Field) (xs : List Fault) → ReadAs bytes fs xs
    → IsTraced bytes fs xs
unfolding raw_answer
traced bytes fs xs r = by_header (header bytes) refl (r true)
  where
    by_header : (x : Result Order Fault) → header bytes ≡ x
        → (elim x as (λ y. Answer) [
          | Err fault ↦ Refused fault
          | Ok order ↦ answer_of true (content_of (limited None (ordered_trace (number_of order) bytes)))
        ]) ≡ shown fs xs → IsTraced bytes fs xs
    by_header (Err fault) h e =
        absurd (false≢true (sym (not_refused fs xs) ∙ sym (ap is_refused e)))
    by_header (Ok order) h e =
        let nodes = ordered_trace (number_of order) bytes in
        let t = trace_right bytes order h in
        let p : ◌≡◌ {A = List Field × List Fault} (fields_of nodes, faults_of nodes) (fs, xs) =
        sym (unshown_shown (fields_of nodes) (faults_of nodes))
        ∙ (ap unshown e ∙ unshown_shown fs xs) in
        record {
          fields = ap fields_of t ∙ ap (λ (q : List Field × List Fault). q.0) p;
          faults = ap faults_of t ∙ ap (λ (q : List Field × List Fault). q.1) p;
        }

-- ---- one field

-- a replaced field has the name, so the others are the same
replaced_others : (tag : Tag) (k : In) (v : Value) (fs : List Field)
    → without_named tag k (replaced tag k v fs) ≡ without_named tag k fs
replaced_others tag k v [] = refl
replaced_others tag k v (f ∷ fs) =
    by_tests (list_any (is_named tag k) fs) (is_named tag k f) refl (replaced_others tag k v fs)
  where
    by_tests : (a b : Bool) → is_named tag k f ≡ b
        → without_named tag k (replaced tag k v fs) ≡ without_named tag k fs
        → without_named tag k
        (if a then f ∷ replaced tag k v fs else ((if b then with_value v f else f) ∷ fs))
        ≡ (if not b then f ∷ without_named tag k fs else without_named tag k fs)
    by_tests true true n h = rw n h
    by_tests true false n h = rw n (ap (λ xs. f ∷ xs) h)
    by_tests false true n h = rw n refl
    by_tests false false n h = rw n refl

-- a wider test leaves out what a narrower one does
pub wider : (p q : Field → Bool) → ((f : Field) → p f ≡ true → q f ≡ true) → (xs : List Field)
    → failing q (failing p xs) ≡ failing q xs
wider p q more [] = refl
wider p q more (x ∷ xs) = by_tests (p x) (q x) refl refl (wider p q more xs)
  where
    by_tests : (a b : Bool) → p x ≡ a → q x ≡ b → failing q (failing p xs) ≡ failing q xs
        → failing q (if not a then x ∷ failing p xs else failing p xs)
        ≡ (if not b then x ∷ failing q xs else failing q xs)
    by_tests true true e g h = h
    by_tests true false e g h = absurd (false≢true (sym g ∙ more x e))
    by_tests false true e g h = rw g h
    by_tests false false e g h = rw g (ap (λ ys. x ∷ ys) h)

-- a file in which one field was set
pub record WasKept (g : Field) (file bytes new : List ℕ) : Type 0 where
  pub few : nat_lt 1000000 (visits_of (trace bytes)) ≡ false
  pub kept : List ℕ
  pub held : container_answer new ≡ Ok kept
  pub faults : faults_of (trace kept) ≡ faults_of (trace bytes)
  pub offset : ℕ
  pub fields : fields_of (trace kept)
      ≡ replaced g.tag g.ifd_num (moved_to offset g.value) (fields_of (trace bytes))
  pub others : without_named g.tag g.ifd_num (fields_of (trace kept))
      ≡ without_named g.tag g.ifd_num (fields_of (trace bytes))
  pub found : (moved : ℕ) × (last_named (fields_of (trace kept)) g.tag g.ifd_num
      ≡ Some (record { tag = g.tag; ifd_num = g.ifd_num; value = moved_to moved g.value }))
  pub as_long : length new ≡ length file

pub one_kept : (g : Field) (file bytes new : List ℕ) → length file < 2 ^ 64
    → container_answer file ≡ Ok bytes → field_set g file ≡ Ok new → WasKept g file bytes new
one_kept g file bytes new short held e =
    let b = edit_bound (file_patches entry_limit (setting g) file) (λ ps. Ok (patched ps file)) new
    e in
    let i : IsEditedIn entry_limit (setting g) file new =
    subst (λ xs. IsEditedIn entry_limit (setting g) file xs) (ok_same (patched b.0 file) new b.2)
    (file_sound entry_limit (setting g) file b.0 short b.1) in
    let same : i.at.bytes ≡ bytes =
    read_same i.at.bytes bytes
    (sym (data_are_located file i.at short i.located).answered ∙ held) in
    let t = traced i.new
    (replaced g.tag g.ifd_num (moved_to i.promised.0.offset g.value)
    (fields_of (trace i.at.bytes))) (faults_of (trace i.at.bytes)) i.promised.0.reads in
    let p = passed (reads_past entry_limit (setting g) i.at.bytes) (wrong_header TooManyEntries)
    (λ a. edited (setting g) i.at.bytes) i.new i.edited in
    let f = i.promised.1 true (fields_of (trace i.new)) (faults_of (trace i.at.bytes))
    (i.promised.0.reads true
    ∙ ap (λ fs. shown fs (faults_of (trace i.at.bytes))) (sym t.fields)) in
    record {
      few = ap (λ xs. nat_lt 1000000 (visits_of (trace xs))) (sym same) ∙ p.0;
      kept = i.new;
      held = i.holds;
      faults = t.faults ∙ ap (λ xs. faults_of (trace xs)) same;
      offset = i.promised.0.offset;
      fields = t.fields
          ∙ ap (λ xs. replaced g.tag g.ifd_num (moved_to i.promised.0.offset g.value)
          (fields_of (trace xs))) same;
      found = f;
      others = ap (without_named g.tag g.ifd_num) t.fields
          ∙ (replaced_others g.tag g.ifd_num (moved_to i.promised.0.offset g.value)
          (fields_of (trace i.at.bytes))
          ∙ ap (λ xs. without_named g.tag g.ifd_num (fields_of (trace xs))) same);
      as_long = i.as_long;
    }
  where
    read_same : {E : Type 0} (a b : List ℕ) → ◌≡◌ {A = Result (List ℕ) E} (Ok a) (Ok b) → a ≡ b
    read_same a b e = cc

-- ---- several fields

kept_wider : (g : Field) (sets : List Field) (old new : List Field)
    → ((f : Field) → same_name g f ≡ true → is_set sets f ≡ true)
    → without_named g.tag g.ifd_num new ≡ without_named g.tag g.ifd_num old
    → without_entry_offsets (unset sets new) ≡ without_entry_offsets (unset sets old)
kept_wider g sets old new more e =
    ap without_entry_offsets
    (sym (wider (same_name g) (is_set sets) more new)
    ∙ (ap (failing (is_set sets)) e ∙ wider (same_name g) (is_set sets) more old))

-- the others of these names, whatever more is set
pub all_kept : (sets fields left left' : List Field) (file bytes new : List ℕ)
    → ((f : Field) → is_set fields f ≡ true → is_set sets f ≡ true)
    → length file < 2 ^ 64 → container_answer file ≡ Ok bytes
    → fitting_set fields (file, left) ≡ Ok (new, left')
    → GivesOthers sets bytes (container_answer new)
all_kept sets [] left left' file bytes new more short held e =
    let same : file ≡ new = pair_same e in
    subst (λ r. GivesOthers sets bytes r) (sym (ap container_answer (sym same) ∙ held))
    (record { faults = refl; others = refl })
  where
    pair_same : ◌≡◌ {A = Result (List ℕ × List Field) Cause} (Ok (file, left)) (Ok (new, left'))
        → file ≡ new
    pair_same e = ap (λ (p : List ℕ × List Field). p.0)
        (ok_same {A = List ℕ × List Field} (file, left) (new, left') e)
all_kept sets (g ∷ gs) left left' file bytes new more short held e =
    by_answer (field_set g file) refl e
    (λ l h. all_kept sets gs l left' file bytes new rest short held h)
    (λ file' bytes' s h k. all_kept sets gs left left' file' bytes' new rest s h k)
  where
    rest : (f : Field) → is_set gs f ≡ true → is_set sets f ≡ true
    rest f n = more f (or_true (same_name g f) n)
      where
        or_true : (a : Bool) → is_set gs f ≡ true → (a || is_set gs f) ≡ true
        or_true true n = refl
        or_true false n = n

    first : (f : Field) → same_name g f ≡ true → is_set sets f ≡ true
    first f n = more f (ap (λ a. a || is_set gs f) n)

    on : (mid : List ℕ) → KeepsOthers sets bytes mid → (r : Result (List ℕ) Refusal)
        → GivesOthers sets mid r → GivesOthers sets bytes r
    on mid k (Ok last) h = record { faults = h.faults ∙ k.faults; others = h.others ∙ k.others }
    on mid k (Err refusal) h = h

    err_ok : (c : Cause) → ◌≡◌ {A = Result (List ℕ × List Field) Cause} (Err c) (Ok (new, left')) → ⊥
    err_ok c e = cc

    by_left : (t : Bool) (c : Cause)
        → causes.◌>>=◌ {A = List ℕ × List Field} (if t then Ok (file, left ++ g ∷ []) else Err c) (fitting_set gs)
        ≡ Ok (new, left')
        → ((l : List Field) → fitting_set gs (file, l) ≡ Ok (new, left')
        → GivesOthers sets bytes (container_answer new))
        → GivesOthers sets bytes (container_answer new)
    by_left true c e k = k (left ++ g ∷ []) e
    by_left false c e k = absurd (err_ok c e)

    by_answer : (x : Result (List ℕ) Cause) → field_set g file ≡ x
        → causes.◌>>=◌ (fit_by g x (file, left)) (fitting_set gs) ≡ Ok (new, left')
        → ((l : List Field) → fitting_set gs (file, l) ≡ Ok (new, left')
        → GivesOthers sets bytes (container_answer new))
        → ((file' bytes' : List ℕ) → length file' < 2 ^ 64 → container_answer file' ≡ Ok bytes'
        → fitting_set gs (file', left) ≡ Ok (new, left')
        → GivesOthers sets bytes' (container_answer new))
        → GivesOthers sets bytes (container_answer new)
    by_answer (Err c) is e stay go = by_left (needs_space c) c e stay
    by_answer (Ok file') is e stay go =
        let w = one_kept g file bytes file' short held is in
        on w.kept
        (record {
          faults = w.faults;
          others = kept_wider g sets (fields_of (trace bytes)) (fields_of (trace w.kept)) first
              w.others;
        })
        (container_answer new)
        (go file' w.kept (subst (λ n. n < 2 ^ 64) (sym w.as_long) short) w.held e)

-- all other fields of a file are as they were
pub set_in_place : (fields left left' : List Field) (file bytes new : List ℕ)
    → length file < 2 ^ 64 → container_answer file ≡ Ok bytes
    → fitting_set fields (file, left) ≡ Ok (new, left')
    → GivesOthers fields bytes (container_answer new)
set_in_place fields left left' file bytes new short held e =
    all_kept fields fields left left' file bytes new (λ f n. n) short held e
