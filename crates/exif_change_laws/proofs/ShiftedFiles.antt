-- Files whose dates were moved.
use Rattle.std.proofs.Common.{◌≡◌, ◌∙◌, ◌<◌, ◌≤◌, ◌^◌, ℕ, true, false, Bool, List, [], ◌∷◌, ◌++◌, length, Option, Some, None, Result, Ok, Err, if◌then◌else◌, refl, sym, ap, subst, arith}
use Rattle.std.specs.Prelude.{nat_lt}
use Rattle.std.proofs.lemmas.Bool.Decides.{nat_tests}
use Rattle.exif_types.specs.Lookup.{last_named}
use Rattle.exif_types.specs.Refusals as types
use Rattle.exif_types.specs.Refusals.{Refusal}
use Rattle.exif_types.specs.declared.field.Field.{Field}
use Rattle.exif_types.specs.declared.tag.Tag.{Tag}
use Rattle.exif_types.specs.declared.value.Value.{Value}
use Rattle.exif_types.specs.declared.value.Value.TheVariants.{Byte, Ascii, Short, Long, Rational, SByte, Undefined, SShort, SLong, SRational, Float, Double, Unknown}
use Rattle.exif_tiff.specs.Answers.{Answer, raw_answer, shown}
use Rattle.exif_tiff.specs.Faults.{refusal}
use Rattle.exif_tiff.specs.Limits.{AnswersWithin}
use Rattle.exif_tiff.specs.Trace.{header, trace, visits_of}
use Rattle.exif_tiff.specs.declared.fault.Fault.{Fault}
use Rattle.exif_tiff.specs.declared.fault.Fault.TheVariants.{TooManyEntries}
use Rattle.exif_base.specs.declared.endian.Order.{Order}
use Rattle.exif_layout.specs.Encoding.{moved_to}
use Rattle.exif_containers.specs.Container.{container_answer}
use Rattle.exif_containers.proofs.Replacing.{data_are_located}
use Rattle.exif_edit_base.specs.Causes.{Cause, wrong_header}
use Rattle.exif_edit_base.specs.Finding.{replaced}
use Rattle.exif_edit_base.specs.Patches.{patched}
use Rattle.exif_edit_base.specs.Readings.{Read, reading}
use Rattle.exif_edit_base.proofs.CauseSteps.{bound, ok_same, passed}
use Rattle.exif_edit.specs.Edits.{edited, reads_past}
use Rattle.exif_edit.specs.Setting.{expected, set_patches}
use Rattle.exif_edit.specs.declared.edits.Edit.{Edit}
use Rattle.exif_edit.specs.declared.edits.Edit.TheVariants.{Set}
use Rattle.exif_edit.proofs.ReadSound.{reads_are}
use Rattle.exif_edit.proofs.SetSound.{was_set}
use Rattle.exif_edit.specs.InFiles.{file_patches}
use Rattle.exif_edit.proofs.FilesSound.{file_sound}
use Rattle.exif_datetime.specs.Shift.{moved_text, moved_value, opposite, with_date}
use Rattle.exif_datetime.specs.declared.shift.ClockShift.{ClockShift}
use Rattle.exif_datetime.specs.declared.shift.Unmoved.{Unmoved}
use Rattle.exif_datetime.specs.declared.shift.Unmoved.TheVariants.{Blank, Invalid}
use Rattle.exif_change.specs.Changed.{Change, Undone, unmoved, unset, whole}
use Rattle.exif_setting.specs.InPlace.{field_set}
use Rattle.exif_change.specs.Reading.{Contents, data_contents, entry_limit, fields_in, without_fault, primary}
use Rattle.exif_change.specs.Refusals.{Reason, as_read, no_date, reading as refused, ◌>>=◌}
use Rattle.exif_setting.specs.Shifting.{date, date_moved, date_set, dates_moved, has_dates, shifted, tag_moved, tags_moved, tags_of}
use Rattle.exif_setting.specs.declared.dates.Dates.{Dates}
use Rattle.exif_setting.specs.declared.dates.Dates.TheVariants as dates
use Rattle.exif_change_laws.specs.Positions.{fields_of_file}
use Rattle.exif_change_laws.specs.Shifted.{all_read}
use Rattle.exif_change_laws.proofs.MovedFields.{AllApart, AllMove, Moves, ValuesBack, dates_set, fields_back, if_moved, moved_option, set_or}
use Rattle.exif_change_laws.proofs.SetFields.{tags_apart}

-- ---- one date set in a file

-- what was set, and in what
pub record SetIn (file new : List ℕ) (tag : Tag) (value : Value) : Type 0 where
  pub old : List ℕ
  pub held : container_answer file ≡ Ok old
  pub few : visits_of (trace old) ≤ 1000000
  pub read : Read
  pub reads : reading old ≡ Ok read
  pub out : List ℕ
  pub held_new : container_answer new ≡ Ok out
  pub offset : ℕ
  pub reads_new : reading out ≡ Ok (record read { fields = replaced tag primary (moved_to offset value) read.fields })
  pub as_long : length new ≡ length file

pub set_in : (file new : List ℕ) (tag : Tag) (value : Value) → length file < 2 ^ 64 → field_set (date tag value) file ≡ Ok new → SetIn file new tag value
set_in file new tag value short e =
    let edit : Edit = Set tag primary value in
    let b = bound (file_patches entry_limit edit file) (λ ps. Ok (patched ps file)) new e in
    let s = file_sound entry_limit edit file b.0 short b.1 in
    let is : patched b.0 file ≡ new = ok_same (patched b.0 file) new b.2 in
    let p = passed (reads_past entry_limit edit s.at.bytes) (wrong_header TooManyEntries) (λ a. edited edit s.at.bytes) s.new s.edited in
    let q = bound (set_patches s.at.bytes tag primary value) (λ ps. Ok (patched ps s.at.bytes)) s.new p.1 in
    let w = was_set s.at.bytes q.0 tag primary value q.1 in
    let out : patched q.0 s.at.bytes ≡ s.new = ok_same (patched q.0 s.at.bytes) s.new q.2 in
    let test : nat_lt 1000000 (visits_of (trace s.at.bytes)) ≡ false = p.0 in
    record {
      old = s.at.bytes;
      held = (data_are_located file s.at short s.located).answered;
      few = grind (arith, nat_tests, test);
      read = w.read;
      reads = w.reads;
      out = s.new;
      held_new = subst (λ (xs : List ℕ). container_answer xs ≡ Ok s.new) is s.holds;
      offset = _;
      reads_new = subst (λ (xs : List ℕ). reading xs ≡ Ok (expected tag primary value w.at.entry s.at.bytes w.read)) out w.reads_new;
      as_long = ap (λ (xs : List ℕ). length xs) (sym is) ∙ s.as_long;
    }

-- ---- a value that was moved is of texts

no_value : (f : Unmoved) (w : Value) → ◌≡◌ {A = Result Value Unmoved} (Err f) (Ok w) → ⊥
no_value f w e = cc

moved_stays : (by : ClockShift) (v w : Value) → moved_value by v ≡ Ok w → (offset : ℕ) → moved_to offset w ≡ w
moved_stays by (Ascii []) w e offset = absurd (no_value Blank w e)
moved_stays by (Ascii (first ∷ others)) w e offset = by_text (moved_text by first) e
  where
    ok_value : (v : Value) → ◌≡◌ {A = Result Value Unmoved} (Ok v) (Ok w) → v ≡ w
    ok_value v e = cc

    by_text : (r : Result (List ℕ) Unmoved) → ◌≡◌ {A = Result Value Unmoved} (elim r [ Ok date ↦ Ok (with_date date (first ∷ others)) | Err why ↦ Err why ]) (Ok w)
        → moved_to offset w ≡ w
    by_text (Err f) e = absurd (no_value f w e)
    by_text (Ok date) e = subst (λ (v : Value). moved_to offset v ≡ v) (ok_value (with_date date (first ∷ others)) e) refl
moved_stays by (Byte xs) w e offset = absurd (no_value Invalid w e)
moved_stays by (Short xs) w e offset = absurd (no_value Invalid w e)
moved_stays by (Long xs) w e offset = absurd (no_value Invalid w e)
moved_stays by (Rational xs) w e offset = absurd (no_value Invalid w e)
moved_stays by (SByte xs) w e offset = absurd (no_value Invalid w e)
moved_stays by (Undefined xs old) w e offset = absurd (no_value Invalid w e)
moved_stays by (SShort xs) w e offset = absurd (no_value Invalid w e)
moved_stays by (SLong xs) w e offset = absurd (no_value Invalid w e)
moved_stays by (SRational xs) w e offset = absurd (no_value Invalid w e)
moved_stays by (Float xs) w e offset = absurd (no_value Invalid w e)
moved_stays by (Double xs) w e offset = absurd (no_value Invalid w e)
moved_stays by (Unknown type count old) w e offset = absurd (no_value Invalid w e)

-- ---- what a file holds

-- a file holds data that are read so
pub record Holds (file : List ℕ) (read : Read) : Type 0 where
  pub bytes : List ℕ
  pub held : container_answer file ≡ Ok bytes
  pub reads : reading bytes ≡ Ok read

pub bytes_same : (a b : List ℕ) → ◌≡◌ {A = Result (List ℕ) Refusal} (Ok a) (Ok b) → a ≡ b
bytes_same a b e = cc

read_same : (a b : Read) → ◌≡◌ {A = Result Read Fault} (Ok a) (Ok b) → a ≡ b
read_same a b e = cc

-- it is read in one way
pub holds_one : (file : List ℕ) (a b : Read) → Holds file a → Holds file b → a ≡ b
holds_one file a b h k =
    let same = bytes_same h.bytes k.bytes (sym h.held ∙ k.held) in
    read_same a b (sym h.reads ∙ (ap reading same ∙ k.reads))

-- ---- all dates, one after the other

pub append_none : (xs : List (Option Undone)) (x : Option Undone) → xs ++ x ∷ [] ≡ [] → ⊥
append_none [] x e = cc
append_none (y ∷ ys) x e = cc

-- what was left undone stays so
tag_first : (by : ClockShift) (tag : Tag) (o : Option Field) (change : Change) → (tag_moved by tag o change).undone ≡ [] → change.undone ≡ []
tag_first by tag None change e = e
tag_first by tag (Some field) change e = by_moved (moved_value by field.value) e
  where
    by_set : (r : Result (List ℕ) Cause) → (date_set tag r change).undone ≡ [] → change.undone ≡ []
    by_set (Ok new) e = e
    by_set (Err cause) e = absurd (append_none change.undone (Some (unset tag cause)) e)

    by_moved : (r : Result Value Unmoved) → (date_moved tag r change).undone ≡ [] → change.undone ≡ []
    by_moved (Ok value) e = by_set (field_set (date tag value) change.file) e
    by_moved (Err why) e = absurd (append_none change.undone (Some (unmoved tag why)) e)

pub undone_first : (by : ClockShift) (fields : List Field) (tags : List Tag) (change : Change) → (tags_moved by fields tags change).undone ≡ [] → change.undone ≡ []
undone_first by fields [] change e = e
undone_first by fields (tag ∷ tags) change e =
    tag_first by tag (last_named fields tag primary) change
    (undone_first by fields tags (tag_moved by tag (last_named fields tag primary) change) e)

pub undone_in : (change : Change) (final : List ℕ) → change ≡ whole final → change.undone ≡ []
undone_in change final e = ap (λ (c : Change). c.undone) e

-- what a run of dates made of a file
pub record Ran (by : ClockShift) (fields : List Field) (tags : List Tag) (file final : List ℕ) (read : Read) : Type 0 where
  pub holds : Holds final (record read { fields = dates_set by fields tags read.fields })
  pub as_long : length final ≡ length file
  pub moved : AllMove by fields tags

-- the same, by what one date is
record RanOn (by : ClockShift) (fields : List Field) (tag : Tag) (tags : List Tag) (file final : List ℕ) (read : Read) (value : Option Value) : Type 0 where
  holds : Holds final (record read { fields = dates_set by fields tags (set_or tag value read.fields) })
  as_long : length final ≡ length file
  moved : AllMove by fields tags

-- what is made of another file by the dates that follow
abbrev Follows : ClockShift → List Field → List Tag → List ℕ → Type 0
Follows by fields tags final =
    (other : List ℕ) (more : Read) → length other < 2 ^ 64 → Holds other more → tags_moved by fields tags (whole other) ≡ whole final
    → Ran by fields tags other final more

pub run : (by : ClockShift) (fields : List Field) (tags : List Tag) (file final : List ℕ) (read : Read) → length file < 2 ^ 64 → Holds file read
    → tags_moved by fields tags (whole file) ≡ whole final → Ran by fields tags file final read
run by fields [] file final read short h e =
    let same : file ≡ final = ap (λ (c : Change). c.file) e in
    record { holds = subst (λ (xs : List ℕ). Holds xs read) same h; as_long = ap (λ (xs : List ℕ). length xs) (sym same); moved = tt }
run by fields (tag ∷ tags) file final read short h e =
    let r = by_option (λ other more. run by fields tags other final more) (last_named fields tag primary) e in
    record { holds = r.0.holds; as_long = r.0.as_long; moved = (r.1, r.0.moved) }
  where
    by_set : Follows by fields tags final → (value : Value) (r : Result (List ℕ) Cause) → ((offset : ℕ) → moved_to offset value ≡ value) → field_set (date tag value) file ≡ r
        → tags_moved by fields tags (date_set tag r (whole file)) ≡ whole final → RanOn by fields tag tags file final read (Some value)
    by_set follows value (Err cause) stays s e =
        absurd (append_none [] (Some (unset tag cause)) (undone_first by fields tags (date_set tag (Err cause) (whole file)) (undone_in _ final e)))
    by_set follows value (Ok new) stays s e =
        let i = set_in file new tag value short s in
        let same : i.read ≡ read = holds_one file i.read read (record { bytes = i.old; held = i.held; reads = i.reads }) h in
        let next : Holds new (record read { fields = replaced tag primary value read.fields }) =
        record {
          bytes = i.out;
          held = i.held_new;
          reads = i.reads_new ∙ (ap (λ (v : Value). let x : Result Read Fault = Ok (record i.read { fields = replaced tag primary v i.read.fields }) in x) (stays i.offset)
              ∙ ap (λ (m : Read). let x : Result Read Fault = Ok (record m { fields = replaced tag primary value m.fields }) in x) same);
        } in
        let small : length new < 2 ^ 64 = subst (λ (n : ℕ). n < 2 ^ 64) (sym i.as_long) short in
        let r = follows new (record read { fields = replaced tag primary value read.fields }) small next e in
        record { holds = r.holds; as_long = r.as_long ∙ i.as_long; moved = r.moved }

    by_moved : Follows by fields tags final → (field : Field) (r : Result Value Unmoved) → moved_value by field.value ≡ r
        → tags_moved by fields tags (date_moved tag r (whole file)) ≡ whole final
        → RanOn by fields tag tags file final read (if_moved r) × ((value : Value) × (moved_value by field.value ≡ Ok value))
    by_moved follows field (Err why) m e =
        absurd (append_none [] (Some (unmoved tag why)) (undone_first by fields tags (date_moved tag (Err why) (whole file)) (undone_in _ final e)))
    by_moved follows field (Ok value) m e =
        (by_set follows value (field_set (date tag value) file) (moved_stays by field.value value m) refl e, (value, m))

    by_option : Follows by fields tags final → (o : Option Field) → tags_moved by fields tags (tag_moved by tag o (whole file)) ≡ whole final
        → RanOn by fields tag tags file final read (moved_option by o) × Moves by o
    by_option follows None e =
        let r = follows file read short h e in
        (record { holds = r.holds; as_long = r.as_long; moved = r.moved }, tt)
    by_option follows (Some field) e = by_moved follows field (moved_value by field.value) refl e

-- ---- what was read before

-- data that were read, of few entries
record FewRead (bytes : List ℕ) : Type 0 where
  read : Read
  reads : reading bytes ≡ Ok read
  few : visits_of (trace bytes) ≤ 1000000

-- where there is a date, the data have few entries
first_read : (by : ClockShift) (fields : List Field) (tags : List Tag) (file final bytes : List ℕ) → length file < 2 ^ 64 → container_answer file ≡ Ok bytes
    → has_dates fields tags ≡ true → tags_moved by fields tags (whole file) ≡ whole final → FewRead bytes
first_read by fields [] file final bytes short held some e = absurd (false_true some)
  where
    false_true : ◌≡◌ {A = Bool} false true → ⊥
    false_true e = cc
first_read by fields (tag ∷ tags) file final bytes short held some e =
    by_option (first_read by fields tags file final bytes short held) (last_named fields tag primary) some e
  where
    by_set : (value : Value) (r : Result (List ℕ) Cause) → field_set (date tag value) file ≡ r
        → tags_moved by fields tags (date_set tag r (whole file)) ≡ whole final → FewRead bytes
    by_set value (Err cause) s e =
        absurd (append_none [] (Some (unset tag cause)) (undone_first by fields tags (date_set tag (Err cause) (whole file)) (undone_in _ final e)))
    by_set value (Ok new) s e =
        let i = set_in file new tag value short s in
        let same = bytes_same i.old bytes (sym i.held ∙ held) in
        subst FewRead same (record { read = i.read; reads = i.reads; few = i.few })

    by_moved : (r : Result Value Unmoved) → tags_moved by fields tags (date_moved tag r (whole file)) ≡ whole final → FewRead bytes
    by_moved (Err why) e =
        absurd (append_none [] (Some (unmoved tag why)) (undone_first by fields tags (date_moved tag (Err why) (whole file)) (undone_in _ final e)))
    by_moved (Ok value) e = by_set value (field_set (date tag value) file) refl e

    by_option : (has_dates fields tags ≡ true → tags_moved by fields tags (whole file) ≡ whole final → FewRead bytes) → (o : Option Field)
        → (if (elim o as (λ _. Bool) [ Some field ↦ true | None ↦ false ]) then true else has_dates fields tags) ≡ true
        → tags_moved by fields tags (tag_moved by tag o (whole file)) ≡ whole final → FewRead bytes
    by_option follows None some e = follows some e
    by_option follows (Some field) some e = by_moved (moved_value by field.value) e

pub shown_in : (fields : List Field) (faults : List Fault) → fields_in (shown fields faults) ≡ Ok fields
shown_in fields [] = refl
shown_in fields (fault ∷ faults) = refl

pub fields_same : (a b : List Field) → ◌≡◌ {A = Result (List Field) Refusal} (Ok a) (Ok b) → a ≡ b
fields_same a b e = cc

-- the fields that are read before a change
pub contents_are : (bytes : List ℕ) (contents : Contents) → data_contents bytes ≡ Ok contents → fields_in (raw_answer true entry_limit bytes) ≡ Ok contents.fields
unfolding data_contents
contents_are bytes contents e = by_fields (fields_in (raw_answer true entry_limit bytes)) (without_fault (header bytes)) e
  where
    by_fields : (x : Result (List Field) Refusal) (y : Result Order Refusal)
        → types.◌>>=◌ x (λ fs. types.◌>>=◌ y (λ order. Ok (record { bytes = bytes; order = order; fields = fs }))) ≡ Ok contents → x ≡ Ok contents.fields
    by_fields (Err r) y e = absurd (err_ok r e)
      where
        err_ok : (r : Refusal) → ◌≡◌ {A = Result Contents Refusal} (Err r) (Ok contents) → ⊥
        err_ok r e = cc
    by_fields (Ok fs) (Err r) e = absurd (err_ok r e)
      where
        err_ok : (r : Refusal) → ◌≡◌ {A = Result Contents Refusal} (Err r) (Ok contents) → ⊥
        err_ok r e = cc
    by_fields (Ok fs) (Ok order) e =
        let of : Result Contents Refusal → List Field = λ x. elim x [ Ok c ↦ c.fields | Err r ↦ contents.fields ] in
        ap (λ (xs : List Field). let r : Result (List Field) Refusal = Ok xs in r) (ap of e)

-- ---- a shift of a file

-- what a shift that left nothing undone did
pub record WasShifted (by : ClockShift) (which : Dates) (file new : List ℕ) : Type 0 where
  pub read : Read
  pub holds : Holds file read
  pub told : fields_of_file file ≡ read.fields
  pub moves : tags_moved by read.fields (tags_of which) (whole file) ≡ whole new
  pub ran : Ran by read.fields (tags_of which) file new read

contents_shifted : (by : ClockShift) (which : Dates) (file new bytes : List ℕ) (contents : Contents) → AnswersWithin 1000000 bytes → length file < 2 ^ 64
    → container_answer file ≡ Ok bytes → data_contents bytes ≡ Ok contents
    → dates_moved by which contents.fields file ≡ Ok (whole new) → WasShifted by which file new
contents_shifted by which file new bytes contents within short held read e = by_dates (has_dates contents.fields (tags_of which)) refl e
  where
    err_ok : (why : Reason) → ◌≡◌ {A = Result Change Reason} (Err why) (Ok (whole new)) → ⊥
    err_ok why e = cc

    by_dates : (b : Bool) → has_dates contents.fields (tags_of which) ≡ b
        → ◌≡◌ {A = Result Change Reason} (if b then Ok (tags_moved by contents.fields (tags_of which) (whole file)) else Err no_date) (Ok (whole new)) → WasShifted by which file new
    by_dates false d e = absurd (err_ok no_date e)
    by_dates true d e =
        let of : Result Change Reason → Change = λ x. elim x [ Ok change ↦ change | Err why ↦ whole new ] in
        let moved : tags_moved by contents.fields (tags_of which) (whole file) ≡ whole new = ap of e in
        let first = first_read by contents.fields (tags_of which) file new bytes short held d moved in
        let are = reads_are bytes first.read first.reads in
        let all : raw_answer true (Some 1000000) bytes ≡ shown first.read.fields first.read.faults = within true first.few ∙ are.0 true in
        let fields : contents.fields ≡ first.read.fields =
        fields_same contents.fields first.read.fields (sym (contents_are bytes contents read) ∙ (ap fields_in all ∙ shown_in first.read.fields first.read.faults)) in
        let h : Holds file first.read = record { bytes = bytes; held = held; reads = first.reads } in
        let here : tags_moved by first.read.fields (tags_of which) (whole file) ≡ whole new =
        subst (λ (fs : List Field). tags_moved by fs (tags_of which) (whole file) ≡ whole new) fields moved in
        record {
          read = first.read;
          holds = h;
          told = ap (λ (r : Result (List ℕ) Refusal). elim (types.◌>>=◌ r data_contents) as (λ _. List Field) [ Ok c ↦ c.fields | Err refusal ↦ [] ]) held
              ∙ (ap (λ (r : Result Contents Refusal). elim r as (λ _. List Field) [ Ok c ↦ c.fields | Err refusal ↦ [] ]) read ∙ fields);
          moves = here;
          ran = run by first.read.fields (tags_of which) file new first.read short h here;
        }

pub was_shifted : (by : ClockShift) (which : Dates) (file new : List ℕ) → ((bytes : List ℕ) → AnswersWithin 1000000 bytes) → length file < 2 ^ 64
    → shifted by which file ≡ Ok (whole new) → WasShifted by which file new
was_shifted by which file new within short e = by_container (container_answer file) refl e
  where
    err_ok : (why : Reason) → ◌≡◌ {A = Result Change Reason} (Err why) (Ok (whole new)) → ⊥
    err_ok why e = cc

    by_contents : (bytes : List ℕ) (r : Result Contents Refusal) → container_answer file ≡ Ok bytes → data_contents bytes ≡ r
        → as_read r >>= (λ contents. dates_moved by which contents.fields file) ≡ Ok (whole new) → WasShifted by which file new
    by_contents bytes (Err r) held read e = absurd (err_ok (refused r) e)
    by_contents bytes (Ok contents) held read e = contents_shifted by which file new bytes contents (within bytes) short held read e

    by_container : (r : Result (List ℕ) Refusal) → container_answer file ≡ r
        → as_read (types.◌>>=◌ r data_contents) >>= (λ contents. dates_moved by which contents.fields file) ≡ Ok (whole new) → WasShifted by which file new
    by_container (Err r) held e = absurd (err_ok (refused r) e)
    by_container (Ok bytes) held e = by_contents bytes (data_contents bytes) held refl e

-- ---- there and back

pub all_apart : (which : Dates) → AllApart (tags_of which)
all_apart dates.All = (
  ((tags_apart _ _ primary refl, tags_apart _ _ primary refl), ((tags_apart _ _ primary refl, tags_apart _ _ primary refl), tt)),
  (((tags_apart _ _ primary refl, tags_apart _ _ primary refl), tt), (tt, tt)),
)
all_apart dates.Exif = (((tags_apart _ _ primary refl, tags_apart _ _ primary refl), tt), (tt, tt))

-- the file holds what the old one held
pub held_again : (by : ClockShift) (which : Dates) (file new back : List ℕ) → ValuesBack by → (there : WasShifted by which file new) → WasShifted (opposite by) which new back
    → Holds back there.read
held_again by which file new back law there again =
    let tags = tags_of which in
    let fields = there.read.fields in
    let moved : Read = record there.read { fields = dates_set by fields tags fields } in
    let same : again.read ≡ moved = holds_one new again.read moved again.holds there.ran.holds in
    let all = subst (λ (r : Read). Holds back (record r { fields = dates_set (opposite by) r.fields tags r.fields })) same again.ran.holds in
    subst (λ (fs : List Field). Holds back (record there.read { fields = fs })) (fields_back by fields tags law (all_apart which) there.ran.moved) all

-- so all that is read is the same
pub read_again : (file back : List ℕ) (read : Read) (lenient : Bool) → Holds file read → Holds back read → all_read lenient back ≡ all_read lenient file
read_again file back read lenient h k =
    let x = (reads_are h.bytes read h.reads).0 lenient in
    let y = (reads_are k.bytes read k.reads).0 lenient in
    ap (λ (r : Result (List ℕ) Refusal). types.◌>>=◌ r (λ bytes. Ok (raw_answer lenient None bytes))) k.held
    ∙ (ap (λ (a : Answer). let r : Result Answer Refusal = Ok a in r) (y ∙ sym x)
    ∙ sym (ap (λ (r : Result (List ℕ) Refusal). types.◌>>=◌ r (λ bytes. Ok (raw_answer lenient None bytes))) h.held))
