-- A shift and its opposite, byte for byte.
use Rattle.std.proofs.Common.{◌≡◌, ◌∙◌, ◌<◌, ◌+◌, ◌^◌, ℕ, false, List, [], ◌∷◌, length, get_or, All, Option, Some, None, Result, Ok, Err, refl, sym, ap, subst, ◌≤◌, map, max}
use Rattle.std.specs.Bool.{⊤}
use Rattle.std.proofs.lemmas.List.{ext_get_or}
use Rattle.exif_base.specs.Orders.{number_of, order_named}
use Rattle.exif_base.specs.declared.endian.Order.{Order}
use Rattle.exif_types.specs.Lookup.{last_named}
use Rattle.exif_types.specs.Refusals.{Refusal}
use Rattle.exif_types.specs.declared.field.Field.{Field}
use Rattle.exif_types.specs.declared.tag.Tag.{Tag}
use Rattle.exif_types.specs.declared.value.Value.{Value}
use Rattle.exif_tiff.specs.Trace.{header}
use Rattle.exif_tiff.specs.Visits.{AreBytes}
use Rattle.exif_layout.specs.Encoding.{encode}
use Rattle.exif_tiff.specs.declared.fault.Fault.{Fault}
use Rattle.exif_tiff.specs.declared.fault.Fault.TheVariants.{TooManyEntries}
use Rattle.exif_isobmff.specs.Extents.{IsWhole, joined_bytes}
use Rattle.exif_isobmff.specs.declared.locations.Extent.{Extent}
use Rattle.exif_containers.specs.Container.{container_answer}
use Rattle.exif_containers.specs.Located.{Located, located_answer}
use Rattle.exif_containers.proofs.Replacing.{data_are_located, refused_alike}
use Rattle.exif_edit_base.specs.Causes as causes
use Rattle.exif_edit_base.specs.Causes.{Cause, no_data, no_field, of_container, of_data, or_cause, wrong_header}
use Rattle.exif_edit_base.specs.Finding.{last_located}
use Rattle.exif_edit_base.specs.Locations as locations
use Rattle.exif_edit_base.specs.Locations.{located}
use Rattle.exif_edit_base.specs.Patches.{inside, patched}
use Rattle.exif_edit_base.specs.Readings.{Read}
use Rattle.exif_edit_base.specs.Spans.{value_space}
use Rattle.exif_edit_base.specs.declared.patch.Patch.{Patch}
use Rattle.exif_edit_base.specs.declared.patch.Span.{Span}
use Rattle.exif_edit_base.proofs.CauseSteps.{bound, data_read, ok_same, option_told, passed}
use Rattle.exif_edit_base.proofs.FindSteps.{field_of, fields_read, header_named}
use Rattle.exif_edit_base.proofs.PatchSteps.{length-patched, patched_outside}
use Rattle.exif_edit.specs.Edits.{edited, reads_past}
use Rattle.exif_edit.specs.Setting.{set_patches}
use Rattle.exif_edit.specs.declared.edits.Edit.{Edit}
use Rattle.exif_edit.specs.declared.edits.Edit.TheVariants.{Set}
use Rattle.exif_edit.proofs.SetSound.{Fits, value_fits, value_misses, was_set}
use Rattle.exif_edit.specs.InFiles.{Avoids, file_patches}
use Rattle.exif_edit.proofs.FilesSound.{file_sound}
use Rattle.exif_datetime.specs.Shift.{moved_value, opposite}
use Rattle.exif_datetime.specs.declared.shift.ClockShift.{ClockShift}
use Rattle.exif_datetime.specs.declared.shift.Unmoved.{Unmoved}
use Rattle.exif_change.specs.Changed.{Change, unmoved, unset, whole}
use Rattle.exif_setting.specs.InPlace.{field_set}
use Rattle.exif_change.specs.Reading.{entry_limit, primary}
use Rattle.exif_setting.specs.Shifting.{date, date_moved, date_set, tag_moved, tags_moved, tags_of}
use Rattle.exif_setting.specs.declared.dates.Dates.{Dates}
use Rattle.exif_change_laws.specs.Positions.{KeepsPositions, Position, StaysPut, extents, position_of}
use Rattle.exif_change_laws.proofs.DatesThemselves.{date_itself, ranges_bytes}
use Rattle.exif_change_laws.proofs.JoinedFiles.{files_same}
use Rattle.exif_change_laws.proofs.MovedFields.{AllMove, BackLast, Moves, ValuesBack, all_back, dates_set, if_moved, moved_option, same_all, value_option}
use Rattle.exif_change_laws.proofs.SetTwice.{set_two}
use Rattle.exif_change_laws.proofs.ValueItself.{Itself}
use Rattle.exif_change_laws.proofs.ShiftedFiles.{WasShifted, all_apart, append_none, bytes_same, holds_one, undone_first, undone_in}

-- ---- one date set at its position

-- the ten bytes of an entry that a value changes
abbrev entry_span : ℕ → Span
entry_span e = record { offset = e + 2; len = 10 }

-- where a date was set, and what was put there
record SetAt (file new : List ℕ) (tag : Tag) (value : Value) : Type 0 where
  bytes : List ℕ
  held : container_answer file ≡ Ok bytes
  at : Position
  placed : position_of tag file ≡ Ok at
  ps : List Patch
  fits : Fits at.order value at.entry bytes ps
  space : value_space (number_of at.order) bytes at.entry ≡ at.space
  held_new : container_answer new ≡ Ok (patched ps bytes)
  outside : (i : ℕ) → All (Avoids i) at.extents → get_or new i 0 ≡ get_or file i 0
  as_long : length new ≡ length file

set_at : (file new : List ℕ) (tag : Tag) (value : Value) → length file < 2 ^ 64 → field_set (date tag value) file ≡ Ok new → SetAt file new tag value
set_at file new tag value short e =
    let edit : Edit = Set tag primary value in
    let b = bound (file_patches entry_limit edit file) (λ ps. Ok (patched ps file)) new e in
    let s = file_sound entry_limit edit file b.0 short b.1 in
    let is : patched b.0 file ≡ new = ok_same (patched b.0 file) new b.2 in
    let p = passed (reads_past entry_limit edit s.at.bytes) (wrong_header TooManyEntries) (λ a. edited edit s.at.bytes) s.new s.edited in
    let q = bound (set_patches s.at.bytes tag primary value) (λ ps. Ok (patched ps s.at.bytes)) s.new p.1 in
    let w = was_set s.at.bytes q.0 tag primary value q.1 in
    let out : patched q.0 s.at.bytes ≡ s.new = ok_same (patched q.0 s.at.bytes) s.new q.2 in
    let order = order_named w.read.little in
    let head : header s.at.bytes ≡ Ok order = header_named s.at.bytes w.read w.reads in
    record {
      bytes = s.at.bytes;
      held = (data_are_located file s.at short s.located).answered;
      at = record { extents = s.at.ranges; order = order; entry = w.at.entry; space = value_space (number_of order) s.at.bytes w.at.entry };
      placed = ap (λ (x : Result Located Refusal). causes.◌>>=◌ (of_container x) (λ at. causes.◌>>=◌ (of_data (header at.bytes)) (λ order. causes.◌>>=◌ (or_cause (last_located tag primary (located at.bytes)) no_field) (λ found.
          Ok (record { extents = at.ranges; order = order; entry = found.entry; space = value_space (number_of order) at.bytes found.entry }))))) s.located
          ∙ (ap (λ (x : Result Order Fault). causes.◌>>=◌ (of_data x) (λ order. causes.◌>>=◌ (or_cause (last_located tag primary (located s.at.bytes)) no_field) (λ found.
          Ok (record { extents = s.at.ranges; order = order; entry = found.entry; space = value_space (number_of order) s.at.bytes found.entry })))) head
          ∙ ap (λ (x : Option locations.Located). causes.◌>>=◌ (or_cause x no_field) (λ found.
          Ok (record { extents = s.at.ranges; order = order; entry = found.entry; space = value_space (number_of order) s.at.bytes found.entry }))) w.last);
      ps = q.0;
      fits = w.fits;
      space = refl;
      held_new = subst (λ (xs : List ℕ). container_answer xs ≡ Ok (patched q.0 s.at.bytes)) is (s.holds ∙ ap (λ (xs : List ℕ). let r : Result (List ℕ) Refusal = Ok xs in r) (sym out));
      outside = λ i a. ap (λ (xs : List ℕ). get_or xs i 0) (sym is) ∙ s.outside i a;
      as_long = ap (λ (xs : List ℕ). length xs) (sym is) ∙ s.as_long;
    }

place_same : (a b : Position) → ◌≡◌ {A = Result Position Cause} (Ok a) (Ok b) → a ≡ b
place_same a b e = cc

-- what a position in a file tells of the data
record PlaceIn (tag : Tag) (file bytes : List ℕ) (p : Position) : Type 0 where
  head : header bytes ≡ Ok p.order
  found : locations.Located
  last : last_located tag primary (located bytes) ≡ Some found
  entry : found.entry ≡ p.entry
  space : value_space (number_of p.order) bytes p.entry ≡ p.space

place_in : (tag : Tag) (file bytes : List ℕ) (p : Position) → length file < 2 ^ 64 → container_answer file ≡ Ok bytes → position_of tag file ≡ Ok p → PlaceIn tag file bytes p
place_in tag file bytes p short held e = by_located (located_answer file) refl e
  where
    err_ok : {X : Type 0} (c : Cause) (x : X) → ◌≡◌ {A = Result X Cause} (Err c) (Ok x) → ⊥
    err_ok c x e = cc

    by_located : (x : Result Located Refusal) → located_answer file ≡ x
        → causes.◌>>=◌ (of_container x) (λ at. causes.◌>>=◌ (of_data (header at.bytes)) (λ order. causes.◌>>=◌ (or_cause (last_located tag primary (located at.bytes)) no_field) (λ found.
        Ok (record { extents = at.ranges; order = order; entry = found.entry; space = value_space (number_of order) at.bytes found.entry })))) ≡ Ok p
        → PlaceIn tag file bytes p
    by_located (Err r) h e = absurd (err_ok (no_data r) p e)
    by_located (Ok at) h e =
        let same : at.bytes ≡ bytes = bytes_same at.bytes bytes (sym (data_are_located file at short h).answered ∙ held) in
        let a = bound (of_data (header at.bytes)) (λ order. causes.◌>>=◌ (or_cause (last_located tag primary (located at.bytes)) no_field) (λ found.
        Ok (record { extents = at.ranges; order = order; entry = found.entry; space = value_space (number_of order) at.bytes found.entry }))) p e in
        let b = bound (or_cause (last_located tag primary (located at.bytes)) no_field) (λ found.
        Ok (record { extents = at.ranges; order = a.0; entry = found.entry; space = value_space (number_of a.0) at.bytes found.entry })) p a.2 in
        let is = place_same (record { extents = at.ranges; order = a.0; entry = b.0.entry; space = value_space (number_of a.0) at.bytes b.0.entry }) p b.2 in
        let order : a.0 ≡ p.order = ap (λ (q : Position). q.order) is in
        let entry : b.0.entry ≡ p.entry = ap (λ (q : Position). q.entry) is in
        let all : PlaceIn tag file at.bytes p = record {
          head = data_read (header at.bytes) a.0 a.1 ∙ ap (λ (o : Order). let r : Result Order Fault = Ok o in r) order;
          found = b.0;
          last = option_told (last_located tag primary (located at.bytes)) no_field b.0 b.1;
          entry = entry;
          space = ap (λ (o : Order). value_space (number_of o) at.bytes p.entry) (sym order)
              ∙ (ap (λ (n : ℕ). value_space (number_of a.0) at.bytes n) (sym entry) ∙ ap (λ (q : Position). q.space) is);
        } in
        subst (λ (xs : List ℕ). PlaceIn tag file xs p) same all

-- a file that has a date has the extents of its position
place_extents : (tag : Tag) (file : List ℕ) (p : Position) (es : List Extent) → position_of tag file ≡ Ok p → extents file ≡ Ok es → p.extents ≡ es
place_extents tag file p es e f = by_located (located_answer file) e f
  where
    err_ok : {X : Type 0} (c : Cause) (x : X) → ◌≡◌ {A = Result X Cause} (Err c) (Ok x) → ⊥
    err_ok c x e = cc

    ok_es : (xs : List Extent) → ◌≡◌ {A = Result (List Extent) Cause} (Ok xs) (Ok es) → xs ≡ es
    ok_es xs e = cc

    by_located : (x : Result Located Refusal)
        → causes.◌>>=◌ (of_container x) (λ at. causes.◌>>=◌ (of_data (header at.bytes)) (λ order. causes.◌>>=◌ (or_cause (last_located tag primary (located at.bytes)) no_field) (λ found.
        Ok (record { extents = at.ranges; order = order; entry = found.entry; space = value_space (number_of order) at.bytes found.entry })))) ≡ Ok p
        → causes.◌>>=◌ (of_container x) (λ at. Ok at.ranges) ≡ Ok es → p.extents ≡ es
    by_located (Err r) e f = absurd (err_ok (no_data r) p e)
    by_located (Ok at) e f =
        let a = bound (of_data (header at.bytes)) (λ order. causes.◌>>=◌ (or_cause (last_located tag primary (located at.bytes)) no_field) (λ found.
        Ok (record { extents = at.ranges; order = order; entry = found.entry; space = value_space (number_of order) at.bytes found.entry }))) p e in
        let b = bound (or_cause (last_located tag primary (located at.bytes)) no_field) (λ found.
        Ok (record { extents = at.ranges; order = a.0; entry = found.entry; space = value_space (number_of a.0) at.bytes found.entry })) p a.2 in
        let same = place_same (record { extents = at.ranges; order = a.0; entry = b.0.entry; space = value_space (number_of a.0) at.bytes b.0.entry }) p b.2 in
        ap (λ (q : Position). q.extents) (sym same) ∙ ok_es at.ranges f

-- ---- bytes that no date has

-- a byte is not one that a value at a position changes
abbrev MissesPlace : ℕ → Result Position Cause → Type 0
MissesPlace i (Ok p) = (inside i (entry_span p.entry) ≡ false) × (inside i p.space ≡ false)
MissesPlace i (Err cause) = ⊤

abbrev MissesIf : ℕ → Option Field → Result Position Cause → Type 0
MissesIf i None r = ⊤
MissesIf i (Some field) r = MissesPlace i r

-- nor one of all dates of a file
abbrev MissesAll : ℕ → List ℕ → List Field → List Tag → Type 0
MissesAll i old fields [] = ⊤
MissesAll i old fields (tag ∷ tags) = MissesIf i (last_named fields tag primary) (position_of tag old) × MissesAll i old fields tags

-- a date fits, moved, where the old file has it
abbrev FitsAt : ClockShift → Option Field → Result Position Cause → Type 0
FitsAt by None r = ⊤
FitsAt by (Some field) r =
    (p : Position) × (r ≡ Ok p) × ((value : Value) × (moved_value by field.value ≡ Ok value) × (length (encode p.order value) ≤ max 4 p.space.len))

abbrev pub FitAll : ClockShift → List ℕ → List Field → List Tag → Type 0
FitAll by old fields [] = ⊤
FitAll by old fields (tag ∷ tags) = FitsAt by (last_named fields tag primary) (position_of tag old) × FitAll by old fields tags

-- a run kept the bytes of the data that no date has, and those outside of the data
pub record Kept (by : ClockShift) (old : List ℕ) (fields : List Field) (tags : List Tag) (es : List Extent) (file final bytes : List ℕ) : Type 0 where
  pub out : List ℕ
  pub held : container_answer final ≡ Ok out
  pub long : length out ≡ length bytes
  pub fit : FitAll by old fields tags
  pub same : (i : ℕ) → MissesAll i old fields tags → get_or out i 0 ≡ get_or bytes i 0
  pub outside : (i : ℕ) → All (Avoids i) es → get_or final i 0 ≡ get_or file i 0
  pub as_long : length final ≡ length file

record KeptOn (by : ClockShift) (old : List ℕ) (fields : List Field) (tag : Tag) (tags : List Tag) (es : List Extent) (file final bytes : List ℕ) (o : Option Field) : Type 0 where
  out : List ℕ
  held : container_answer final ≡ Ok out
  long : length out ≡ length bytes
  fit : FitsAt by o (position_of tag old) × FitAll by old fields tags
  same : (i : ℕ) → MissesIf i o (position_of tag old) × MissesAll i old fields tags → get_or out i 0 ≡ get_or bytes i 0
  outside : (i : ℕ) → All (Avoids i) es → get_or final i 0 ≡ get_or file i 0
  as_long : length final ≡ length file

-- what is made of another file by the dates that follow
abbrev Follows : ClockShift → List Field → List Tag → List ℕ → List Extent → List ℕ → Type 0
Follows by fields tags old es final =
    (other more : List ℕ) → length other < 2 ^ 64 → container_answer other ≡ Ok more → extents old ≡ Ok es
    → StaysPut old by fields tags (whole other) → tags_moved by fields tags (whole other) ≡ whole final → Kept by old fields tags es other final more

pub forth : (by : ClockShift) (fields : List Field) (tags : List Tag) (old file final : List ℕ) (es : List Extent) (bytes : List ℕ) → length file < 2 ^ 64
    → container_answer file ≡ Ok bytes → extents old ≡ Ok es → StaysPut old by fields tags (whole file)
    → tags_moved by fields tags (whole file) ≡ whole final → Kept by old fields tags es file final bytes
forth by fields [] old file final es bytes short held ex stays e =
    let same : file ≡ final = ap (λ (c : Change). c.file) e in
    record {
      out = bytes;
      held = subst (λ (xs : List ℕ). container_answer xs ≡ Ok bytes) same held;
      long = refl;
      fit = tt;
      same = λ i m. refl;
      outside = λ i a. ap (λ (xs : List ℕ). get_or xs i 0) (sym same);
      as_long = ap (λ (xs : List ℕ). length xs) (sym same);
    }
forth by fields (tag ∷ tags) old file final es bytes short held ex stays e =
    let r = by_option (λ other more. forth by fields tags old other final es more) (last_named fields tag primary) stays.1 e in
    record { out = r.out; held = r.held; long = r.long; fit = r.fit; same = r.same; outside = r.outside; as_long = r.as_long }
  where
    here : position_of tag file ≡ position_of tag old
    here = stays.0

    by_set : Follows by fields tags old es final → (field : Field) (value : Value) (r : Result (List ℕ) Cause) → moved_value by field.value ≡ Ok value → field_set (date tag value) file ≡ r
        → StaysPut old by fields tags (date_set tag r (whole file)) → tags_moved by fields tags (date_set tag r (whole file)) ≡ whole final
        → KeptOn by old fields tag tags es file final bytes (Some field)
    by_set follows field value (Err cause) m s stays e =
        absurd (append_none [] (Some (unset tag cause)) (undone_first by fields tags (date_set tag (Err cause) (whole file)) (undone_in _ final e)))
    by_set follows field value (Ok new) m s stays e =
        let i = set_at file new tag value short s in
        let same : i.bytes ≡ bytes = bytes_same i.bytes bytes (sym i.held ∙ held) in
        let small : length new < 2 ^ 64 = subst (λ (n : ℕ). n < 2 ^ 64) (sym i.as_long) short in
        let r = follows new (patched i.ps i.bytes) small i.held_new ex stays e in
        let fit = value_fits i.at.order value i.at.entry i.bytes i.ps i.fits in
        let there : position_of tag old ≡ Ok i.at = sym here ∙ i.placed in
        let range : i.at.extents ≡ es = place_extents tag old i.at es there ex in
        record {
          out = r.out;
          held = r.held;
          long = r.long ∙ (length-patched i.ps i.bytes fit ∙ ap (λ (xs : List ℕ). length xs) same);
          fit = ((i.at, there, (value, m, subst (λ (s : Span). length (encode i.at.order value) ≤ max 4 s.len) i.space i.fits.encoded)), r.fit);
          same = λ k m.
              let away : MissesPlace k (Ok i.at) = subst (MissesPlace k) there m.0 in
              r.same k m.1
              ∙ (patched_outside i.ps i.bytes k fit (value_misses i.at.order value i.at.entry i.bytes i.ps k i.fits away.0 (subst (λ (t : Span). inside k t ≡ false) (sym i.space) away.1))
              ∙ ap (λ (xs : List ℕ). get_or xs k 0) same);
          outside = λ k a. r.outside k a ∙ i.outside k (subst (λ (xs : List Extent). All (Avoids k) xs) (sym range) a);
          as_long = r.as_long ∙ i.as_long;
        }

    by_moved : Follows by fields tags old es final → (field : Field) (r : Result Value Unmoved) → moved_value by field.value ≡ r
        → StaysPut old by fields tags (date_moved tag r (whole file)) → tags_moved by fields tags (date_moved tag r (whole file)) ≡ whole final
        → KeptOn by old fields tag tags es file final bytes (Some field)
    by_moved follows field (Err why) m stays e =
        absurd (append_none [] (Some (unmoved tag why)) (undone_first by fields tags (date_moved tag (Err why) (whole file)) (undone_in _ final e)))
    by_moved follows field (Ok value) m stays e = by_set follows field value (field_set (date tag value) file) m refl stays e

    by_option : Follows by fields tags old es final → (o : Option Field) → StaysPut old by fields tags (tag_moved by tag o (whole file)) → tags_moved by fields tags (tag_moved by tag o (whole file)) ≡ whole final
        → KeptOn by old fields tag tags es file final bytes o
    by_option follows None stays e =
        let r = follows file bytes short held ex stays e in
        record { out = r.out; held = r.held; long = r.long; fit = (tt, r.fit); same = λ k m. r.same k m.1; outside = r.outside; as_long = r.as_long }
    by_option follows (Some field) stays e = by_moved follows field (moved_value by field.value) refl stays e

-- ---- the values that were there, set again

-- a date is moved to the value that one had before, or both have none
abbrev pub SetsBack : ClockShift → Option Field → Option Field → Type 0
SetsBack by None None = ⊤
SetsBack by None (Some g) = ⊥
SetsBack by (Some f) None = ⊥
SetsBack by (Some f) (Some g) = moved_value by g.value ≡ Ok f.value

abbrev pub SetBack : ClockShift → List Field → List Field → List Tag → Type 0
SetBack by before fields [] = ⊤
SetBack by before fields (tag ∷ tags) = SetsBack by (last_named before tag primary) (last_named fields tag primary) × SetBack by before fields tags

-- a date that is set as it was where the old file has it leaves the data as they were
abbrev ItselfAt : List ℕ → Option Field → Result Position Cause → Type 0
ItselfAt bytes None r = ⊤
ItselfAt bytes (Some field) r =
    (p : Position) × (r ≡ Ok p) × (Itself p.order p.entry bytes field.value × (value_space (number_of p.order) bytes p.entry ≡ p.space))

abbrev pub ItselfAll : List ℕ → List ℕ → List Field → List Tag → Type 0
ItselfAll bytes old fields [] = ⊤
ItselfAll bytes old fields (tag ∷ tags) = ItselfAt bytes (last_named fields tag primary) (position_of tag old) × ItselfAll bytes old fields tags

-- the same of all that fit
all_themselves : (by : ClockShift) (old bytes : List ℕ) (fields : List Field) (tags : List Tag) → length old < 2 ^ 64 → container_answer old ≡ Ok bytes → AreBytes bytes
    → map field_of (located bytes) ≡ fields → FitAll by old fields tags → ItselfAll bytes old fields tags
all_themselves by old bytes fields [] short held are all fit = tt
all_themselves by old bytes fields (tag ∷ tags) short held are all fit =
    (by_option (last_named fields tag primary) refl fit.0, all_themselves by old bytes fields tags short held are all fit.1)
  where
    by_option : (o : Option Field) → last_named fields tag primary ≡ o → FitsAt by o (position_of tag old) → ItselfAt bytes o (position_of tag old)
    by_option None h f = tt
    by_option (Some field) h f =
        let p = place_in tag old bytes f.0 short held f.1 in
        let at : value_space (number_of f.0.order) bytes p.found.entry ≡ f.0.space = ap (λ (n : ℕ). value_space (number_of f.0.order) bytes n) p.entry ∙ p.space in
        let i = date_itself by bytes f.0.order tag primary p.found fields field f.2.0 are p.head p.last all h f.2.1
        (subst (λ (s : Span). length (encode f.0.order f.2.0) ≤ max 4 s.len) (sym at) f.2.2) in
        (f.0, f.1, (subst (λ (n : ℕ). Itself f.0.order n bytes field.value) p.entry i, p.space))

-- a run made the data what they were, and kept the bytes outside of them
pub record Returned (old_bytes : List ℕ) (es : List Extent) (file final : List ℕ) : Type 0 where
  pub out : List ℕ
  pub held : container_answer final ≡ Ok out
  pub long : length out ≡ length old_bytes
  pub same : (i : ℕ) → get_or out i 0 ≡ get_or old_bytes i 0
  pub outside : (i : ℕ) → All (Avoids i) es → get_or final i 0 ≡ get_or file i 0
  pub as_long : length final ≡ length file

-- what is made of another file by the dates that follow
abbrev Returns : ClockShift → List Field → List Field → List Tag → List ℕ → List Extent → List ℕ → List ℕ → Type 0
Returns by before fields tags old es old_bytes final =
    (other more : List ℕ) → length old < 2 ^ 64 → length other < 2 ^ 64 → container_answer old ≡ Ok old_bytes → container_answer other ≡ Ok more
    → length more ≡ length old_bytes → extents old ≡ Ok es → StaysPut old by fields tags (whole other) → ItselfAll old_bytes old before tags → SetBack by before fields tags
    → ((i : ℕ) → MissesAll i old before tags → get_or more i 0 ≡ get_or old_bytes i 0)
    → tags_moved by fields tags (whole other) ≡ whole final → Returned old_bytes es other final

pub again : (by : ClockShift) (before fields : List Field) (tags : List Tag) (old file final : List ℕ) (es : List Extent) (old_bytes bytes : List ℕ)
    → length old < 2 ^ 64 → length file < 2 ^ 64 → container_answer old ≡ Ok old_bytes → container_answer file ≡ Ok bytes → length bytes ≡ length old_bytes
    → extents old ≡ Ok es → StaysPut old by fields tags (whole file) → ItselfAll old_bytes old before tags
    → SetBack by before fields tags
    → ((i : ℕ) → MissesAll i old before tags → get_or bytes i 0 ≡ get_or old_bytes i 0)
    → tags_moved by fields tags (whole file) ≡ whole final → Returned old_bytes es file final
again by before fields [] old file final es old_bytes bytes low short was held l ex stays sets back k e =
    let same : file ≡ final = ap (λ (c : Change). c.file) e in
    record {
      out = bytes;
      held = subst (λ (xs : List ℕ). container_answer xs ≡ Ok bytes) same held;
      long = l;
      same = λ i. k i tt;
      outside = λ i a. ap (λ (xs : List ℕ). get_or xs i 0) (sym same);
      as_long = ap (λ (xs : List ℕ). length xs) (sym same);
    }
again by before fields (tag ∷ tags) old file final es old_bytes bytes low short was held l ex stays sets back k e =
    by_options (λ other more. again by before fields tags old other final es old_bytes more) (last_named before tag primary) (last_named fields tag primary) sets.0 back.0 k stays.1 e
  where
    here : position_of tag file ≡ position_of tag old
    here = stays.0

    by_set : Returns by before fields tags old es old_bytes final → (field : Field) (r : Result (List ℕ) Cause) → ItselfAt old_bytes (Some field) (position_of tag old) → field_set (date tag field.value) file ≡ r
        → ((i : ℕ) → MissesPlace i (position_of tag old) × MissesAll i old before tags → get_or bytes i 0 ≡ get_or old_bytes i 0)
        → StaysPut old by fields tags (date_set tag r (whole file)) → tags_moved by fields tags (date_set tag r (whole file)) ≡ whole final
        → Returned old_bytes es file final
    by_set follows field (Err cause) itself s k stays e =
        absurd (append_none [] (Some (unset tag cause)) (undone_first by fields tags (date_set tag (Err cause) (whole file)) (undone_in _ final e)))
    by_set follows field (Ok new) itself s k stays e =
        let i = set_at file new tag field.value short s in
        let same : i.bytes ≡ bytes = bytes_same i.bytes bytes (sym i.held ∙ held) in
        let one : itself.0 ≡ i.at = place_same itself.0 i.at (sym itself.1 ∙ (sym here ∙ i.placed)) in
        let there : position_of tag old ≡ Ok i.at = sym here ∙ i.placed in
        let fits : Fits i.at.order field.value i.at.entry old_bytes itself.2.0.ps = subst (λ (p : Position). Fits p.order field.value p.entry old_bytes itself.2.0.ps) one itself.2.0.fits in
        let space : value_space (number_of i.at.order) old_bytes i.at.entry ≡ i.at.space =
        subst (λ (p : Position). value_space (number_of p.order) old_bytes p.entry ≡ p.space) one itself.2.1 in
        let small : length new < 2 ^ 64 = subst (λ (n : ℕ). n < 2 ^ 64) (sym i.as_long) short in
        let fit = value_fits i.at.order field.value i.at.entry i.bytes i.ps i.fits in
        let long : length (patched i.ps i.bytes) ≡ length old_bytes = length-patched i.ps i.bytes fit ∙ (ap (λ (xs : List ℕ). length xs) same ∙ l) in
        let alike : length i.bytes ≡ length old_bytes = ap (λ (xs : List ℕ). length xs) same ∙ l in
        let range : i.at.extents ≡ es = place_extents tag old i.at es there ex in
        let r = follows new (patched i.ps i.bytes) low small was i.held_new long ex stays sets.1 back.1
        (λ n m. set_two i.at.order field.value i.at.entry i.bytes old_bytes i.ps itself.2.0.ps i.fits fits (space ∙ sym i.space) alike n
        (λ a b. ap (λ (xs : List ℕ). get_or xs n 0) same
        ∙ k n (subst (MissesPlace n) (sym there) (a, subst (λ (t : Span). inside n t ≡ false) i.space b), m))
        ∙ ap (λ (xs : List ℕ). get_or xs n 0) itself.2.0.made) e in
        record {
          out = r.out;
          held = r.held;
          long = r.long;
          same = r.same;
          outside = λ n a. r.outside n a ∙ i.outside n (subst (λ (xs : List Extent). All (Avoids n) xs) (sym range) a);
          as_long = r.as_long ∙ i.as_long;
        }

    by_options : Returns by before fields tags old es old_bytes final → (o p : Option Field) → ItselfAt old_bytes o (position_of tag old) → SetsBack by o p
        → ((i : ℕ) → MissesIf i o (position_of tag old) × MissesAll i old before tags → get_or bytes i 0 ≡ get_or old_bytes i 0)
        → StaysPut old by fields tags (tag_moved by tag p (whole file)) → tags_moved by fields tags (tag_moved by tag p (whole file)) ≡ whole final
        → Returned old_bytes es file final
    by_options follows None None itself b k stays e =
        let r = follows file bytes low short was held l ex stays sets.1 back.1 (λ n m. k n (tt, m)) e in
        record { out = r.out; held = r.held; long = r.long; same = r.same; outside = r.outside; as_long = r.as_long }
    by_options follows None (Some g) itself b k stays e = absurd b
    by_options follows (Some f) None itself b k stays e = absurd b
    by_options follows (Some f) (Some g) itself b k stays e =
        by_set follows f (field_set (date tag f.value) file) itself refl k
        (subst (λ (r : Result Value Unmoved). StaysPut old by fields tags (date_moved tag r (whole file))) b stays)
        (subst (λ (r : Result Value Unmoved). tags_moved by fields tags (date_moved tag r (whole file)) ≡ whole final) b e)

-- ---- the whole

-- what is moved back is the value that was there
one_back : (by : ClockShift) (o p : Option Field) → moved_option by p ≡ value_option o → Moves by p → SetsBack by o p
one_back by None None e m = tt
one_back by None (Some g) e m = some_none (sym (ap if_moved m.1) ∙ e)
  where
    some_none : ◌≡◌ {A = Option Value} (Some m.0) None → ⊥
    some_none e = cc
one_back by (Some f) None e m = none_some e
  where
    none_some : ◌≡◌ {A = Option Value} None (Some f.value) → ⊥
    none_some e = cc
one_back by (Some f) (Some g) e m =
    m.1 ∙ ap (λ (v : Value). let r : Result Value Unmoved = Ok v in r) (some_same (sym (ap if_moved m.1) ∙ e))
  where
    some_same : ◌≡◌ {A = Option Value} (Some m.0) (Some f.value) → m.0 ≡ f.value
    some_same e = cc

set_back : (by : ClockShift) (before fields : List Field) (tags : List Tag) → BackLast by before fields tags → AllMove (opposite by) fields tags
    → SetBack (opposite by) before fields tags
set_back by before fields [] b m = tt
set_back by before fields (tag ∷ tags) b m =
    (one_back (opposite by) (last_named before tag primary) (last_named fields tag primary) b.0 m.0, set_back by before fields tags b.1 m.1)

-- where the Exif data of a file that holds some are
record LocatedIn (file bytes : List ℕ) : Type 0 where
  at : Located
  located : located_answer file ≡ Ok at
  same : at.bytes ≡ bytes

located_in : (file bytes : List ℕ) → length file < 2 ^ 64 → container_answer file ≡ Ok bytes → LocatedIn file bytes
located_in file bytes short held = by_located (located_answer file) refl
  where
    err_ok : (r : Refusal) → ◌≡◌ {A = Result (List ℕ) Refusal} (Err r) (Ok bytes) → ⊥
    err_ok r e = cc

    by_located : (x : Result Located Refusal) → located_answer file ≡ x → LocatedIn file bytes
    by_located (Err r) h = absurd (err_ok r (sym (refused_alike file r h) ∙ held))
    by_located (Ok at) h =
        record { at = at; located = h; same = bytes_same at.bytes bytes (sym (data_are_located file at short h).answered ∙ held) }

extents_in : (file bytes : List ℕ) (l : LocatedIn file bytes) → extents file ≡ Ok l.at.ranges
extents_in file bytes l = ap (λ (x : Result Located Refusal). causes.◌>>=◌ (of_container x) (λ at. Ok at.ranges)) l.located

extents_same : (a b : List Extent) → ◌≡◌ {A = Result (List Extent) Cause} (Ok a) (Ok b) → a ≡ b
extents_same a b e = cc

pub given_back : (by : ClockShift) (which : Dates) (file new back : List ℕ) → ValuesBack by → AreBytes file → length file < 2 ^ 64
    → (s : WasShifted by which file new) → (t : WasShifted (opposite by) which new back) → KeepsPositions by which file new back → back ≡ file
given_back by which file new back law are short s t keeps =
    let tags = tags_of which in
    let fields = s.read.fields in
    let next : Read = record s.read { fields = dates_set by fields tags fields } in
    let read : t.read ≡ next = holds_one new t.read next t.holds s.ran.holds in
    let after : t.read.fields ≡ dates_set by fields tags fields = ap (λ (r : Read). r.fields) read in
    let small : length new < 2 ^ 64 = subst (λ (n : ℕ). n < 2 ^ 64) (sym s.ran.as_long) short in
    let tiny : length back < 2 ^ 64 = subst (λ (n : ℕ). n < 2 ^ 64) (sym t.ran.as_long) small in
    let l = located_in file s.holds.bytes short s.holds.held in
    let ex = extents_in file s.holds.bytes l in
    let data' : AreBytes s.holds.bytes =
    subst AreBytes ((data_are_located file l.at short l.located).joined ∙ l.same) (ranges_bytes file l.at.ranges are) in
    let kept = forth by fields tags file file new l.at.ranges s.holds.bytes short s.holds.held ex
    (subst (λ (fs : List Field). StaysPut file by fs tags (whole file)) s.told keeps.there) s.moves in
    let values : BackLast by fields t.read.fields tags =
    subst (λ (fs : List Field). BackLast by fields fs tags) (sym after) (all_back by fields fields tags law (all_apart which) s.ran.moved (same_all fields tags)) in
    let done = again (opposite by) fields t.read.fields tags file new back l.at.ranges s.holds.bytes kept.out short small s.holds.held kept.held kept.long ex
    (subst (λ (fs : List Field). StaysPut file (opposite by) fs tags (whole new)) t.told keeps.again)
    (all_themselves by file s.holds.bytes fields tags short s.holds.held data' (fields_read s.holds.bytes s.read s.holds.reads) kept.fit)
    (set_back by fields t.read.fields tags values t.ran.moved) kept.same t.moves in
    let same : done.out ≡ s.holds.bytes = ext_get_or 0 done.out s.holds.bytes done.long (λ i h. done.same i) in
    let m = located_in back done.out tiny done.held in
    let ranges : m.at.ranges ≡ l.at.ranges = extents_same m.at.ranges l.at.ranges (sym (extents_in back done.out m) ∙ (keeps.extents ∙ ex)) in
    let x = data_are_located file l.at short l.located in
    let y = data_are_located back m.at tiny m.located in
    let joined : joined_bytes back l.at.ranges ≡ joined_bytes file l.at.ranges =
    ap (λ (es : List Extent). joined_bytes back es) (sym ranges) ∙ (y.joined ∙ (m.same ∙ (same ∙ (sym l.same ∙ sym x.joined)))) in
    files_same back file l.at.ranges (done.as_long ∙ kept.as_long) joined
    (subst (λ (es : List Extent). All (IsWhole back) es) ranges y.whole) x.whole
    (λ i a. done.outside i a ∙ kept.outside i a)
