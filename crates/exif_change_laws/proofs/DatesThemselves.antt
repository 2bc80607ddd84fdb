-- The dates of a file that was shifted, set again as they were.
use Rattle.std.proofs.Common.{◌≡◌, ◌∙◌, ◌<◌, ◌≤◌, ◌+◌, max, ℕ, zero, suc, true, false, Bool, List, [], ◌∷◌, ◌++◌, length, map, take, drop, Option, Some, None, Result, Ok, Err, if◌then◌else◌, refl, sym, ap, subst, arith, length-append, length-drop}
use Rattle.std.specs.List.{flat_map, list_any}
use Rattle.std.proofs.lemmas.List.{get_or-drop, length-take}
use Rattle.exif_base.specs.Bytes.{bytes_at}
use Rattle.exif_base.specs.Orders.{number_of}
use Rattle.exif_base.specs.declared.endian.Order.{Order}
use Rattle.exif_text.specs.declared.ifd.In.{In}
use Rattle.exif_types.specs.Lookup.{is_named, last_named}
use Rattle.exif_types.specs.Texts.{ended}
use Rattle.exif_types.specs.declared.field.Field.{Field}
use Rattle.exif_types.specs.declared.tag.Tag.{Tag}
use Rattle.exif_types.specs.declared.value.Value.{Value}
use Rattle.exif_types.specs.declared.value.Value.TheVariants.{Byte, Ascii, Short, Long, Rational, SByte, Undefined, SShort, SLong, SRational, Float, Double, Unknown}
use Rattle.exif_tiff.specs.Trace.{header}
use Rattle.exif_tiff.specs.Visits.{AreBytes}
use Rattle.exif_isobmff.specs.Extents.{joined_bytes}
use Rattle.exif_isobmff.specs.declared.locations.Extent.{Extent}
use Rattle.exif_layout.specs.Encoding.{encode}
use Rattle.exif_edit_base.specs.Finding.{last_located}
use Rattle.exif_edit_base.specs.Locations.{Located, located}
use Rattle.exif_edit_base.specs.Spans.{value_space}
use Rattle.exif_edit_base.proofs.FindSteps.{any_map, field_of}
use Rattle.exif_edit_base.proofs.LocatedEntries.{last_said}
use Rattle.exif_edit.proofs.SetFound.{from_behind, last_passing}
use Rattle.exif_edit.proofs.Unshared.{located_in}
use Rattle.exif_datetime.specs.Shift.{moved_text, moved_value, with_date}
use Rattle.exif_datetime.specs.declared.shift.ClockShift.{ClockShift}
use Rattle.exif_datetime.specs.declared.shift.Unmoved.{Unmoved}
use Rattle.exif_datetime.specs.declared.shift.Unmoved.TheVariants.{Blank, Invalid}
use Rattle.exif_change_laws.proofs.MovedTexts.{was_moved}
use Rattle.exif_change_laws.proofs.ValueItself.{Itself, itself}

-- ---- bytes

append_bytes : (xs ys : List ℕ) → AreBytes xs → AreBytes ys → AreBytes (xs ++ ys)
append_bytes [] ys h k i = k i
append_bytes (x ∷ xs) ys h k zero = h zero
append_bytes (x ∷ xs) ys h k (suc i) = append_bytes xs ys (λ j. h (suc j)) k i

drop_bytes : (n : ℕ) (xs : List ℕ) → AreBytes xs → AreBytes (drop n xs)
drop_bytes n xs h i = subst (λ (k : ℕ). k < 256) (sym (get_or-drop n xs i 0)) (h (n + i))

take_bytes : (n : ℕ) (xs : List ℕ) → AreBytes xs → AreBytes (take n xs)
take_bytes zero xs h i = omega arith
take_bytes (suc n) [] h i = omega arith
take_bytes (suc n) (x ∷ xs) h zero = h zero
take_bytes (suc n) (x ∷ xs) h (suc i) = take_bytes n xs (λ j. h (suc j)) i

-- the bytes of ranges of a file
pub ranges_bytes : (file : List ℕ) (es : List Extent) → AreBytes file → AreBytes (joined_bytes file es)
ranges_bytes file [] h = λ i. omega arith
ranges_bytes file (e ∷ es) h =
    append_bytes (bytes_at e.len file e.offset) (joined_bytes file es) (take_bytes e.len (drop e.offset file) (drop_bytes e.offset file h)) (ranges_bytes file es h)

-- ---- values that were moved

-- texts that were moved are as long
pub record MovedAlike (v w : Value) : Type 0 where
  pub old : List (List ℕ)
  pub new : List (List ℕ)
  pub was : v ≡ Ascii old
  pub is : w ≡ Ascii new
  pub long : 5 ≤ length (flat_map ended old)
  pub same : length (flat_map ended new) ≡ length (flat_map ended old)

no_value : (f : Unmoved) (w : Value) → ◌≡◌ {A = Result Value Unmoved} (Err f) (Ok w) → ⊥
no_value f w e = cc

text_alike : (by : ClockShift) (first date : List ℕ) → moved_text by first ≡ Ok date → (19 ≤ length first) × (length date ≡ 19)
text_alike by first date h =
    let m = was_moved by first date h in
    let l : length (take 19 first) ≡ 19 = ap (λ (xs : List ℕ). length xs) m.states.begins in
    let k = length-take 19 first in
    (omega (arith, l, k), ap (λ (xs : List ℕ). length xs) (sym m.is))

pub moved_alike : (by : ClockShift) (v w : Value) → moved_value by v ≡ Ok w → MovedAlike v w
moved_alike by (Ascii []) w e = absurd (no_value Blank w e)
moved_alike by (Ascii (first ∷ others)) w e = by_text (moved_text by first) refl e
  where
    ok_value : (v : Value) → ◌≡◌ {A = Result Value Unmoved} (Ok v) (Ok w) → v ≡ w
    ok_value v e = cc

    by_text : (r : Result (List ℕ) Unmoved) → moved_text by first ≡ r
        → ◌≡◌ {A = Result Value Unmoved} (elim r [ Ok date ↦ Ok (with_date date (first ∷ others)) | Err why ↦ Err why ]) (Ok w)
        → MovedAlike (Ascii (first ∷ others)) w
    by_text (Err f) h e = absurd (no_value f w e)
    by_text (Ok date) h e =
        let t = text_alike by first date h in
        let rest = flat_map ended others in
        let a = length-append (ended first) (flat_map ended others) in
        let b = length-append first (0 ∷ []) in
        let c = length-append (ended (date ++ drop 19 first)) (flat_map ended others) in
        let d = length-append (date ++ drop 19 first) (0 ∷ []) in
        let f = length-append date (drop 19 first) in
        let g = length-drop 19 first in
        record {
          old = first ∷ others;
          new = (date ++ drop 19 first) ∷ others;
          was = refl;
          is = sym (ok_value (with_date date (first ∷ others)) e);
          long = omega (arith, t.0, a, b);
          same = omega (arith, t.0, t.1, a, b, c, d, f, g);
        }
moved_alike by (Byte xs) w e = absurd (no_value Invalid w e)
moved_alike by (Short xs) w e = absurd (no_value Invalid w e)
moved_alike by (Long xs) w e = absurd (no_value Invalid w e)
moved_alike by (Rational xs) w e = absurd (no_value Invalid w e)
moved_alike by (SByte xs) w e = absurd (no_value Invalid w e)
moved_alike by (Undefined xs offset) w e = absurd (no_value Invalid w e)
moved_alike by (SShort xs) w e = absurd (no_value Invalid w e)
moved_alike by (SLong xs) w e = absurd (no_value Invalid w e)
moved_alike by (SRational xs) w e = absurd (no_value Invalid w e)
moved_alike by (Float xs) w e = absurd (no_value Invalid w e)
moved_alike by (Double xs) w e = absurd (no_value Invalid w e)
moved_alike by (Unknown type count offset) w e = absurd (no_value Invalid w e)

-- ---- the field that is read is the one that is located

last_field : (tag : Tag) (k : In) (ls : List Located) (l : Located) (f : Field) → last_located tag k ls ≡ Some l
    → last_passing (is_named tag k) (map field_of ls) ≡ Some f → l.field ≡ f
unfolding last_passing
last_field tag k [] l f h e = absurd (none_some h)
  where
    none_some : ◌≡◌ {A = Option Located} None (Some l) → ⊥
    none_some e = cc
last_field tag k (m ∷ ms) l f h e =
    by_tests (list_any (λ (n : Located). is_named tag k n.field) ms) (is_named tag k m.field) refl h e (last_field tag k ms l f)
  where
    none_some : ◌≡◌ {A = Option Located} None (Some l) → ⊥
    none_some e = cc

    one : ◌≡◌ {A = Option Located} (Some m) (Some l) → ◌≡◌ {A = Option Field} (Some m.field) (Some f) → l.field ≡ f
    one h e =
        let x : m ≡ l = cc in
        let y : m.field ≡ f = cc in
        ap (λ (n : Located). n.field) (sym x) ∙ y

    by_tests : (a b : Bool) → list_any (λ (n : Located). is_named tag k n.field) ms ≡ a
        → (if a then last_located tag k ms else (if b then Some m else None)) ≡ Some l
        → (if list_any (is_named tag k) (map field_of ms) then last_passing (is_named tag k) (map field_of ms) else (if b then Some m.field else None)) ≡ Some f
        → (last_located tag k ms ≡ Some l → last_passing (is_named tag k) (map field_of ms) ≡ Some f → l.field ≡ f) → l.field ≡ f
    by_tests true b t h e r =
        let any : list_any (is_named tag k) (map field_of ms) ≡ true = sym (any_map tag k ms) ∙ t in
        r h (subst (λ (c : Bool). (if c then last_passing (is_named tag k) (map field_of ms) else (if b then Some m.field else None)) ≡ Some f) any e)
    by_tests false true t h e r =
        let any : list_any (is_named tag k) (map field_of ms) ≡ false = sym (any_map tag k ms) ∙ t in
        one h (subst (λ (c : Bool). (if c then last_passing (is_named tag k) (map field_of ms) else Some m.field) ≡ Some f) any e)
    by_tests false false t h e r = absurd (none_some h)

-- a date that was moved and fits where it is, set again as it was
pub date_itself : (by : ClockShift) (bytes : List ℕ) (order : Order) (tag : Tag) (k : In) (l : Located) (fields : List Field) (f : Field) (w : Value)
    → AreBytes bytes → header bytes ≡ Ok order → last_located tag k (located bytes) ≡ Some l → map field_of (located bytes) ≡ fields
    → last_named fields tag k ≡ Some f → moved_value by f.value ≡ Ok w
    → length (encode order w) ≤ max 4 (value_space (number_of order) bytes l.entry).len
    → Itself order l.entry bytes f.value
date_itself by bytes order tag k l fields f w are head last all named moves fits =
    let here : last_passing (is_named tag k) (map field_of (located bytes)) ≡ Some f =
    sym (from_behind (is_named tag k) (map field_of (located bytes))) ∙ (ap (λ (fs : List Field). last_named fs tag k) all ∙ named) in
    let same = last_field tag k (located bytes) l f last here in
    let said = (last_said (number_of order) bytes tag k l (subst (λ (ls : List Located). last_located tag k ls ≡ Some l) (located_in bytes order head) last)).0 in
    let m = moved_alike by f.value w moves in
    let value : l.field.value ≡ Ascii m.old = ap (λ (g : Field). g.value) same ∙ m.was in
    let long : length (encode order w) ≡ length (flat_map ended m.old) = ap (λ (v : Value). length (encode order v)) m.is ∙ m.same in
    subst (λ (v : Value). Itself order l.entry bytes v) (sym m.was)
    (itself order bytes l.entry m.old are said.whole m.long (said.value ∙ ap (λ (v : Value). Some v) value)
    (subst (λ (n : ℕ). n ≤ max 4 (value_space (number_of order) bytes l.entry).len) long fits))
