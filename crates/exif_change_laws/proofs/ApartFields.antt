-- Where reading looks at no byte as two things, each field stands alone, and so edits of it are not
-- refused as shared.
use Rattle.std.proofs.Common.{◌≡◌, ◌≤◌, ◌<◌, ◌+◌, ◌*◌, ◌==◌, ℕ, Bool, true, false, if◌then◌else◌, List, [], ◌∷◌, length, Option, Some, None, Result, Ok, Err, refl, sym, ap, subst, ◌∙◌, arith, eq-eqb}
use Rattle.std.specs.Prelude.{◌&&◌, ◌||◌, nat_le, nat_lt, not}
use Rattle.std.specs.List.{AllByRecursion, list_any}
use Rattle.std.proofs.lemmas.Bool.Decides.{nat_tests}
use Rattle.std.proofs.lemmas.List.Elements.{All-from_recursion}
use Rattle.exif_base.specs.Bytes.{Reading, number_at}
use Rattle.exif_base.specs.Orders.{number_of}
use Rattle.exif_base.specs.declared.endian.Order.{Order}
use Rattle.exif_text.specs.FieldTypes.{type_of, known_length}
use Rattle.exif_text.specs.declared.ifd.In.{In}
use Rattle.exif_types.specs.declared.tag.Tag.{Tag}
use Rattle.exif_types.specs.declared.value.Value.{Value}
use Rattle.exif_tiff.specs.declared.fault.Fault.{Fault}
use Rattle.exif_tiff.specs.Apart.{are_apart, looks_apart}
use Rattle.exif_tiff.specs.Decode.{decode}
use Rattle.exif_tiff.specs.Footprint.{Stretch, ordered_footprint, value_stretch}
use Rattle.exif_tiff.specs.Trace.{Found, Met, Node, Opens, Visit, entry_value, header, located_of, ordered_trace}
use Rattle.exif_layout.specs.Groups.{Group}
use Rattle.exif_layout.specs.Image.{image}
use Rattle.exif_layout.specs.Ranged.{AreRanged, HavePlainTexts}
use Rattle.exif_layout.specs.Refused.{write_fault}
use Rattle.exif_layout.proofs.Images.Apart.{image_looks_apart}
use Rattle.exif_layout.proofs.Images.ReadBack.{image_header}
use Rattle.exif_edit_base.specs.Locations.{Located, located}
use Rattle.exif_edit_base.specs.Finding.{last_located}
use Rattle.exif_edit_base.specs.declared.patch.Span.{Span}
use Rattle.exif_edit_base.proofs.LocatedEntries.{AreSaid, IsSaid, last_said, ordered_said}
use Rattle.exif_edit_base.specs.Spans.{value_space}
use Rattle.exif_edit.specs.Sharing.{all_beside, changed_entry, overlaps, standing_at, is_unshared}
use Rattle.exif_edit.proofs.GpsUnshared.{gps_unshared}
use Rattle.exif_edit.proofs.Unshared.{last_stands, located_in, set_unshared}
use Rattle.exif_change_laws.specs.Apart.{AreErasedApart, AreErasedInImage, EachStandsAlone, IsSetApart, IsSetInImage, LastStandsAlone, GpsStandsAlone}
use Rattle.exif_change_laws.proofs.ApartCounts.{apart_misses}
use Rattle.exif_change_laws.proofs.ApartEntries.{all_entries, all_looked, entry_apart, neither_any, none_met, nothing_met, once, space_apart, space_beside, times}
use Rattle.exif_change_laws.proofs.ApartLocated.{located_times, one_more}
use Rattle.exif_change_laws.proofs.ApartOffsets.{offsets_apart}

-- of data with a right header, the stretches that are looked at
looked_apart : (bytes : List ℕ) (order : Order) → header bytes ≡ Ok order
    → looks_apart bytes ≡ true → are_apart (all_looked (number_of order) bytes) ≡ true
looked_apart bytes order head apart =
    sym (ap (λ (x : Result Order Fault). are_apart (record { offset = 0; len = 8 }
    ∷ elim x as (λ _. List Stretch) [
      | Ok o ↦ ordered_footprint (number_of o) bytes
      | Err fault ↦ []
    ])) head) ∙ apart

none_of_nothing : (ts : List Stretch) → list_any (overlaps (record { offset = 0; len = 0 })) ts ≡ false
none_of_nothing [] = refl
none_of_nothing (t ∷ ts) = rw (nothing_met t, none_of_nothing ts) refl

module _ (number : Reading) (bytes : List ℕ) (e : ℕ)
    (apart : are_apart (all_looked number bytes) ≡ true)
    (there : 0 < times 1 e (all_entries number bytes)) where
  -- a space that is looked at as nothing else
  record IsFree (space : Span) : Type 0 where
    beside : list_any (overlaps space) (all_beside number bytes e) ≡ false
    entry : overlaps space (record { offset = e; len = 12 }) ≡ false

  nothing_free : IsFree (record { offset = 0; len = 0 })
  nothing_free = record {
    beside = none_of_nothing (all_beside number bytes e);
    entry = nothing_met (record { offset = e; len = 12 });
  }

  outside_free : (space : Span) → 0 < space.len
      → value_stretch number bytes e ≡ record { offset = space.offset; len = space.len } ∷ []
      → IsFree space
  outside_free space some is =
      let stretch : Stretch = record { offset = space.offset; len = space.len } in
      record {
        beside = none_met space (all_beside number bytes e)
            (space_apart number bytes e apart there stretch some is);
        entry = apart_misses space (record { offset = e; len = 12 })
            (space_beside number bytes e apart there stretch some is);
      }

  -- the space of a value that lies in the data
  space_free : (v : Value) → entry_value number bytes e ≡ Some v
      → IsFree (value_space number bytes e)
  space_free v lies =
      by_tests (nat_le size 4) (nat_lt 4 size) (nat_le (offset + size) (length bytes)) refl refl refl
      lies
    where
      type : ℕ
      type = number_at number 2 bytes (e + 2)

      count : ℕ
      count = number_at number 4 bytes (e + 4)

      size : ℕ
      size = known_length (type_of type) * count

      offset : ℕ
      offset = number_at number 4 bytes (e + 8)

      none_some : ◌≡◌ {A = Option Value} None (Some v) → ⊥
      none_some h = cc

      by_tests : (a b c : Bool) → nat_le size 4 ≡ a → nat_lt 4 size ≡ b
          → nat_le (offset + size) (length bytes) ≡ c
          → (if a then Some (decode number type count bytes (e + 8)) else
          (if c then Some (decode number type count bytes offset) else None)) ≡ Some v
          → IsFree (if a then record { offset = 0; len = 0 } else record { offset = offset; len = size })
      by_tests true b c p q r h = nothing_free
      by_tests false false c p q r h = absurd (grind (arith, nat_tests))
      by_tests false true false p q r h = absurd (none_some h)
      by_tests false true true p q r h =
          outside_free (record { offset = offset; len = size }) (grind (arith, nat_tests))
          (rw (q, r) refl)

  abbrev touched : Stretch → Bool
  touched t = overlaps (changed_entry e) t || overlaps (value_space number bytes e) t

  free_alone : IsFree (value_space number bytes e) → length (standing_at e (located bytes)) ≡ 1
      → is_unshared number bytes e ≡ true
  free_alone free one =
      let a = none_met (changed_entry e) (all_beside number bytes e)
      (entry_apart number bytes e apart there) in
      let b = neither_any (overlaps (changed_entry e)) (overlaps (value_space number bytes e))
      (all_beside number bytes e) a free.beside in
      by_parts (list_any touched (all_beside number bytes e))
      (overlaps (value_space number bytes e) (record { offset = e; len = 12 }))
      (length (standing_at e (located bytes))) b free.entry one
    where
      by_parts : (x y : Bool) (n : ℕ) → x ≡ false → y ≡ false → n ≡ 1
          → (not x && (not y && (n == 1))) ≡ true
      by_parts x y n p q r = rw (p, q, r) refl

-- ---- fields

module _ (bytes : List ℕ) (order : Order) (head : header bytes ≡ Ok order)
    (apart : looks_apart bytes ≡ true) where
  -- what its entry says is there
  abbrev Said : Located → Type 0
  Said l = IsSaid (number_of order) bytes l.field l.entry

  -- some field is in its entry
  abbrev Held : Located → Type 0
  Held l = 0 < length (standing_at l.entry (located bytes))

  abbrev Alone : Located → Type 0
  Alone l = is_unshared (number_of order) bytes l.entry ≡ true

  one_alone : (l : Located) → Said l → Held l → Alone l
  one_alone l said some =
      let looked = looked_apart bytes order head apart in
      let most = located_times l.entry (number_of order) bytes in
      let same = ap (λ ls. length (standing_at l.entry ls)) (located_in bytes order head) in
      let few = once (number_of order) bytes l.entry looked in
      let there : 0 < times 1 l.entry (all_entries (number_of order) bytes) = omega arith in
      let one : length (standing_at l.entry (located bytes)) ≡ 1 = omega arith in
      free_alone (number_of order) bytes l.entry looked there
      (space_free (number_of order) bytes l.entry looked there l.field.value said.value) one

  all_said : (nodes : List Node) → AreSaid (number_of order) bytes nodes
      → AllByRecursion Said (located_of nodes)
  all_said [] h = tt
  all_said (Opens d ∷ nodes) h = all_said nodes h
  all_said (Visit ∷ nodes) h = all_said nodes h
  all_said (Found l ∷ nodes) h = (h.0, all_said nodes h.1)
  all_said (Met fault ∷ nodes) h = all_said nodes h

  all_held : (ls : List Located)
      → ((e : ℕ) → length (standing_at e ls) ≤ length (standing_at e (located bytes)))
      → AllByRecursion Held ls
  all_held [] h = tt
  all_held (l ∷ ls) h =
      let itself = eq-eqb l.entry l.entry refl in
      let one = one_more l.entry l ls
      ∙ ap (λ t. (if t then 1 else 0) + length (standing_at l.entry ls)) itself in
      let some = h l.entry in
      (omega arith, all_held ls (λ e. fewer e (h e)))
    where
      fewer : (e : ℕ) → length (standing_at e (l ∷ ls)) ≤ length (standing_at e (located bytes))
          → length (standing_at e ls) ≤ length (standing_at e (located bytes))
      fewer e few = by_number (if l.entry == e then 1 else 0) (one_more e l ls)
        where
          by_number : (n : ℕ) → length (standing_at e (l ∷ ls)) ≡ n + length (standing_at e ls)
              → length (standing_at e ls) ≤ length (standing_at e (located bytes))
          by_number n more = omega arith

  all_alone : (ls : List Located) → AllByRecursion Said ls → AllByRecursion Held ls
      → AllByRecursion Alone ls
  all_alone [] h k = tt
  all_alone (l ∷ ls) h k = (one_alone l h.0 k.0, all_alone ls h.1 k.1)

-- where reading looks at no byte as two things, each field stands alone
pub each_apart : (bytes : List ℕ) → EachStandsAlone bytes
each_apart bytes order head apart =
    let here = located_in bytes order head in
    let nodes = ordered_trace (number_of order) bytes in
    let said = subst (λ ls. AllByRecursion (Said bytes order head apart) ls) (sym here)
    (all_said bytes order head apart nodes (ordered_said (number_of order) bytes)) in
    let held = all_held bytes order head apart (located bytes) (λ e. omega arith) in
    All-from_recursion (Alone bytes order head apart) (located bytes)
    (all_alone bytes order head apart (located bytes) said held)

-- where reading looks at no byte as two things, the last field of a name stands alone
pub last_apart : (tag : Tag) (k : In) (bytes : List ℕ) → LastStandsAlone tag k bytes
last_apart tag k bytes order at head last apart =
    let here = located_in bytes order head in
    let found = subst (λ ls. last_located tag k ls ≡ Some at) here last in
    let said = (last_said (number_of order) bytes tag k at found).0 in
    one_alone bytes order head apart at said (last_stands tag k (located bytes) at last)

-- where reading looks at no byte as two things, GPS directories and values stand alone
pub gps_alone : (bytes : List ℕ) → GpsStandsAlone bytes
gps_alone bytes order head visited apart =
    offsets_apart bytes order head visited (looked_apart bytes order head apart)

-- ---- hence edits are not refused as shared

-- where no byte is looked at as two things, a value that reads back as it was is set if it fits
pub set_apart : (tag : Tag) (k : In) (value : Value) (bytes : List ℕ) → IsSetApart tag k value bytes
set_apart tag k value bytes order at head last apart =
    set_unshared tag k value bytes order at head last
    (last_apart tag k bytes order at head last apart)

-- where reading looks at no byte as two things, the GPS data are erased
pub erased_apart : (bytes : List ℕ) → AreErasedApart bytes
erased_apart bytes order head visited apart =
    gps_unshared bytes order head (gps_alone bytes order head visited apart)

-- in an image that was written, a value that reads back as it was is set if it fits
pub set_in_image : (tag : Tag) (k : In) (value : Value) (order : Order) (groups : List Group)
    → AreRanged groups → HavePlainTexts groups → write_fault groups ≡ None
    → IsSetInImage tag k value order groups
set_in_image tag k value order groups ranged plain written at last =
    set_apart tag k value (image order groups) order at (image_header order groups written) last
    (image_looks_apart order groups ranged plain written)

-- in an image that was written, the GPS data are erased
pub erased_in_image : (order : Order) (groups : List Group)
    → AreRanged groups → HavePlainTexts groups → write_fault groups ≡ None
    → AreErasedInImage order groups
erased_in_image order groups ranged plain written visited =
    erased_apart (image order groups) order (image_header order groups written) visited
    (image_looks_apart order groups ranged plain written)
