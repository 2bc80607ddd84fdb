-- What is read of data without their locations.
use Rattle.std.proofs.Common.{◌≡◌, ◌≤◌, ◌∙◌, ℕ, Bool, true, false, if◌then◌else◌, not, List, [], ◌∷◌, ◌++◌, length, map, Option, None, Some, Result, Ok, Err, refl, sym, ap, subst, arith}
use Rattle.std.specs.List.{AllZip}
use Rattle.std.specs.Str.{bytes_eq}
use Rattle.exif_base.specs.Bytes.{Reading}
use Rattle.exif_base.specs.Orders.{number_of, order_named}
use Rattle.exif_tiff.specs.declared.fault.Fault.{Fault}
use Rattle.exif_tiff.specs.declared.offset.EntryOffset.{EntryOffset}
use Rattle.exif_types.specs.declared.field.Field.{Field}
use Rattle.exif_types.specs.declared.value.Value.{Value}
use Rattle.exif_edit_base.specs.Causes.{Cause}
use Rattle.exif_edit_base.specs.EntryLimit.{within_limit}
use Rattle.exif_edit_base.specs.Locations.{located}
use Rattle.exif_edit_base.specs.Patches.{patched}
use Rattle.exif_edit_base.specs.Readings.{Read, reading, reads_as}
use Rattle.exif_edit_base.specs.Walked.{entry_of}
use Rattle.exif_edit_base.specs.declared.patch.Span.{Span}
use Rattle.exif_edit_base.proofs.CauseSteps.{bound, ok_same}
use Rattle.exif_edit.specs.Edits.{allowed, edited, limited_edit}
use Rattle.exif_edit.specs.Erasing.{erase_patches, without_gps}
use Rattle.exif_edit.specs.declared.edits.Edit.TheVariants.{EraseGps}
use Rattle.exif_edit.proofs.EraseSound.{was_erased}
use Rattle.exif_edit.proofs.ReadSound.{reads_so}
use Rattle.exif_locations.specs.declared.unread.Unread.{Unread}
use Rattle.exif_data_locations.specs.Erasing.{checked, entry_limit, fields_erased, gps_erased, gps_refused, is_followed, noted_if, read_erased}
use Rattle.exif_data_locations.specs.FieldRegions.{held_in}
use Rattle.exif_data_locations.specs.Locations.{data_erased}
use Rattle.exif_data_locations.specs.Promises.{IsKept, ReadsAlike, gps_left, left_within}
use Rattle.exif_data_locations.specs.Regions.{regions_erased}
use Rattle.exif_data_locations.specs.Thumbnails.{if_same, read_thumbnail_erased, span_erased, stretch_erased, thumbnail_erased, thumbnail_span}
use Rattle.exif_data_locations.specs.Wanted.{held_field, new_value, wanted, wanted_fields, with_new}
use Rattle.exif_data_locations.specs.declared.field.Holds.{Holds}
use Rattle.exif_data_locations.specs.declared.region.Region.{Region}
use Rattle.exif_data_locations.specs.declared.reason.Reason.{Reason}
use Rattle.exif_data_locations.specs.declared.reason.Reason.TheVariants.{GpsNotFollowed, NotChanged, Shared, Thumbnail}

-- ---- fields

itself : (f : Field) → IsKept f f
itself f = (refl, refl, λ h. refl)

all_themselves : (fields : List Field) → AllZip IsKept fields fields
all_themselves [] = tt
all_themselves (f ∷ fields) = (itself f, all_themselves fields)

with_kept : (holds : Holds) (value : Option Value) (f : Field) → held_in f.tag ≡ Some holds → IsKept f (with_new value f)
with_kept holds None f h = itself f
with_kept holds (Some value) f h = (refl, refl, λ none. absurd (some_none (sym h ∙ none)))
  where
    some_none : ◌≡◌ {A = Option Holds} (Some holds) None → ⊥
    some_none e = cc

held_kept : (held : Option Holds) (number : Reading) (old new : List ℕ) (e : ℕ) (f : Field) → held_in f.tag ≡ held → IsKept f (held_field held number old new e f)
held_kept None number old new e f h = itself f
held_kept (Some holds) number old new e f h = with_kept holds (new_value number old new e) f h

wanted_kept : (number : Reading) (old new : List ℕ) (entries : List EntryOffset) (fields : List Field) → AllZip IsKept fields (wanted_fields number old new entries fields)
wanted_kept number old new entries [] = tt
wanted_kept number old new [] (f ∷ fields) = (itself f, all_themselves fields)
wanted_kept number old new (e ∷ entries) (f ∷ fields) = (held_kept (held_in f.tag) number old new e.entry f refl, wanted_kept number old new entries fields)

-- ---- values erased

-- data are read so, but for values that may say a location
record After (read : Read) (bytes : List ℕ) : Type 0 where
  found : Read
  reads : reading bytes ≡ Ok found
  fields : AllZip IsKept read.fields found.fields
  faults : found.faults ≡ read.faults

unchanged : (read : Read) (bytes : List ℕ) → reading bytes ≡ Ok read → After read bytes
unchanged read bytes e = record { found = read; reads = e; fields = all_themselves read.fields; faults = refl }

if_after : (t : Bool) (read : Read) (entries : List EntryOffset) (old new : List ℕ) (whys : List Reason) → reading old ≡ Ok read
    → reads_as new (wanted read entries old new) ≡ t
    → let made : List ℕ × List Reason = if t then (new, whys) else (old, whys ++ Shared ∷ []) in After read made.0
if_after true read entries old new whys e h = record {
  found = wanted read entries old new;
  reads = reads_so new (wanted read entries old new) h;
  fields = wanted_kept (number_of (order_named read.little)) old new entries read.fields;
  faults = refl;
}
if_after false read entries old new whys e h = unchanged read old e

checked_after : (unread : Unread) (regions : List Region) (read : Read) (entries : List EntryOffset) (bytes : List ℕ) (whys : List Reason) → reading bytes ≡ Ok read
    → After read (checked unread read entries bytes regions whys).0
checked_after unread [] read entries bytes whys e = unchanged read bytes e
checked_after unread (r ∷ regions) read entries bytes whys e =
    let made = regions_erased unread (r ∷ regions) (bytes, whys) in
    if_after (reads_as made.0 (wanted read entries bytes made.0)) read entries bytes made.0 made.1 e refl

fields_after : (unread : Unread) (bytes : List ℕ) (whys : List Reason) (read : Read) → reading bytes ≡ Ok read → After read (fields_erased unread (bytes, whys)).0
fields_after unread bytes whys read e =
    subst (λ (x : Result Read Fault). After read (elim x as (λ _. List ℕ × List Reason) [ Ok r ↦ read_erased unread r (map entry_of (located bytes)) bytes whys | Err fault ↦ (bytes, whys) ]).0) (sym e)
    (checked_after unread _ read (map entry_of (located bytes)) bytes _ e)

-- ---- GPS data erased

-- data are read so, with no more faults
record Fewer (read : Read) (fields : List Field) (bytes : List ℕ) : Type 0 where
  found : Read
  reads : reading bytes ≡ Ok found
  fields_are : found.fields ≡ fields
  fewer : length found.faults ≤ length read.faults

read_alone : (a b : Read) → ◌≡◌ {A = Result Read Fault} (Ok a) (Ok b) → a ≡ b
read_alone a b e = cc

erased_fewer : (old new : List ℕ) (read : Read) → reading old ≡ Ok read → limited_edit None EraseGps old ≡ Ok new → Fewer read (without_gps read.fields) new
erased_fewer old new read e h =
    let a = bound (allowed None EraseGps old) (λ u. edited EraseGps old) new h in
    let b = bound (erase_patches old) (λ ps. Ok (patched ps old)) new a.2 in
    let w = was_erased old b.0 b.1 in
    let same : w.read ≡ read = read_alone w.read read (sym w.reads ∙ e) in
    let made : patched b.0 old ≡ new = ok_same (patched b.0 old) new b.2 in
    subst (λ (bytes : List ℕ). Fewer read (without_gps read.fields) bytes) made (record {
      found = w.found;
      reads = w.reads_new;
      fields_are = w.fields ∙ ap (λ (r : Read). without_gps r.fields) same;
      fewer = subst (λ (r : Read). length w.found.faults ≤ length r.faults) same w.fewer;
    })

gps_fewer : (old : List ℕ) (read : Read) (r : Result (List ℕ) Cause) → reading old ≡ Ok read → limited_edit None EraseGps old ≡ r
    → let made : List ℕ × List Reason = elim r [ Ok new ↦ (new, noted_if (not (is_followed new)) GpsNotFollowed []) | Err cause ↦ (old, gps_refused cause ∷ []) ] in
    Fewer read (gps_left r read.fields) made.0
gps_fewer old read (Ok new) e h = erased_fewer old new read e h
gps_fewer old read (Err cause) e h = record { found = read; reads = e; fields_are = refl; fewer = omega arith }

-- ---- the thumbnail

same_after : (s t : Bool) (read : Read) (old new : List ℕ) (whys : List Reason) → reading old ≡ Ok read → reads_as new read ≡ t
    → let made : List ℕ × List Reason = if s then (old, whys) else (if t then (new, whys) else (old, whys ++ Shared ∷ [])) in reading made.0 ≡ Ok read
same_after true t read old new whys e h = e
same_after false true read old new whys e h = reads_so new read h
same_after false false read old new whys e h = e

if_same_after : (read : Read) (old new : List ℕ) (whys : List Reason) → reading old ≡ Ok read → reading (if_same read old new whys).0 ≡ Ok read
if_same_after read old new whys e = same_after (bytes_eq old new) (reads_as new read) read old new whys e refl

span_after : (unread : Unread) (span : Option Span) (read : Read) (bytes : List ℕ) (whys : List Reason) → reading bytes ≡ Ok read
    → let made : List ℕ × List Reason = elim span [ Some s ↦ span_erased unread read bytes whys s | None ↦ (bytes, whys) ] in reading made.0 ≡ Ok read
span_after unread None read bytes whys e = e
span_after unread (Some span) read bytes whys e =
    let made = stretch_erased unread span.offset span.len bytes in
    if_same_after read bytes made.0 (noted_if made.1 Thumbnail whys) e

thumbnail_after : (unread : Unread) (bytes : List ℕ) (whys : List Reason) (read : Read) → reading bytes ≡ Ok read → reading (thumbnail_erased unread (bytes, whys)).0 ≡ Ok read
thumbnail_after unread bytes whys read e =
    subst (λ (x : Result Read Fault). reading (elim x as (λ _. List ℕ × List Reason) [ Ok r ↦ read_thumbnail_erased unread r bytes whys | Err fault ↦ (bytes, whys) ]).0 ≡ Ok read) (sym e)
    (span_after unread (thumbnail_span (length bytes) read.fields) read bytes whys e)

-- ---- all

alike_by : (unread : Unread) (x : Result (Unit {0}) Cause) (old : List ℕ) (read : Read) → reading old ≡ Ok read → within_limit entry_limit old ≡ x
    → let made : List ℕ × List Reason = elim x [ Ok _ ↦ thumbnail_erased unread (fields_erased unread (gps_erased old)) | Err cause ↦ (old, NotChanged ∷ []) ] in
    (found : Read) × (reading made.0 ≡ Ok found) × AllZip IsKept (left_within x old read.fields) found.fields
    × (length found.faults ≤ length read.faults)
alike_by unread (Err cause) old read e h = (read, e, all_themselves read.fields, omega arith)
alike_by unread (Ok u) old read e h =
    let mid = gps_erased old in
    let f = gps_fewer old read (limited_edit None EraseGps old) e refl in
    let a = fields_after unread mid.0 mid.1 f.found f.reads in
    let new = fields_erased unread mid in
    let few : length f.found.faults ≤ length read.faults = f.fewer in
    let same : length a.found.faults ≡ length f.found.faults = ap length a.faults in (
      a.found,
      thumbnail_after unread new.0 new.1 a.found a.reads,
      subst (λ (fields : List Field). AllZip IsKept fields a.found.fields) f.fields_are a.fields,
      omega arith,
    )

pub alike : (unread : Unread) (bytes : List ℕ) (read : Read) → reading bytes ≡ Ok read → ReadsAlike bytes read (reading (data_erased unread bytes).0)
alike unread bytes read e =
    let a = alike_by unread (within_limit entry_limit bytes) bytes read e refl in
    subst (λ (r : Result Read Fault). ReadsAlike bytes read r) (sym a.1) (record { fields = a.2; faults = a.3 })
