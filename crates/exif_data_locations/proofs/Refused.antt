-- Data that can't be read, or have too many entries, stay.
use Rattle.std.proofs.Common.{◌≡◌, ℕ, Bool, false, not, List, [], ◌∷◌, map, Result, Ok, Err, refl, ap, ◌∙◌}
use Rattle.exif_tiff.specs.declared.fault.Fault.{Fault}
use Rattle.exif_tiff.specs.declared.stop.Stop.TheVariants as stop
use Rattle.exif_edit_base.specs.Causes.{Cause, of_data, wrong_header, ◌>>=◌}
use Rattle.exif_edit_base.specs.EntryLimit.{limited_reading, within_limit}
use Rattle.exif_edit_base.specs.Locations.{located}
use Rattle.exif_edit_base.specs.Patches.{patched}
use Rattle.exif_edit_base.specs.Readings.{Read, reading}
use Rattle.exif_edit_base.specs.Walked.{entry_of}
use Rattle.exif_edit_base.specs.declared.error.Error.TheVariants as error
use Rattle.exif_edit_base.specs.declared.patch.Patch.{Patch}
use Rattle.exif_edit_base.proofs.LeftSteps.{left_fault}
use Rattle.exif_edit.proofs.EraseSteps.{erase_refused}
use Rattle.exif_locations.specs.declared.unread.Unread.{Unread}
use Rattle.exif_data_locations.specs.Erasing.{entry_limit, fields_erased, gps_erased, gps_refused, is_followed, is_none_left, noted_if, own_erased, read_erased}
use Rattle.exif_data_locations.specs.Locations.{data_erased}
use Rattle.exif_data_locations.specs.Thumbnails.{read_thumbnail_erased, thumbnail_erased}
use Rattle.exif_data_locations.specs.declared.reason.Reason.{Reason}
use Rattle.exif_data_locations.specs.declared.reason.Reason.TheVariants.{GpsNotFollowed, NotChanged}

-- no GPS pointer is followed in data that can't be read
pub none_followed : (bytes : List ℕ) (fault : Fault) → reading bytes ≡ Err fault
    → is_followed bytes ≡ false
none_followed bytes fault h =
    ap (λ x. elim x as (λ _. Bool) [ Ok left ↦ is_none_left left | Err cause ↦ false ])
    (left_fault (stop.Fault fault) bytes (error.Header fault) h refl)

-- GPS data by what erases them
abbrev gps_by : List ℕ → Result (List Patch) Cause → List ℕ × List Reason
gps_by bytes x = elim (x >>= λ patches. Ok (patched patches bytes)) [
  | Ok new ↦ (new, noted_if (not (is_followed new)) GpsNotFollowed [])
  | Err cause ↦ (bytes, gps_refused cause ∷ [])
]

gps_stay : (bytes : List ℕ) (fault : Fault) → reading bytes ≡ Err fault
    → gps_erased bytes ≡ (bytes, NotChanged ∷ [])
gps_stay bytes fault h =
    ap (gps_by bytes) (erase_refused bytes (wrong_header fault) (ap of_data h))

fields_stay : (unread : Unread) (bytes : List ℕ) (whys : List Reason) (fault : Fault)
    → reading bytes ≡ Err fault → fields_erased unread (bytes, whys) ≡ (bytes, whys)
fields_stay unread bytes whys fault h =
    ap (λ (x : Result Read Fault). elim x as (λ _. List ℕ × List Reason) [
      | Ok read ↦ read_erased unread read (map entry_of (located bytes)) bytes whys
      | Err f ↦ (bytes, whys)
    ]) h

thumbnail_stays : (unread : Unread) (bytes : List ℕ) (whys : List Reason) (fault : Fault)
    → reading bytes ≡ Err fault → thumbnail_erased unread (bytes, whys) ≡ (bytes, whys)
thumbnail_stays unread bytes whys fault h =
    ap (λ (x : Result Read Fault). elim x as (λ _. List ℕ × List Reason) [
      | Ok read ↦ read_thumbnail_erased unread read bytes whys
      | Err f ↦ (bytes, whys)
    ]) h

own_stay : (unread : Unread) (bytes : List ℕ) (fault : Fault) → reading bytes ≡ Err fault
    → fields_erased unread (gps_erased bytes) ≡ (bytes, NotChanged ∷ [])
own_stay unread bytes fault h =
    ap (fields_erased unread) (gps_stay bytes fault h)
    ∙ fields_stay unread bytes (NotChanged ∷ []) fault h

all_stay : (unread : Unread) (bytes : List ℕ) (fault : Fault) → reading bytes ≡ Err fault
    → thumbnail_erased unread (fields_erased unread (gps_erased bytes))
    ≡ (bytes, NotChanged ∷ [])
all_stay unread bytes fault h =
    ap (thumbnail_erased unread) (own_stay unread bytes fault h)
    ∙ thumbnail_stays unread bytes (NotChanged ∷ []) fault h

-- a refusal of a reading under a limit is one of the limit, or that of the header
header_fault : (x : Result Read Fault) (fault : Fault) → of_data x ≡ Err (wrong_header fault)
    → (f : Fault) × (x ≡ Err f)
header_fault (Ok read) fault h = absurd (ok_err h)
  where
    ok_err : ◌≡◌ {A = Result Read Cause} (Ok read) (Err (wrong_header fault)) → ⊥
    ok_err e = cc
header_fault (Err f) fault h = (f, refl)

-- what stays where data are refused, as the limit is kept or not
stays_by : (made old : List ℕ × List Reason) (x : Result (Unit {0}) Cause) (bytes : List ℕ)
    (fault : Fault)
    → (x >>= λ u. of_data (reading bytes)) ≡ Err (wrong_header fault)
    → ((f : Fault) → reading bytes ≡ Err f → made ≡ old)
    → elim x as (λ _. List ℕ × List Reason) [ Ok _ ↦ made | Err cause ↦ old ] ≡ old
stays_by made old (Ok u) bytes fault h k =
    let f = header_fault (reading bytes) fault h in k f.0 f.1
stays_by made old (Err cause) bytes fault h k = refl

-- data whose reading under the limit is refused stay
pub own_refused : (unread : Unread) (bytes : List ℕ) (fault : Fault)
    → limited_reading entry_limit bytes ≡ Err (wrong_header fault)
    → own_erased unread bytes ≡ (bytes, NotChanged ∷ [])
own_refused unread bytes fault h =
    stays_by (fields_erased unread (gps_erased bytes)) (bytes, NotChanged ∷ [])
    (within_limit entry_limit bytes) bytes fault h (own_stay unread bytes)

pub data_refused : (unread : Unread) (bytes : List ℕ) (fault : Fault)
    → limited_reading entry_limit bytes ≡ Err (wrong_header fault)
    → data_erased unread bytes ≡ (bytes, NotChanged ∷ [])
data_refused unread bytes fault h =
    stays_by (thumbnail_erased unread (fields_erased unread (gps_erased bytes)))
    (bytes, NotChanged ∷ []) (within_limit entry_limit bytes) bytes fault h
    (all_stay unread bytes)
