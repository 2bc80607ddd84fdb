-- Where GPS data stand alone, they are erased: the edit is not refused as shared.
use Rattle.std.proofs.Common.{◌≡◌, ◌≤◌, ◌<◌, ◌+◌, ◌-◌, ◌*◌, min, ℕ, Bool, true, false, if◌then◌else◌, List, [], ◌∷◌, length, map, Result, Ok, Err, refl, sym, ap, subst, ◌∙◌, arith}
use Rattle.std.specs.Prelude.{◌&&◌, nat_le, nat_lt, slice_index}
use Rattle.std.specs.Bool.{beq}
use Rattle.std.specs.Cmp.{booleans_Decides}
use Rattle.std.specs.Cmp.Lexicographic.{pointwise}
use Rattle.std.specs.List.{list_any, AllByRecursion}
use Rattle.std.proofs.lemmas.Bool.{not-true, or_parts, or_right}
use Rattle.std.proofs.lemmas.Bool.Decides.{nat_tests}
use Rattle.std.proofs.lemmas.List.{get_or_past}
use Rattle.std.proofs.lemmas.Slice.Eq.{slice_eq-Decides}
use Rattle.exif_base.specs.Bytes.{Reading}
use Rattle.exif_base.specs.Orders.{number_of}
use Rattle.exif_base.specs.declared.endian.Order.{Order}
use Rattle.exif_types.specs.FieldEq.{field_eq, field_Decides}
use Rattle.exif_tiff.specs.declared.fault.Fault.{Fault}
use Rattle.exif_tiff.specs.Footprint.{Agree, Stretch}
use Rattle.exif_tiff.specs.Trace.{Node, directories_of, header, ordered_trace, trace, whole_entries}
use Rattle.exif_tiff.proofs.Agreement.{bytes_same, same_of}
use Rattle.exif_tiff.proofs.FootprintAnswers.{header_same}
use Rattle.exif_tiff.proofs.Footprints.{all_flat}
use Rattle.exif_tiff.proofs.Members.{all_left}
use Rattle.exif_edit_base.specs.GpsOffsets.{gps_offsets, gps_pointers}
use Rattle.exif_edit_base.specs.Locations.{directory_offsets, gps_of, visited_gps}
use Rattle.exif_edit_base.specs.Causes.{shared}
use Rattle.exif_edit_base.specs.Patches.{inside, patched, zeros_over}
use Rattle.exif_edit_base.specs.Readings.{Read, reading}
use Rattle.exif_edit_base.specs.declared.patch.Patch.{Patch}
use Rattle.exif_edit_base.specs.declared.patch.Span.{Span}
use Rattle.exif_edit_base.proofs.OffsetSteps.{noted_holds}
use Rattle.exif_edit_base.proofs.PatchSteps.{length-patched, zeroed_at}
use Rattle.exif_edit_base.specs.Rereading.{clears}
use Rattle.exif_edit.specs.Erasing.{clipped, directory_spans, erase_patches, gps_spans, kept}
use Rattle.exif_edit.specs.GpsAlone.{AreErasedUnshared, all_kept, gps_is_unshared}
use Rattle.exif_edit.specs.Sharing.{overlaps}
use Rattle.exif_edit.proofs.EraseSound.{spans_within, zeros_fit}
use Rattle.exif_edit.proofs.GpsKept.{Emptied, ordered_kept}
use Rattle.exif_edit.proofs.Unshared.{missed, named_order, read_in, reading_in}

-- a stretch that no span overlaps has no byte of them
missed_all : (ss : List Span) (t : Stretch) (i : ℕ) → list_any (λ s. overlaps s t) ss ≡ false
    → t.offset ≤ i → i < t.offset + t.len → list_any (inside i) ss ≡ false
missed_all [] t i h low high = refl
missed_all (s ∷ ss) t i h low high =
    let a = or_parts (overlaps s t) (list_any (λ x. overlaps x t) ss) h in
    let one = missed s t i a.0 low high in
    let rest = missed_all ss t i a.1 low high in
    rw (one, rest) refl

of_each : (P : ℕ → Type 0) (ss : List Span) → ((i : ℕ) → list_any (inside i) ss ≡ true → P i)
    → AllByRecursion (λ s. (i : ℕ) → inside i s ≡ true → P i) ss
of_each P [] h = tt
of_each P (s ∷ ss) h = (
  λ i x. h i (rw x refl),
  of_each P ss (λ i x. h i (or_right (inside i s) (list_any (inside i) ss) x)),
)

each_gives : {X : Type 0} (P Q : X → Type 0) (xs : List X) → ((x : X) → P x → Q x)
    → AllByRecursion P xs → AllByRecursion Q xs
each_gives P Q [] f h = tt
each_gives P Q (x ∷ xs) f h = (f x h.0, each_gives P Q xs f h.1)

visited_gps_in : (bytes : List ℕ) (order : Order) → header bytes ≡ Ok order
    → visited_gps bytes ≡ gps_of (directories_of (ordered_trace (number_of order) bytes))
unfolding visited_gps directory_offsets trace
visited_gps_in bytes order h =
    ap (λ (x : Result Order Fault). gps_of (directories_of (elim x as (λ _. List Node)
    [ Ok o ↦ ordered_trace (number_of o) bytes | Err fault ↦ [] ]))) h

clears_by : (x : Result Read Fault) (found want : Read) → x ≡ Ok found
    → beq found.little want.little ≡ true → pointwise field_eq found.fields want.fields ≡ true
    → nat_le (length found.faults) (length want.faults) ≡ true
    → (elim x [
      | Ok r ↦ beq r.little want.little
          && (pointwise field_eq r.fields want.fields
          && nat_le (length r.faults) (length want.faults))
      | Err fault ↦ false
    ]) ≡ true
clears_by x found want e l f g = rw (e, l, f, g) refl

module _ (order : Order) (bytes : List ℕ) (head : header bytes ≡ Ok order)
    (alone : gps_is_unshared (number_of order) bytes ≡ true) where
  abbrev number : Reading
  number = number_of order

  abbrev spans : List Span
  spans = gps_spans number bytes

  abbrev zeros : List Patch
  zeros = map zeros_over spans

  abbrev out : List ℕ
  out = patched zeros bytes

  as_long : length bytes ≡ length out
  as_long =
      sym (length-patched zeros bytes (zeros_fit (length bytes) spans (spans_within number bytes)))

  byte_at : (i : ℕ)
      → slice_index out i ≡ (if list_any (inside i) spans then 0 else slice_index bytes i)
  byte_at i = zeroed_at spans bytes i (spans_within number bytes)

  abbrev met : Stretch → Bool
  met t = list_any (λ s. overlaps s t) spans

  stretch_same : (t : Stretch) → met t ≡ false → Agree bytes out t
  stretch_same t m =
      bytes_same bytes out t.offset t.len as_long
      (λ i low high. sym (byte_at i ∙ ap (λ x. if x then 0 else slice_index bytes i)
      (missed_all spans t i m low high)))

  all_same : (ts : List Stretch) → list_any met ts ≡ false → AllByRecursion (Agree bytes out) ts
  all_same [] h = tt
  all_same (t ∷ ts) h =
      let a = or_parts (met t) (list_any met ts) h in
      (stretch_same t a.0, all_same ts a.1)

  agree : AllByRecursion (Agree bytes out) (all_kept number bytes)
  agree =
      all_same (all_kept number bytes) (not-true (list_any met (all_kept number bytes)) alone)

  -- the bytes of a span are zeros
  abbrev Zeroed : Span → Type 0
  Zeroed s = (i : ℕ) → inside i s ≡ true → slice_index out i ≡ 0

  all_zeroed : AllByRecursion Zeroed spans
  all_zeroed =
      of_each (λ i. slice_index out i ≡ 0) spans
      (λ i x. byte_at i ∙ ap (λ y. if y then 0 else slice_index bytes i) x)

  clipped_in : (q n i : ℕ) → q ≤ i → i < q + n → i < length bytes
      → inside i (clipped (length bytes) (record { offset = q; len = n })) ≡ true
  clipped_in q n i low high near =
      let here : nat_le q (length bytes) ≡ true = grind (arith, nat_tests) in
      let behind : nat_le q i ≡ true = grind (arith, nat_tests) in
      let before : nat_lt i (q + min n (length bytes - q)) ≡ true = grind (arith, nat_tests) in
      rw (here, behind, before) refl

  emptied_of : (q : ℕ) → AllByRecursion Zeroed (directory_spans number bytes q)
      → Emptied order bytes out as_long q
  emptied_of q z i low high = by_end (nat_lt i (length bytes)) refl
    where
      by_end : (t : Bool) → nat_lt i (length bytes) ≡ t → slice_index out i ≡ 0
      by_end true t =
          z.0 i (clipped_in q (2 + 12 * whole_entries number bytes q + 4) i low (omega arith)
          (grind (arith, nat_tests)))
      by_end false t =
          let past : length out ≤ i = grind (arith, nat_tests, as_long) in
          get_or_past out i 0 past

  -- the spans of the directory at q are zeros
  abbrev AreZeroed : ℕ → Type 0
  AreZeroed q = AllByRecursion Zeroed (directory_spans number bytes q)

  visited_zeroed : AllByRecursion AreZeroed (visited_gps bytes)
  unfolding gps_spans gps_offsets
  visited_zeroed =
      noted_holds (λ qs. AllByRecursion AreZeroed qs) bytes (all_left AreZeroed) (visited_gps bytes)
      (gps_pointers number bytes)
      (all_flat Zeroed (directory_spans number bytes) (gps_offsets number bytes) all_zeroed)

  emptied : AllByRecursion (Emptied order bytes out as_long)
      (gps_of (directories_of (ordered_trace number bytes)))
  emptied =
      subst (λ ps. AllByRecursion (Emptied order bytes out as_long) ps)
      (visited_gps_in bytes order head)
      (each_gives AreZeroed (Emptied order bytes out as_long) (visited_gps bytes) emptied_of
      visited_zeroed)

  head_out : header out ≡ Ok order
  head_out = sym (header_same bytes out as_long (same_of bytes out 0 8 agree.0)) ∙ head

  clears_right : clears out (kept (read_in order bytes)) ≡ true
  clears_right =
      let told = ordered_kept order bytes out as_long agree emptied in
      let found = read_in order out in
      let want = kept (read_in order bytes) in
      let few = told.1 in
      let l : beq found.little want.little ≡ true =
      (booleans_Decides found.little want.little).1 refl in
      let f : pointwise field_eq found.fields want.fields ≡ true =
      (slice_eq-Decides field_Decides found.fields want.fields
      (pointwise field_eq found.fields want.fields) refl).1 told.0 in
      let g : nat_le (length found.faults) (length want.faults) ≡ true =
      grind (arith, nat_tests) in
      clears_by (reading out) found want (reading_in out order head_out) l f g

  erased : erase_patches bytes ≡ Ok zeros
  unfolding erase_patches
  erased =
      let read = reading_in bytes order head in
      let named = named_order order in
      let right = clears_right in
      rw (read, named) (ap (λ t. if t then Ok zeros else Err shared) right)

-- where no byte of GPS data is looked at as anything else, the GPS data are erased
pub gps_unshared : (bytes : List ℕ) → AreErasedUnshared bytes
gps_unshared bytes order head alone = erased order bytes head alone
