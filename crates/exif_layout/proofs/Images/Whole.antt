-- A written image: its parts are side by side, each at its offset.
use Rattle.std.proofs.Common.{◌∙◌}
use Rattle.exif_layout.proofs.Moved.{same_moved}
use Rattle.std.proofs.Common.{◌≡◌, ℕ, ◌+◌, ◌<◌, ◌≤◌, List, [], ◌∷◌, length, refl, subst, arith, Bool, true, false, map, Option, Some, None}
use Rattle.std.specs.Prelude.{if◌then◌else◌, ◌==◌, nat_lt, slice_index}
use Rattle.std.proofs.lemmas.Bool.{eqb-false, ltb-false, or_parts}
use Rattle.std.specs.List.{AllByRecursion, list_any}
use Rattle.exif_base.specs.declared.endian.Order.{Order}
use Rattle.exif_base.specs.declared.endian.Order.TheVariants.{Big, Little}
use Rattle.exif_types.specs.declared.value.Value.{Value}
use Rattle.exif_layout.specs.Encoding.{moved_to}
use Rattle.exif_table.specs.declared.context.Context.{Context}
use Rattle.exif_table.specs.declared.context.Context.TheVariants.{Tiff, Exif, Gps, Interop}
use Rattle.exif_layout.specs.Groups.{Group, Entry, blocks_in, pushed_in}
use Rattle.exif_layout.specs.declared.block_kind.BlockKind.{BlockKind}
use Rattle.exif_layout.specs.Slots.{set_slots, slots_of, tiff_slots, exif_slots, gps_slots, interop_slots, draft_of, known}
use Rattle.exif_layout.specs.Offsets.{draft_end, drafts_end, next_offset}
use Rattle.exif_layout.specs.Image.{parts_from, parts, image}
use Rattle.exif_layout.specs.Refused.{contexts, write_fault, first_group_fault, group_fault, any_over, any_unknown, is_unknown}
use Rattle.exif_layout.specs.declared.write_fault.WriteFault.{WriteFault}
use Rattle.exif_layout.specs.declared.write_fault.WriteFault.TheVariants.{EmptyDirectory, TooManyFields, UnknownType, OffsetTooLarge}
use Rattle.exif_layout.specs.Layout.{Spans, IsOutside}
use Rattle.exif_layout.proofs.Images.Words.{AllStand, AllKnown, IsKnown, IsAccepted}
use Rattle.exif_layout.proofs.Images.Standing.{spans_append, laid_stand, laid_zero, length-laid}
use Rattle.exif_layout.proofs.Images.Offsets.{draft_spans}
use Rattle.exif_layout.proofs.Images.Slots.{all_slots}

none_passes : {X : Type 0} (test : X → Bool) (xs : List X) → list_any test xs ≡ false → AllByRecursion (λ x. test x ≡ false) xs
none_passes test [] h = tt
none_passes test (x ∷ xs) h =
    let both = or_parts (test x) (list_any test xs) h in
    (both.0, none_passes test xs both.1)

otherwise : (b : Bool) (cause : WriteFault) (rest : Option WriteFault) → (if b then Some cause else rest) ≡ None → (b ≡ false) × (rest ≡ None)
otherwise true cause rest h = absurd cc
otherwise false cause rest h = (refl, h)

-- a group without a fault has entries, not too many, and all of known types
pub accepted : (group : Group) → group_fault group ≡ None → IsAccepted group
unfolding group_fault
accepted group h =
    let a = otherwise (length (tiff_slots group) == 0) EmptyDirectory _ h in
    let b = otherwise (any_over group) TooManyFields _ a.1 in
    let c = otherwise (list_any (λ context. any_unknown (pushed_in group context)) contexts) UnknownType None b.1 in
    let over = none_passes (λ context. nat_lt 65535 (length (slots_of group context))) contexts b.0 in
    let unknown = none_passes (λ context. any_unknown (pushed_in group context)) contexts c.0 in
    let some = eqb-false (length (tiff_slots group)) 0 a.0 in
    record {
      some = omega arith;
      few = elim [
        | Tiff ↦ ltb-false 65535 (length (tiff_slots group)) over.0
        | Exif ↦ ltb-false 65535 (length (exif_slots group)) over.1.0
        | Gps ↦ ltb-false 65535 (length (gps_slots group)) over.1.1.0
        | Interop ↦ ltb-false 65535 (length (interop_slots group)) over.1.1.1.0
      ];
      known = elim [
        | Tiff ↦ none_passes (λ entry. is_unknown entry.value) group.tiff unknown.0
        | Exif ↦ none_passes (λ entry. is_unknown entry.value) group.exif unknown.1.0
        | Gps ↦ none_passes (λ entry. is_unknown entry.value) group.gps unknown.1.1.0
        | Interop ↦ none_passes (λ entry. is_unknown entry.value) group.interop unknown.1.1.1.0
      ];
    }

-- where groups have no first fault, the first group has none, and those behind it have none
pub first_none : (group : Group) (groups : List Group) (cause : Option WriteFault) → group_fault group ≡ cause
    → (let r : Option WriteFault = elim cause [ Some c ↦ Some c | None ↦ first_group_fault groups ] in r) ≡ None → (cause ≡ None) × (first_group_fault groups ≡ None)
first_none group groups None e h = (refl, h)
first_none group groups (Some cause) e h = absurd cc

-- where no group has a fault, each is accepted
pub all_accepted : (groups : List Group) → first_group_fault groups ≡ None → AllByRecursion IsAccepted groups
all_accepted [] h = tt
all_accepted (group ∷ groups) h =
    let both = first_none group groups (group_fault group) refl h in
    (accepted group both.0, all_accepted groups both.1)

-- what is known of groups that are written
pub record AllAccepted (groups : List Group) : Type 0 where
  pub each : AllByRecursion IsAccepted groups
  pub small : drafts_end 8 (map draft_of groups) ≤ 4294967295
  pub some : 0 < length groups

small_enough : (cause : Option WriteFault) (end : ℕ)
    → (let r : Option WriteFault = elim cause [ Some c ↦ Some c | None ↦ if nat_lt 4294967295 end then Some OffsetTooLarge else None ] in r) ≡ None
    → (cause ≡ None) × (end ≤ 4294967295)
small_enough None end h = (refl, ltb-false 4294967295 end (otherwise (nat_lt 4294967295 end) OffsetTooLarge None h).0)
small_enough (Some cause) end h = absurd cc

-- groups that are written are accepted, at least one, and end below 2^32
pub not_refused : (groups : List Group) → write_fault groups ≡ None → AllAccepted groups
unfolding write_fault
not_refused [] h = absurd cc
not_refused (group ∷ groups) h =
    let both = small_enough (first_group_fault (group ∷ groups)) (drafts_end 8 (map draft_of (group ∷ groups))) h in
    record { each = all_accepted (group ∷ groups) both.0; small = both.1; some = omega arith }

known_blocks : (kind : BlockKind) (texts : Option (List (List ℕ))) → AllKnown (set_slots kind texts)
known_blocks kind None = tt
known_blocks kind (Some texts) = (tt, (tt, tt))

known_moved : (offset : ℕ) (value : Value) → is_unknown value ≡ false → is_unknown (moved_to offset value) ≡ false
known_moved offset value h = (same_moved value offset).unknown ∙ h

known_entries : (entries : List Entry) → AllByRecursion (λ entry. is_unknown entry.value ≡ false) entries → AllByRecursion (λ entry. IsKnown (known entry).content) entries
known_entries [] h = tt
known_entries (entry ∷ entries) h = (known_moved 0 entry.value h.0, known_entries entries h.1)

-- in each directory of an accepted group all slots are of known types
pub known_slots : (group : Group) → IsAccepted group → (context : Context) → AllKnown (slots_of group context)
known_slots group h =
    all_slots (λ context slot. IsKnown slot.content) group (λ context. known_entries (pushed_in group context) (h.known context))
    (λ kind. known_blocks kind (blocks_in group kind))
    (λ some. tt) (λ some. tt) (λ some. tt)

-- the parts of accepted groups are side by side from their start to the end of the last
pub parts_from_span : (order : Order) (start : ℕ) (groups : List Group) → AllByRecursion IsAccepted groups
    → Spans start (parts_from order start (map draft_of groups)) (drafts_end start (map draft_of groups))
parts_from_span order start [] h = refl
parts_from_span order start (group ∷ groups) h =
    let end : ℕ = draft_end (draft_of group) start in
    spans_append start end (drafts_end end (map draft_of groups)) _ _
    (draft_spans order (draft_of group) start (next_offset end (map draft_of groups)) h.0.some (known_slots group h.0))
    (parts_from_span order end groups h.1)

-- The parts of an image are side by side from 0 to its end, with single bytes between.
pub parts_span : (order : Order) (groups : List Group) → AllByRecursion IsAccepted groups → Spans 0 (parts order (map draft_of groups)) (drafts_end 8 (map draft_of groups))
parts_span Big groups h = (omega arith, omega arith, parts_from_span Big 8 groups h)
parts_span Little groups h = (omega arith, omega arith, parts_from_span Little 8 groups h)

-- the image of accepted groups is as long as the offset where the last draft ends
pub length-image : (order : Order) (groups : List Group) → AllByRecursion IsAccepted groups → length (image order groups) ≡ drafts_end 8 (map draft_of groups)
unfolding image
length-image order groups h = let e = length-laid 0 (drafts_end 8 (map draft_of groups)) (parts order (map draft_of groups)) (parts_span order groups h) in omega arith

-- each part of an image is at its offset
pub parts_stand : (order : Order) (groups : List Group) → AllByRecursion IsAccepted groups → AllStand (image order groups) (parts order (map draft_of groups))
unfolding image
parts_stand order groups h =
    laid_stand (image order groups) [] 0 (drafts_end 8 (map draft_of groups)) (parts order (map draft_of groups)) (parts_span order groups h) refl refl

-- what no part of an image is at is zero
pub pads_zero : (order : Order) (groups : List Group) → AllByRecursion IsAccepted groups → (offset : ℕ) → AllByRecursion (IsOutside offset) (parts order (map draft_of groups)) → slice_index (image order groups) offset ≡ 0
unfolding image
pads_zero order groups h offset outside =
    let e : offset ≡ 0 + offset = omega arith in
    laid_zero 0 (drafts_end 8 (map draft_of groups)) offset (parts order (map draft_of groups)) (parts_span order groups h)
    (subst (λ (n : ℕ). AllByRecursion (IsOutside n) (parts order (map draft_of groups))) e outside)
