-- The plans of groups that are written can be sent, and their image is what is sent.
use Rattle.std.proofs.Common.{◌≡◌, ℕ, ◌+◌, ◌≤◌, List, [], ◌∷◌, length, map, refl, sym, ap, subst, ◌∙◌, arith, Option, Some, None}
use Rattle.std.specs.Bool.{⊤}
use Rattle.std.specs.List.{AllByRecursion}
use Rattle.std.proofs.lemmas.List.{length-map}
use Rattle.std.proofs.Math.Nat.{le_trans}
use denote.Ref.{Bor}
use Rattle.exif_base.specs.declared.endian.Order.{Order}
use Rattle.exif_table.specs.declared.context.Context.{Context}
use Rattle.exif_table.specs.declared.context.Context.TheVariants.{Tiff, Exif, Gps, Interop}
use Rattle.exif_layout.specs.declared.block_kind.BlockKind.{BlockKind}
use Rattle.exif_layout.specs.Groups.{Group, blocks_in, pushed_in}
use Rattle.exif_layout.specs.Image.{image}
use Rattle.exif_layout.specs.Offsets.{after_value, after_values, draft_end, drafts_end, next_offset, values_offset}
use Rattle.exif_layout.specs.Refused.{write_fault}
use Rattle.exif_layout.specs.Slots as format
use Rattle.exif_layout.specs.Slots.{draft_of, slots_of, block_list, set_slots, known, content_len}
use Rattle.exif_layout.proofs.Images.Room.{blocks_len, blocks_within, values_within, values_room, drafts_low}
use Rattle.exif_layout.proofs.Images.Shares.{always}
use Rattle.exif_layout.proofs.Images.Slots.{all_slots}
use Rattle.exif_layout.proofs.Images.Whole.{known_slots, not_refused}
use Rattle.exif_layout.proofs.Images.Words.{IsAccepted, IsKnown, AllKnown}
use Rattle.exif_writer.proofs.SendLaid.{AreOffsets, are_offsets, size_is, IsSendable, image_is}
use Rattle.exif_layout.proofs.Moved.{same_moved}
use Rattle.exif_writer.specs.Drafts.{IsPlan, ArePlans}
use Rattle.exif_writer.specs.Plans.{CanSettle, IsReadyDirectory, IsReadyPlan, sent_image}
use Rattle.exif_writer.specs.Sending.{sum_of, symbol, Settles, IsMeasurable, IsReady, values_end}
use Rattle.exif_layout.specs.EntryContents.{lens, symbol_of, content_size, IsKnownContent}
use Rattle.exif_writer.specs.declared.plan.Offsets.{Offsets}
use Rattle.exif_writer.specs.declared.plan.Plan.{Plan}
use Rattle.exif_writer.specs.declared.plan.Slot.{Slot}
use Rattle.exif_layout.specs.declared.content.Content.{Content}
use Rattle.exif_layout.specs.declared.content.Content.TheVariants.{Known, OneShort, OneLong, OffsetsOf, LengthsOf, OffsetOf}

-- an entry of blocks holds the lengths of the blocks that are set
abbrev Holds : Group → format.Content → Type 0
Holds group (format.Known value) = ⊤
Holds group (format.OffsetsOf kind lengths) = lengths ≡ map length (block_list (blocks_in group kind))
Holds group (format.LengthsOf kind lengths) = lengths ≡ map length (block_list (blocks_in group kind))
Holds group (format.OffsetOf context) = ⊤

held_blocks : (group : Group) (kind : BlockKind) (set : Option (List (List ℕ))) → blocks_in group kind ≡ set → AllByRecursion (λ slot. Holds group slot.content) (set_slots kind set)
held_blocks group kind None e = tt
held_blocks group kind (Some texts) e = (ap (λ o. map length (block_list o)) (sym e), (ap (λ o. map length (block_list o)) (sym e), tt))

held : (group : Group) (context : Context) → AllByRecursion (λ slot. Holds group slot.content) (slots_of group context)
held group context =
    all_slots (λ c slot. Holds group slot.content) group (λ c. always (λ entry. Holds group (known entry).content) (λ entry. tt) (pushed_in group c))
    (λ kind. held_blocks group kind (blocks_in group kind) refl) (λ some. tt) (λ some. tt) (λ some. tt) context

-- how many bytes blocks have, by their lengths
abbrev total : List ℕ → ℕ
total [] = 0
total (len ∷ lengths) = len + total lengths

sum_total : (texts : List (Bor (List ℕ))) → sum_of texts ≡ total (lens texts)
sum_total [] = refl
sum_total (text ∷ texts) = ap (λ n. length text.now + n) (sum_total texts)

len_total : (texts : List (List ℕ)) → blocks_len texts ≡ total (map length texts)
len_total [] = refl
len_total (text ∷ texts) = ap (λ n. length text + n) (len_total texts)

-- where values end, of plans and of drafts
pub ends_same : (values : ℕ) (slots : List Slot) → values_end values slots ≡ after_values values (map symbol slots)
ends_same values [] = refl
ends_same values (slot ∷ slots) =
    ends_same (after_value values (content_size slot.content)) slots
    ∙ (λ i. after_values (after_value values ((sym (size_is slot.content)) i)) (map symbol slots))

-- the values of lent slots end where images say that the values of these slots end
pub ends_at : (offset : ℕ) {end : ℕ} {lent items : List Slot} {symbols : List format.Slot} → lent ≡ items → map symbol items ≡ symbols → end ≡ values_end offset lent
    → end ≡ after_values offset symbols
ends_at offset {lent = lent} l s e = e ∙ ends_same offset lent ∙ ap (after_values offset) (ap (map symbol) l ∙ s)

known_content : (content : Content) → IsKnown (symbol_of content) → IsKnownContent content
known_content (Known value) k = sym (same_moved value 0).unknown ∙ k
known_content (OneShort x) k = tt
known_content (OneLong x) k = tt
known_content (OffsetsOf kind texts) k = tt
known_content (LengthsOf kind texts) k = tt
known_content (OffsetOf context) k = tt

-- a directory of a group that is accepted, whose draft ends where 32 bits reach
module _ (group : Group) (start : ℕ) (h : IsAccepted group) (room : draft_end (draft_of group) start ≤ 4294967295) where
  measurable_slots : (slots : List Slot) → AllKnown (map symbol slots) → AllByRecursion (λ slot. content_len slot.content ≤ 4294967295) (map symbol slots)
      → AllByRecursion IsMeasurable slots
  measurable_slots [] b c = tt
  measurable_slots (slot ∷ slots) b c = (
    record { known = known_content slot.content b.0; room = (let size = size_is slot.content in let low = c.0 in omega arith) },
    measurable_slots slots b.1 c.1,
  )

  -- the values of each of its directories can be settled from their offset in the draft on
  pub can_settle : (context : Context) (slots : List Slot) (values : ℕ) → map symbol slots ≡ slots_of group context → values ≡ values_offset (draft_of group) start context
      → CanSettle values slots
  can_settle context slots values e v =
      let ends : after_values (values_offset (draft_of group) start context) (slots_of group context) ≤ 4294967295 = le_trans (values_within (draft_of group) start context) room in
      let B : List format.Slot → Type 0 = AllKnown in
      let C : List format.Slot → Type 0 = AllByRecursion (λ slot. content_len slot.content ≤ 4294967295) in
      let same : values_end values slots ≡ after_values (values_offset (draft_of group) start context) (slots_of group context) = ends_same values slots ∙ (λ i. after_values (v i) (e i)) in
      record {
        measurable = measurable_slots slots (subst B (sym e) (known_slots group h context))
            (subst C (sym e) (values_room (values_offset (draft_of group) start context) 4294967295 (slots_of group context) ends (omega arith)));
        room = omega arith;
      }

-- the plan of a group that is accepted, whose draft ends where 32 bits reach
module _ (group : Group) (start next : ℕ) (plan : Plan) (is : IsPlan (draft_of group) start next plan) (h : IsAccepted group)
    (room : draft_end (draft_of group) start ≤ 4294967295) where
  at : AreOffsets (draft_of group) start plan.offsets
  at = let P : Offsets → Type 0 = AreOffsets (draft_of group) start in subst P (sym is.offsets) (are_offsets (draft_of group) start next)

  settles : (content : Content) → Holds group (symbol_of content) → Settles plan.offsets content
  settles (Known value) e = tt
  settles (OneShort x) e = tt
  settles (OneLong x) e = tt
  settles (OffsetsOf kind texts) e =
      let sum : sum_of texts.now ≡ blocks_len (block_list (blocks_in group kind)) = sum_total texts.now ∙ ap total e ∙ sym (len_total (block_list (blocks_in group kind))) in
      let within = blocks_within (draft_of group) start kind in
      let same = at.block kind in
      omega arith
  settles (LengthsOf kind texts) e =
      let sum : sum_of texts.now ≡ blocks_len (block_list (blocks_in group kind)) = sum_total texts.now ∙ ap total e ∙ sym (len_total (block_list (blocks_in group kind))) in
      let within = blocks_within (draft_of group) start kind in
      omega arith
  settles (OffsetOf context) e = tt

  ready_slots : (slots : List Slot) → AllByRecursion (λ slot. Holds group slot.content) (map symbol slots) → AllByRecursion IsMeasurable slots
      → AllByRecursion (IsReady plan.offsets) slots
  ready_slots [] a b = tt
  ready_slots (slot ∷ slots) a b = (record { settles = settles slot.content a.0; known = b.0.known; room = b.0.room }, ready_slots slots a.1 b.1)

  ready_directory : (context : Context) (slots : List Slot) (values : ℕ) → map symbol slots ≡ slots_of group context → values ≡ values_offset (draft_of group) start context
      → IsReadyDirectory plan.offsets values slots
  ready_directory context slots values e v =
      let can = can_settle group start h room context slots values e v in
      let A : List format.Slot → Type 0 = AllByRecursion (λ slot. Holds group slot.content) in
      let few = h.few context in
      let count : length slots ≡ length (slots_of group context) = sym (length-map slots symbol) ∙ ap length e in
      record {
        few = omega arith;
        ready = ready_slots slots (subst A (sym e) (held group context)) can.measurable;
        room = can.room;
      }

  -- each directory of the plan can be sent
  pub ready_plan : IsReadyPlan plan
  ready_plan = record {
    tiff = ready_directory Tiff plan.tiff.items plan.offsets.tiff_values is.tiff (ap (λ p. p.tiff_values) is.offsets);
    exif = ready_directory Exif plan.exif.items plan.offsets.exif_values is.exif (ap (λ p. p.exif_values) is.offsets);
    gps = ready_directory Gps plan.gps.items plan.offsets.gps_values is.gps (ap (λ p. p.gps_values) is.offsets);
    interop = ready_directory Interop plan.interop.items plan.offsets.interop_values is.interop (ap (λ p. p.interop_values) is.offsets);
  }

ready_all : (groups : List Group) (start : ℕ) (plans : List Plan) → AllByRecursion IsAccepted groups → drafts_end start (map draft_of groups) ≤ 4294967295
    → ArePlans start (map draft_of groups) plans → AllByRecursion IsReadyPlan plans
ready_all [] start [] h room are = tt
ready_all [] start (plan ∷ plans) h room are = absurd are
ready_all (group ∷ groups) start [] h room are = absurd are
ready_all (group ∷ groups) start (plan ∷ plans) h room are =
    let end : ℕ = draft_end (draft_of group) start in
    let low = drafts_low end (map draft_of groups) in (
      ready_plan group start (next_offset end (map draft_of groups)) plan are.0.is h.0 (omega arith),
      ready_all groups end plans h.1 room are.1,
    )

sendable : (groups : List Group) → AllByRecursion IsAccepted groups → AllByRecursion IsSendable (map draft_of groups)
sendable [] h = tt
sendable (group ∷ groups) h = (record { some = (h.0).some; known = known_slots group h.0 }, sendable groups h.1)

-- the plans can be sent
pub ready_plans : (groups : List Group) (plans : List Plan) → write_fault groups ≡ None → ArePlans 8 (map draft_of groups) plans → AllByRecursion IsReadyPlan plans
ready_plans groups plans h are = let a = not_refused groups h in ready_all groups 8 plans a.each a.small are

-- what is sent of them is the image
pub sent_is : (order : Order) (groups : List Group) (plans : List Plan) → write_fault groups ≡ None → ArePlans 8 (map draft_of groups) plans
    → sent_image order plans ≡ image order groups
sent_is order groups plans h are = sym (image_is order groups plans (sendable groups (not_refused groups h).each) are)
