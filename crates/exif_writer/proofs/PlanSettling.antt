-- Slots settled one after the other.
use Rattle.std.proofs.Common.{◌≡◌, ℕ, zero, suc, ◌+◌, ◌%◌, ◌<◌, ◌≤◌, List, [], ◌∷◌, ◌++◌, length, map, take, drop, get_or, refl, sym, ap, subst, ◌∙◌, arith, Bool, true, false}
use Rattle.std.specs.Prelude.{if◌then◌else◌, nat_le, ◌==◌}
use Rattle.std.proofs.Math.ListN.{set}
use Rattle.std.proofs.lemmas.Bool.{true≢false}
use Rattle.std.proofs.lemmas.List.{append-nil, take_all, drop_all, with_items_is}
use Rattle.std.specs.Vec.{with_items}
use Rattle.std.specs.declared.vec.Vec.{Vec}
use mir.Val.{bool_byte}
use Rattle.exif_layout.specs.Slots as format
use Rattle.exif_layout.specs.Offsets.{even, after_value}
use Rattle.exif_writer.specs.Sending.{symbol, after_slot, values_end, settle_slot, settle, IsSettled, AreSettled}
use Rattle.exif_layout.specs.EntryContents.{content_size}
use Rattle.exif_writer.specs.declared.plan.Slot.{Slot}

-- the next slot is still as it was
pub settle_at : (start : ℕ) (slots : List Slot) (i : ℕ) (d : Slot) → i < length slots → get_or (settle start (take i slots) ++ drop i slots) i d ≡ get_or slots i d
settle_at start [] i d h = absurd (omega arith)
settle_at start (x ∷ slots) zero d h = refl
settle_at start (x ∷ slots) (suc i) d h = settle_at (after_slot start x) slots i d (omega arith)

-- one slot more
pub settle_more : (start : ℕ) (slots : List Slot) (i : ℕ) (new d : Slot) → i < length slots → new ≡ settle_slot (values_end start (take i slots)) (get_or slots i d)
    → set (settle start (take i slots) ++ drop i slots) i new ≡ settle start (take (i + 1) slots) ++ drop (i + 1) slots
settle_more start [] i new d h e = absurd (omega arith)
settle_more start (x ∷ slots) zero new d h e = ap (λ s. s ∷ slots) e
settle_more start (x ∷ slots) (suc i) new d h e =
    let next : suc i + 1 ≡ suc (i + 1) = omega arith in
    rw next (ap (λ s. settle_slot start x ∷ s) (settle_more (after_slot start x) slots i new d (omega arith) e))

-- all slots
pub settle_all : (start : ℕ) (slots : List Slot) (i : ℕ) → length slots ≤ i → settle start (take i slots) ++ drop i slots ≡ settle start slots
settle_all start slots i h = (λ k. settle start (take_all i slots h k) ++ drop_all i slots h k) ∙ append-nil (settle start slots)

-- settling leaves what a slot says
slot_same : (start : ℕ) (slot : Slot) → symbol (settle_slot start slot) ≡ symbol slot
slot_same start slot =
    elim (nat_le (content_size slot.content) 4) as (λ b. symbol (if b then record slot { size = content_size slot.content } else record slot { size = content_size slot.content; offset = even start; padded = start % 2 == 1 }) ≡ symbol slot) [ true ↦ refl | false ↦ refl ]

-- settling slots leaves all that images see of them: tags and contents
pub settle_same : (start : ℕ) (slots : List Slot) → map symbol (settle start slots) ≡ map symbol slots
settle_same start [] = refl
settle_same start (slot ∷ slots) = λ i. slot_same start slot i ∷ settle_same (after_slot start slot) slots i

-- settled slots are such
content_same : (start : ℕ) (slot : Slot) → (settle_slot start slot).content ≡ slot.content
content_same start slot =
    elim (nat_le (content_size slot.content) 4) as (λ b. (let s : Slot = if b then record slot { size = content_size slot.content } else record slot { size = content_size slot.content; offset = even start; padded = start % 2 == 1 } in s).content ≡ slot.content) [ true ↦ refl | false ↦ refl ]

settled_by : (start : ℕ) (slot : Slot) (b : Bool) → nat_le (content_size slot.content) 4 ≡ b
    → IsSettled start (if b then record slot { size = content_size slot.content } else record slot { size = content_size slot.content; offset = even start; padded = start % 2 == 1 })
settled_by start slot true e = record { size = refl; offset = λ h. absurd (true≢false (sym e ∙ h)); padded = λ h. absurd (true≢false (sym e ∙ h)) }
settled_by start slot false e = record { size = refl; offset = λ h. refl; padded = λ h. refl }

-- settled slots have their sizes, and their values outside are one behind the other
pub settle_are : (start : ℕ) (slots : List Slot) → AreSettled start (settle start slots)
settle_are start [] = tt
settle_are start (slot ∷ slots) =
    let P : ℕ → Type 0 = λ end. AreSettled end (settle (after_slot start slot) slots) in
    let same : after_slot start slot ≡ after_slot start (settle_slot start slot) = ap (λ content. after_value start (content_size content)) (sym (content_same start slot)) in
    (settled_by start slot (nat_le (content_size slot.content) 4) refl, subst P same (settle_are (after_slot start slot) slots))

-- the zero before a value
pub zeros_before : (start : ℕ) → start % 2 ≡ (if (start % 2 == 1) then 1 else 0)
zeros_before start = one_bit (start % 2) (omega arith)
  where
    one_bit : (n : ℕ) → n < 2 → n ≡ (if n == 1 then 1 else 0)
    one_bit zero h = refl
    one_bit (suc zero) h = refl
    one_bit (suc (suc n)) h = absurd (omega arith)

-- the number of zeros before a value, as a program counts them
pub one_if : (b : Bool) → bool_byte b ≡ (if b then 1 else 0)
one_if true = refl
one_if false = refl

settle_length : (start : ℕ) (slots : List Slot) → length (settle start slots) ≡ length slots
settle_length start [] = refl
settle_length start (slot ∷ slots) = ap suc (settle_length (after_slot start slot) slots)

-- a directory once it is settled
pub record IsSettling (start : ℕ) (symbols : List format.Slot) (slots : List Slot) : Type 0 where
  pub same : map symbol slots ≡ symbols
  pub are : AreSettled start slots

settling : {Z : Type 0} (start : ℕ) (symbols : List format.Slot) (old : Vec Slot Z) (lent new : List Slot) → map symbol old.items ≡ symbols → lent ≡ old.items → new ≡ settle start lent
    → IsSettling start symbols (with_items old new).items
settling start symbols old lent new same lend e =
    let is : new ≡ settle start old.items = e ∙ ap (settle start) lend in
    let len : length new ≡ old.len = ap length is ∙ settle_length start old.items ∙ sym old.ok.0 in
    let whole : (with_items old new).items ≡ settle start old.items = with_items_is old new len ∙ is in
    let P : List Slot → Type 0 = AreSettled start in
    record { same = ap (map symbol) whole ∙ settle_same start old.items ∙ same; are = subst P (sym whole) (settle_are start old.items) }

-- a vector whose slots are settled from an offset on is a settled directory that says the same
pub settling_at : {Z : Type 0} {start offset : ℕ} {symbols : List format.Slot} → start ≡ offset → (old : Vec Slot Z) {lent : List Slot} (new : List Slot) → map symbol old.items ≡ symbols → lent ≡ old.items
    → new ≡ settle start lent → IsSettling offset symbols (with_items old new).items
settling_at {start = start} {symbols = symbols} at old {lent = lent} new same lend e =
    let P : ℕ → Type 0 = λ p. IsSettling p symbols (with_items old new).items in
    subst P at (settling start symbols old lent new same lend e)
