-- Where the values of a directory end, found without sorting its entries.
use Rattle.std.proofs.Common.{◌≡◌, ℕ, ◌+◌, ◌<◌, ◌≤◌, List, [], ◌∷◌, ◌++◌, refl, ap, ◌∙◌, arith, Bool, true, false}
use Rattle.std.specs.Prelude.{if◌then◌else◌, nat_le, nat_lt, Option, Some, None}
use Rattle.std.proofs.lemmas.Bool.{leb-false, ltb-true, ltb-false, le-ltb, lt-ltb}
use Rattle.std.specs.List.{AllByRecursion}
use Rattle.exif_layout.specs.Slots.{Slot, inserted, in_tag_order, content_len}
use Rattle.exif_layout.specs.Offsets.{after_value, after_values, even}
use Rattle.exif_layout.specs.Measuring.{fits, span, later, last_out, end_from}
use Rattle.exif_layout.proofs.Images.Sorting.{IsUp, up_sorted}

span_inserted : (slot : Slot) (slots : List Slot) → span (inserted slot slots) ≡ span (slot ∷ slots)
span_inserted slot [] = refl
span_inserted slot (next ∷ slots) =
    elim (nat_le slot.tag next.tag) as (λ b. span (if b then slot ∷ next ∷ slots else next ∷ inserted slot slots) ≡ span (slot ∷ next ∷ slots)) [
      | true ↦ refl
      | false ↦ let e = span_inserted slot slots in
          let x : ℕ = if fits slot then 0 else even (content_len slot.content) in
          let y : ℕ = if fits next then 0 else even (content_len next.content) in
          let s : y + (x + span slots) ≡ x + (y + span slots) = omega arith in
          ap (λ n. y + n) e ∙ s
    ]

-- sorting by tag doesn't change how many bytes the values outside of entries take
pub span_sorted : (slots : List Slot) → span (in_tag_order slots) ≡ span slots
span_sorted [] = refl
span_sorted (slot ∷ slots) = span_inserted slot (in_tag_order slots) ∙ ap (λ n. (if fits slot then 0 else even (content_len slot.content)) + n) (span_sorted slots)

-- two slots of different tags in either order
later_both : (x y : Slot) (last : Option Slot) → y.tag < x.tag → later y (later x last) ≡ later x (later y last)
later_both x y None h = rw (lt-ltb y.tag x.tag h, le-ltb x.tag y.tag (omega arith)) refl
later_both x y (Some t) h = go (nat_lt t.tag x.tag) (nat_lt t.tag y.tag) refl refl
  where
    go : (a b : Bool) → nat_lt t.tag x.tag ≡ a → nat_lt t.tag y.tag ≡ b → later y (later x (Some t)) ≡ later x (later y (Some t))
    go true true e f = rw (e, f, lt-ltb y.tag x.tag h, le-ltb x.tag y.tag (omega arith)) refl
    go true false e f = rw (e, f, e, le-ltb x.tag y.tag (omega arith)) refl
    go false true e f = let a = ltb-false t.tag x.tag e in let b = ltb-true t.tag y.tag f in absurd (omega arith)
    go false false e f = rw (e, f, e) refl

last_inserted : (slot : Slot) (slots : List Slot) → last_out (inserted slot slots) ≡ last_out (slot ∷ slots)
last_inserted slot [] = refl
last_inserted slot (next ∷ slots) = go (nat_le slot.tag next.tag) refl (last_inserted slot slots)
  where
    both : (a b : Bool) → next.tag < slot.tag → (l : Option Slot)
        → (if a then (if b then l else later slot l) else later next (if b then l else later slot l)) ≡ (if b then (if a then l else later next l) else later slot (if a then l else later next l))
    both true true h l = refl
    both true false h l = refl
    both false true h l = refl
    both false false h l = later_both slot next l h

    go : (b : Bool) → nat_le slot.tag next.tag ≡ b → last_out (inserted slot slots) ≡ last_out (slot ∷ slots) → last_out (inserted slot (next ∷ slots)) ≡ last_out (slot ∷ next ∷ slots)
    go true e ih = rw e refl
    go false e ih =
        rw e (ap (λ l. if fits next then l else later next l) ih ∙ both (fits next) (fits slot) (leb-false slot.tag next.tag e) (last_out slots))

-- nor which slot is the last in tag order of those with values outside
pub last_sorted : (slots : List Slot) → last_out (in_tag_order slots) ≡ last_out slots
last_sorted [] = refl
last_sorted (slot ∷ slots) = last_inserted slot (in_tag_order slots) ∙ ap (λ l. if fits slot then l else later slot l) (last_sorted slots)

-- the last one is no lower than any bound of all
last_high : (n : ℕ) (slots : List Slot) (last : Slot) → AllByRecursion (λ s. n ≤ s.tag) slots → last_out slots ≡ Some last → n ≤ last.tag
last_high n [] last a e = absurd cc
last_high n (slot ∷ slots) last a e = go (fits slot) (last_out slots) refl refl (λ t k. last_high n slots t a.1 k) e
  where
    go : (b : Bool) (l : Option Slot) → fits slot ≡ b → last_out slots ≡ l → ((t : Slot) → last_out slots ≡ Some t → n ≤ t.tag)
        → (if fits slot then last_out slots else later slot (last_out slots)) ≡ Some last → n ≤ last.tag
    go true l f k ih e = ih last (rw f at e)
    go false None f k ih e =
        let j : Some slot ≡ Some last = rw (f, k) at e in
        let s : slot ≡ last = cc in
        let t = ap (λ (z : Slot). z.tag) s in let low = a.0 in omega arith
    go false (Some t) f k ih e = pick (nat_lt t.tag slot.tag) (rw (f, k) at e)
      where
        pick : (c : Bool) → (if c then Some slot else Some t) ≡ Some last → n ≤ last.tag
        pick true e = let s : slot ≡ last = cc in let t = ap (λ (z : Slot). z.tag) s in let low = a.0 in omega arith
        pick false e = let s : t ≡ last = cc in let u = ap (λ (z : Slot). z.tag) s in let low = ih t k in omega arith

-- where no slot has its value outside, such values take no bytes
pub span_none : (slots : List Slot) → last_out slots ≡ None → span slots ≡ 0
span_none [] e = refl
span_none (slot ∷ slots) e = go (fits slot) (last_out slots) refl refl (span_none slots) e
  where
    go : (b : Bool) (l : Option Slot) → fits slot ≡ b → last_out slots ≡ l → (last_out slots ≡ None → span slots ≡ 0) → (if fits slot then last_out slots else later slot (last_out slots)) ≡ None
        → (if fits slot then 0 else even (content_len slot.content)) + span slots ≡ 0
    go true l f k ih e = let r = ih (rw f at e) in rw f (omega arith)
    go false None f k ih e = let j : Some slot ≡ None = rw (f, k) at e in absurd cc
    go false (Some t) f k ih e = pick (nat_lt t.tag slot.tag) (rw (f, k) at e)
      where
        pick : (c : Bool) → (if c then Some slot else Some t) ≡ None → (if fits slot then 0 else even (content_len slot.content)) + span slots ≡ 0
        pick true e = absurd cc
        pick false e = absurd cc

-- the end of values in tag order
pub end_sorted : (offset : ℕ) (slots : List Slot) → IsUp slots → after_values offset slots ≡ end_from offset (span slots) (last_out slots)
end_sorted offset [] up = refl
end_sorted offset (slot ∷ slots) up = go (fits slot) (last_out slots) refl refl (λ p. end_sorted p slots up.1)
  where
    go : (b : Bool) (l : Option Slot) → fits slot ≡ b → last_out slots ≡ l → ((p : ℕ) → after_values p slots ≡ end_from p (span slots) (last_out slots))
        → after_values (after_value offset (content_len slot.content)) slots
        ≡ end_from offset ((if fits slot then 0 else even (content_len slot.content)) + span slots) (if fits slot then last_out slots else later slot (last_out slots))
    go true l f k ih = let z : 0 + span slots ≡ span slots = omega arith in rw (f, z) (ih offset)
    go false None f k ih =
        let none = span_none slots k in
        let p : ℕ = even offset + content_len slot.content in
        rw (f, k) (rw k at (ih p) ∙ omega arith)
    go false (Some t) f k ih =
        let high = last_high slot.tag slots t up.0 k in
        let same : nat_lt t.tag slot.tag ≡ false = le-ltb t.tag slot.tag high in
        let p : ℕ = even offset + content_len slot.content in
        rw (f, k, same) (rw k at (ih p) ∙ omega arith)

-- the end of the values of a directory, from its entries in any order
pub end_is : (offset : ℕ) (slots : List Slot) → after_values offset (in_tag_order slots) ≡ end_from offset (span slots) (last_out slots)
end_is offset slots = end_sorted offset (in_tag_order slots) (up_sorted slots) ∙ (λ i. end_from offset ((span_sorted slots) i) ((last_sorted slots) i))

-- a slot behind those of which the last one in tag order is known
abbrev pub newer : Slot → Option Slot → Option Slot
newer slot None = Some slot
newer slot (Some last) = if nat_lt slot.tag last.tag then Some last else Some slot

newer_later : (x s : Slot) (last : Option Slot) → later x (newer s last) ≡ newer s (later x last)
newer_later x s None = refl
newer_later x s (Some t) = go (nat_lt s.tag t.tag) (nat_lt t.tag x.tag) (nat_lt s.tag x.tag) refl refl refl
  where
    go : (a b c : Bool) → nat_lt s.tag t.tag ≡ a → nat_lt t.tag x.tag ≡ b → nat_lt s.tag x.tag ≡ c → later x (newer s (Some t)) ≡ newer s (later x (Some t))
    go true true true e f g = rw (e, f, g) refl
    go true true false e f g = let a = ltb-true s.tag t.tag e in let b = ltb-true t.tag x.tag f in let d = ltb-false s.tag x.tag g in absurd (omega arith)
    go true false c e f g = rw (e, f, e) refl
    go false true true e f g = rw (e, f, g) refl
    go false true false e f g = rw (e, f, g) refl
    go false false true e f g = let a = ltb-false s.tag t.tag e in let b = ltb-false t.tag x.tag f in let d = ltb-true s.tag x.tag g in absurd (omega arith)
    go false false false e f g = rw (e, f, g, e) refl

-- one slot more, in the order in which they come
pub last_pushed : (slots : List Slot) (slot : Slot) → last_out (slots ++ slot ∷ []) ≡ (if fits slot then last_out slots else newer slot (last_out slots))
last_pushed [] slot = refl
last_pushed (x ∷ slots) slot = ap (λ l. if fits x then l else later x l) (last_pushed slots slot) ∙ both (fits x) (fits slot) (last_out slots)
  where
    both : (a b : Bool) (l : Option Slot) → (if a then (if b then l else newer slot l) else later x (if b then l else newer slot l)) ≡ (if b then (if a then l else later x l) else newer slot (if a then l else later x l))
    both true true l = refl
    both true false l = refl
    both false true l = refl
    both false false l = newer_later x slot l

-- one more slot adds its value's even length, or nothing where that fits into its entry
pub span_pushed : (slots : List Slot) (slot : Slot) → span (slots ++ slot ∷ []) ≡ span slots + (if fits slot then 0 else even (content_len slot.content))
span_pushed [] slot = omega arith
span_pushed (x ∷ slots) slot =
    let e = span_pushed slots slot in
    let a : ℕ = if fits x then 0 else even (content_len x.content) in
    let b : ℕ = if fits slot then 0 else even (content_len slot.content) in
    let s : a + (span slots + b) ≡ (a + span slots) + b = omega arith in
    ap (λ n. a + n) e ∙ s
