-- Steps of counting entries.
use Rattle.std.proofs.Common.{◌≡◌, ℕ, ◌+◌, ◌-◌, ◌%◌, ◌<◌, ◌≤◌, List, [], ◌∷◌, ◌++◌, refl, sym, ap, ◌∙◌, arith, true, false}
use Rattle.std.specs.Prelude.{if◌then◌else◌, nat_le, nat_lt, Option, Some, None}
use Rattle.std.specs.Option.{option_map}
use Rattle.std.proofs.lemmas.Bool.{le-leb, lt-leb, lt-ltb, le-ltb}
use Rattle.exif_layout.proofs.Images.Exact as exact
use Rattle.exif_writer.specs.declared.measure.Tail.{Tail}
use Rattle.exif_writer.specs.Tails.{measure, Tells}
use Rattle.exif_layout.specs.Slots.{Slot, content_len, in_tag_order}
use Rattle.exif_layout.specs.Offsets.{after_values}
use Rattle.exif_layout.specs.Measuring.{span, last_out, end_from}

-- a count stays right over one more entry whose value takes at most four bytes
pub tells_small : (tail : Tail) (size : ℕ) (slots : List Slot) (slot : Slot) → size ≤ 4 → content_len slot.content ≡ size → Tells tail slots → Tells tail (slots ++ slot ∷ [])
tells_small tail size slots slot h e t =
    let small : nat_le (content_len slot.content) 4 ≡ true = le-leb (content_len slot.content) 4 (omega arith) in
    record {
      bytes = t.bytes ∙ sym (exact.span_pushed slots slot ∙ rw small (omega arith));
      last = t.last ∙ sym (ap (option_map measure) (exact.last_pushed slots slot ∙ rw small refl));
    }

-- the tag and the size of the later one
newer_pair : ℕ → ℕ → Option (ℕ × ℕ) → Option (ℕ × ℕ)
newer_pair tag size None = Some (tag, size)
newer_pair tag size (Some last) = if nat_lt tag last.0 then Some last else Some (tag, size)

newer_is : (slot : Slot) (last : Option Slot) → newer_pair slot.tag (content_len slot.content) (option_map measure last) ≡ option_map measure (exact.newer slot last)
unfolding newer_pair
newer_is slot None = refl
newer_is slot (Some t) = elim (nat_lt slot.tag t.tag) as (λ b. (if b then Some (measure t) else Some (measure slot)) ≡ option_map measure (if b then Some t else Some slot)) [ true ↦ refl | false ↦ refl ]

tells_big : (tail new : Tail) (tag size : ℕ) (slots : List Slot) (slot : Slot) → 4 < size → slot.tag ≡ tag → content_len slot.content ≡ size → Tells tail slots
    → new.bytes ≡ tail.bytes + (size + size % 2) → new.last ≡ newer_pair tag size tail.last → Tells new (slots ++ slot ∷ [])
tells_big tail new tag size slots slot h k e t bytes last =
    let big : nat_le (content_len slot.content) 4 ≡ false = lt-leb (content_len slot.content) 4 (omega arith) in
    let pair : newer_pair tag size tail.last ≡ newer_pair slot.tag (content_len slot.content) (option_map measure (last_out slots)) =
    λ i. newer_pair ((sym k) i) ((sym e) i) (t.last i) in
    record {
      bytes = bytes ∙ (λ i. t.bytes i + (((sym e) i) + ((sym e) i) % 2)) ∙ sym (exact.span_pushed slots slot ∙ rw big refl);
      last = last ∙ pair ∙ newer_is slot (last_out slots) ∙ ap (option_map measure) (sym (exact.last_pushed slots slot ∙ rw big refl));
    }

-- the first value of over four bytes adds its bytes, made even, and is the last in tag order
pub tells_first : (tail new : Tail) (tag size : ℕ) (slots : List Slot) (slot : Slot) → 4 < size → slot.tag ≡ tag → content_len slot.content ≡ size → Tells tail slots
    → new.bytes ≡ tail.bytes + (size + size % 2) → tail.last ≡ None → new.last ≡ Some (tag, size) → Tells new (slots ++ slot ∷ [])
unfolding newer_pair
tells_first tail new tag size slots slot h k e t bytes none last =
    tells_big tail new tag size slots slot h k e t bytes (last ∙ sym (ap (newer_pair tag size) none))

-- a value of over four bytes, its tag no lower than the last one's, adds its bytes and is last
pub tells_newer : (tail new : Tail) (tag size : ℕ) (pair : ℕ × ℕ) (slots : List Slot) (slot : Slot) → 4 < size → slot.tag ≡ tag → content_len slot.content ≡ size → Tells tail slots
    → new.bytes ≡ tail.bytes + (size + size % 2) → tail.last ≡ Some pair → pair.0 ≤ tag → new.last ≡ Some (tag, size) → Tells new (slots ++ slot ∷ [])
unfolding newer_pair
tells_newer tail new tag size pair slots slot h k e t bytes some low last =
    tells_big tail new tag size slots slot h k e t bytes (last ∙ sym (ap (newer_pair tag size) some ∙ rw (le-ltb tag pair.0 low) refl))

-- a value of over four bytes, its tag lower than the last one's, only adds its bytes
pub tells_older : (tail new : Tail) (tag size : ℕ) (pair : ℕ × ℕ) (slots : List Slot) (slot : Slot) → 4 < size → slot.tag ≡ tag → content_len slot.content ≡ size → Tells tail slots
    → new.bytes ≡ tail.bytes + (size + size % 2) → tail.last ≡ Some pair → tag < pair.0 → new.last ≡ tail.last → Tells new (slots ++ slot ∷ [])
unfolding newer_pair
tells_older tail new tag size pair slots slot h k e t bytes some high last =
    tells_big tail new tag size slots slot h k e t bytes (last ∙ some ∙ sym (ap (newer_pair tag size) some ∙ rw (lt-ltb tag pair.0 high) refl))

-- the end of values, from what a count says
pub told_none : (tail : Tail) (offset : ℕ) (slots : List Slot) → Tells tail slots → tail.last ≡ None → offset ≡ after_values offset (in_tag_order slots)
told_none tail offset slots t none = go (last_out slots) refl (sym t.last ∙ none)
  where
    go : (l : Option Slot) → last_out slots ≡ l → option_map measure (last_out slots) ≡ None → offset ≡ after_values offset (in_tag_order slots)
    go None k n = sym (exact.end_is offset slots ∙ ap (end_from offset (span slots)) k)
    go (Some s) k n = let j : Some (measure s) ≡ None = rw k at n in absurd cc

-- values outside their entries end behind all counted bytes, without the pad of the last one
pub told_some : (tail : Tail) (offset : ℕ) (pair : ℕ × ℕ) (slots : List Slot) → Tells tail slots → tail.last ≡ Some pair
    → offset + offset % 2 + tail.bytes - pair.1 % 2 ≡ after_values offset (in_tag_order slots)
told_some tail offset pair slots t some = go (last_out slots) refl (sym t.last ∙ some)
  where
    go : (l : Option Slot) → last_out slots ≡ l → option_map measure (last_out slots) ≡ Some pair → offset + offset % 2 + tail.bytes - pair.1 % 2 ≡ after_values offset (in_tag_order slots)
    go None k n = let j : None ≡ Some pair = rw k at n in absurd cc
    go (Some s) k n =
        let j : Some (measure s) ≡ Some pair = rw k at n in
        let m : measure s ≡ pair = cc in
        (λ i. offset + offset % 2 + t.bytes i - ((sym m) i).1 % 2) ∙ sym (exact.end_is offset slots ∙ ap (end_from offset (span slots)) k)
