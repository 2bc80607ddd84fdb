-- What the flat fields of a draft add to a directory when they are pushed: the entries that were pushed there, in tag order.
use Rattle.exif_layout.proofs.Moved.{moved_twice}
use Rattle.std.proofs.Common.{◌≡◌, ℕ, suc, ◌+◌, List, [], ◌∷◌, ◌++◌, refl, ap, ◌∙◌, Bool, true, false, cond}
use Rattle.std.specs.Prelude.{if◌then◌else◌, ◌==◌, nat_le, not}
use Rattle.std.specs.List.{AllByRecursion, flat_map, filter}
use Rattle.std.proofs.lemmas.Bool.{eq-eqb}
use Rattle.std.proofs.lemmas.List.{append-nil}
use Rattle.std.proofs.lemmas.List.Concat.{flat_map-append}
use Rattle.exif_layout.specs.Encoding.{moved_to}
use Rattle.exif_types.specs.Lookup.{context_eq}
use Rattle.exif_table.specs.declared.context.Context.{Context}
use Rattle.exif_types.specs.declared.field.Field.{Field}
use Rattle.exif_layout.specs.Groups.{is_ignored}
use Rattle.exif_layout.specs.Slots.{Draft, Slot, Content, Known, OffsetsOf, LengthsOf, OffsetOf, inserted, in_tag_order, content_len}
use Rattle.exif_layout.specs.Offsets.{written, directory_offset, values_offset, after_value, value_of, even}
use Rattle.exif_layout.specs.Flat.{entry_fields, directory_fields}
use Rattle.exif_layout.proofs.Images.Pushing.{added}

-- A slot holds no old offset, and what the writer made itself has a tag of its own.
abbrev pub IsSettled : Context → Slot → Type 0
IsSettled context slot =
    elim slot.content [
      | Known value ↦ moved_to 0 value ≡ value
      | OffsetsOf kind lengths ↦ is_ignored context slot.tag ≡ true
      | LengthsOf kind lengths ↦ is_ignored context slot.tag ≡ true
      | OffsetOf child ↦ is_ignored context slot.tag ≡ true
    ]

-- whether a slot was pushed
abbrev pub is_pushed : Context → Slot → Bool
is_pushed context slot = not (is_ignored context slot.tag)

-- what a slot of the directory `here` adds to the one of `context`, where `inner` says what a child adds
abbrev pub share : Context → Context → (Context → List Slot) → Slot → List Slot
share context here inner slot =
    elim slot.content [
      | Known value ↦ if is_ignored here slot.tag then [] else (if context_eq here context then slot ∷ [] else [])
      | OffsetsOf kind lengths ↦ []
      | LengthsOf kind lengths ↦ []
      | OffsetOf child ↦ inner child
    ]

module _ (draft : Draft) (start ifd : ℕ) where
  -- what one entry adds
  entry_adds : (context here : Context) (fields : Context → List Field) (tag : ℕ) (content : Content) (offset : ℕ)
      → IsSettled here (record { tag = tag; content = content })
      → flat_map (added ifd context) (entry_fields fields here ifd (record { tag = tag; content = content; value = value_of draft start content; offset = offset }))
      ≡ share context here (λ child. flat_map (added ifd context) (fields child)) (record { tag = tag; content = content })
  entry_adds context here fields tag (Known value) offset h =
      let n : (ifd == ifd) ≡ true = eq-eqb ifd ifd refl in
      let v : moved_to 0 (moved_to offset value) ≡ value = moved_twice 0 offset value ∙ h in
      append-nil _ ∙ rw (n, v) refl
  entry_adds context here fields tag (OffsetsOf kind lengths) offset h = append-nil _ ∙ rw h refl
  entry_adds context here fields tag (LengthsOf kind lengths) offset h = append-nil _ ∙ rw h refl
  entry_adds context here fields tag (OffsetOf child) offset h = refl

  entries_add : (context here : Context) (fields : Context → List Field) (at values : ℕ) (slots : List Slot) → AllByRecursion (IsSettled here) slots
      → flat_map (added ifd context) (flat_map (entry_fields fields here ifd) (written draft start at values slots))
      ≡ flat_map (share context here (λ child. flat_map (added ifd context) (fields child))) slots
  entries_add context here fields at values [] h = refl
  entries_add context here fields at values (slot ∷ slots) h =
      flat_map-append (added ifd context) (entry_fields fields here ifd (record {
        tag = slot.tag;
        content = slot.content;
        value = value_of draft start slot.content;
        offset = if nat_le (content_len slot.content) 4 then at + 8 else even values;
      })) (flat_map (entry_fields fields here ifd) (written draft start (at + 12) (after_value values (content_len slot.content)) slots))
      ∙ (λ i. entry_adds context here fields slot.tag slot.content (if nat_le (content_len slot.content) 4 then at + 8 else even values) h.0 i
      ++ entries_add context here fields (at + 12) (after_value values (content_len slot.content)) slots h.1 i)

  -- what a directory adds with its children, and what they add
  abbrev pub sum_of : ℕ → Context → Context → List Slot
  sum_of depth context here = flat_map (added ifd context) (directory_fields draft start ifd depth here)

  -- what a directory of settled slots adds is what its slots add, a pointer what its child adds
  pub sum_is : (depth : ℕ) (context here : Context) → AllByRecursion (IsSettled here) (draft.slots here)
      → sum_of (suc depth) context here ≡ flat_map (share context here (sum_of depth context)) (draft.slots here)
  sum_is depth context here h =
      entries_add context here (directory_fields draft start ifd depth) (directory_offset draft start here + 2) (values_offset draft start here) (draft.slots here) h

-- where each member gives nothing, the whole list gives nothing
pub flat_nothing : {X Y : Type 0} (f : X → List Y) (l : List X) → AllByRecursion (λ x. f x ≡ []) l → flat_map f l ≡ []
flat_nothing f [] h = refl
flat_nothing f (x ∷ l) h = λ i. h.0 i ++ flat_nothing f l h.1 i

flat_inserted : {Y : Type 0} (f : Slot → List Y) (x : Slot) (l : List Slot) → f x ≡ [] → flat_map f (inserted x l) ≡ flat_map f l
flat_inserted f x [] h = ap (λ r. r ++ []) h
flat_inserted f x (y ∷ l) h =
    elim (nat_le x.tag y.tag) as (λ b. flat_map f (if b then x ∷ y ∷ l else y ∷ inserted x l) ≡ flat_map f (y ∷ l)) [
      | true ↦ ap (λ r. r ++ (f y ++ flat_map f l)) h
      | false ↦ ap (λ r. f y ++ r) (flat_inserted f x l h)
    ]

-- what adds nothing can be left out before sorting
pub flat_sorted : {Y : Type 0} (f : Slot → List Y) (xs ys : List Slot) → AllByRecursion (λ x. f x ≡ []) xs → flat_map f (in_tag_order (xs ++ ys)) ≡ flat_map f (in_tag_order ys)
flat_sorted f [] ys h = refl
flat_sorted f (x ∷ xs) ys h = flat_inserted f x (in_tag_order (xs ++ ys)) h.0 ∙ flat_sorted f xs ys h.1

-- where each slot gives itself if it passes a test, else nothing, all give those that pass
pub flat_filter : (f : Slot → List Slot) (test : Slot → Bool) (l : List Slot) → AllByRecursion (λ x. f x ≡ cond (test x) (x ∷ []) []) l → flat_map f l ≡ filter test l
flat_filter f test [] h = refl
flat_filter f test (x ∷ l) h = ap (λ r. r ++ flat_map f l) h.0 ∙ ap (λ r. cond (test x) (x ∷ []) [] ++ r) (flat_filter f test l h.1) ∙ chosen (test x)
  where
    chosen : (b : Bool) → cond b (x ∷ []) [] ++ filter test l ≡ cond b (x ∷ filter test l) (filter test l)
    chosen true = refl
    chosen false = refl
