-- The fields of new Exif data are those that were pushed.
use Rattle.std.proofs.Common.{◌≡◌, ◌⊎◌, ◌<◌, ◌==◌, ◌&&◌, ◌||◌, ◌∙◌, ℕ, Bool, true, false, not, inl, inr, zero, suc, List, [], ◌∷◌, length, map, filter, if◌then◌else◌, refl, sym, ap, arith}
use Rattle.std.specs.Prelude.{nat_le, slice_index_or}
use Rattle.std.specs.List.{list_any}
use Rattle.std.proofs.lemmas.Bool.{and_parts, false≢true}
use Rattle.exif_types.specs.FieldEq.{ifd_Decides, tag_Decides}
use Rattle.exif_types.specs.Lookup.{context_eq, tag_eq}
use Rattle.exif_types.specs.declared.field.Field.{Field}
use Rattle.exif_types.specs.declared.value.Value.{Value}
use Rattle.exif_types.specs.declared.value.Value.TheVariants.{Byte, Ascii, Short, Long, Rational, SByte, Undefined, SShort, SLong, SRational, Float, Double, Unknown}
use Rattle.exif_layout.specs.Calls.{goes_into}
use Rattle.exif_layout.specs.Encoding.{moved_to}
use Rattle.exif_layout.specs.Groups.{entry_of, is_ignored}
use Rattle.exif_layout.specs.Pushing.{HoldsInTagOrder, IsMoved, slots_into}
use Rattle.exif_layout.specs.Slots.{Slot, in_tag_order, inserted, known}
use Rattle.exif_grow.specs.FieldPromises.{IsThere, bare, is_set, same_name}
use Rattle.exif_change_laws.specs.Assigned.{HasValueOf, written}
use Rattle.exif_change_laws.proofs.SetNames.{AreDistinct, name_turned}

-- ---- names

both_true : (a b : Bool) → a ≡ true → b ≡ true → (a && b) ≡ true
both_true true b e f = f
both_true false b e f = absurd (false≢true e)

-- a field has its own name
own_name : (g : Field) → same_name g g ≡ true
own_name g =
    both_true (tag_eq g.tag g.tag) (g.ifd_num.0 == g.ifd_num.0) ((tag_Decides g.tag g.tag).1 refl)
    ((ifd_Decides g.ifd_num g.ifd_num).1 refl)

-- a member of a list
abbrev pub Among : {A : Type 0} → List A → A → Type 0
Among [] y = ⊥
Among (x ∷ xs) y = (x ≡ y) ⊎ Among xs y

pub among : {A : Type 0} (xs : List A) (y : A) (k : ℕ) → k < length xs → slice_index_or xs k y ≡ y
    → Among xs y
among [] y k h e = absurd (omega (arith, h))
among (x ∷ xs) y zero h e = inl e
among (x ∷ xs) y (suc k) h e = inr (among xs y k (omega (arith, h)) e)

-- what holds of one
any_there : {A : Type 0} (test : A → Bool) (xs : List A) (y : A) → Among xs y → test y ≡ true
    → list_any test xs ≡ true
any_there test [] y h t = absurd h
any_there test (x ∷ xs) y (inl e) t = rw (ap test e ∙ t) refl
any_there test (x ∷ xs) y (inr h) t = by_test (test x) (any_there test xs y h t)
  where
    by_test : (b : Bool) → list_any test xs ≡ true → (b || list_any test xs) ≡ true
    by_test true e = refl
    by_test false e = e

-- ---- values

bare_moved : (offset : ℕ) (v : Value) → bare (moved_to offset v) ≡ bare v
bare_moved offset (Undefined xs old) = refl
bare_moved offset (Unknown type count old) = refl
bare_moved offset (Byte xs) = refl
bare_moved offset (Ascii xs) = refl
bare_moved offset (Short xs) = refl
bare_moved offset (Long xs) = refl
bare_moved offset (Rational xs) = refl
bare_moved offset (SByte xs) = refl
bare_moved offset (SShort xs) = refl
bare_moved offset (SLong xs) = refl
bare_moved offset (SRational xs) = refl
bare_moved offset (Float xs) = refl
bare_moved offset (Double xs) = refl

-- each field that is read has the name of one that was pushed
pub moved_named : (fields : List Field) (f : Field) → IsMoved fields f → is_set fields f ≡ true
moved_named fields f m =
    any_there (λ g. same_name g f) fields m.from (among fields m.from m.given.0 m.given.1 m.given.2)
    (ap (same_name m.from) m.moved ∙ own_name m.from)

-- of fields of different names there is one of a name
one_of_name : (fields : List Field) (g f : Field) → AreDistinct fields → Among fields g → Among fields f
    → same_name g f ≡ true → f ≡ g
one_of_name [] g f d a b n = absurd a
one_of_name (x ∷ xs) g f d (inl a) (inl b) n = sym b ∙ a
one_of_name (x ∷ xs) g f d (inl a) (inr b) n =
    let named : same_name f x ≡ true = ap (same_name f) a ∙ name_turned g f n in
    absurd (false≢true (sym d.0 ∙ any_there (λ h. same_name h x) xs f b named))
one_of_name (x ∷ xs) g f d (inr a) (inl b) n =
    let named : same_name g x ≡ true = ap (same_name g) b ∙ n in
    absurd (false≢true (sym d.0 ∙ any_there (λ h. same_name h x) xs g a named))
one_of_name (x ∷ xs) g f d (inr a) (inr b) n = one_of_name xs g f d.1 a b n

-- and its value
pub moved_value : (fields : List Field) (g : Field) → AreDistinct fields → Among fields g → (f : Field)
    → IsMoved fields f → HasValueOf g f
moved_value fields g d c f m = λ n.
    let same : m.from ≡ g = one_of_name fields g m.from d c (among fields m.from m.given.0 m.given.1 m.given.2) (sym (ap (same_name g) m.moved) ∙ n) in
    ap (λ (x : Field). bare x.value) m.moved
    ∙ (bare_moved m.offset m.from.value ∙ ap (λ (x : Field). bare x.value) same)

-- ---- what is there

-- whether a slot has a tag
abbrev has_tag : ℕ → Slot → Bool
has_tag n slot = slot.tag == n

inserted_any : (test : Slot → Bool) (s : Slot) (slots : List Slot)
    → list_any test (inserted s slots) ≡ (test s || list_any test slots)
inserted_any test s [] = refl
inserted_any test s (next ∷ slots) = by_order (nat_le s.tag next.tag) (inserted_any test s slots)
  where
    turned : (a b c : Bool) → (a || (b || c)) ≡ (b || (a || c))
    turned true true c = refl
    turned true false c = refl
    turned false true c = refl
    turned false false c = refl

    by_order : (b : Bool) → list_any test (inserted s slots) ≡ (test s || list_any test slots)
        → list_any test (if b then s ∷ next ∷ slots else next ∷ inserted s slots)
        ≡ (test s || (test next || list_any test slots))
    by_order true e = refl
    by_order false e = ap (λ b. test next || b) e ∙ turned (test next) (test s) (list_any test slots)

-- an order changes no members
ordered_any : (test : Slot → Bool) (slots : List Slot) → list_any test (in_tag_order slots) ≡ list_any test slots
ordered_any test [] = refl
ordered_any test (s ∷ slots) =
    inserted_any test s (in_tag_order slots) ∙ ap (λ b. test s || b) (ordered_any test slots)

-- whether a field has a tag's number and goes into its directory
abbrev goes : Field → Field → Bool
goes g f = goes_into g.ifd_num.0 g.tag.0 f && (f.tag.1 == g.tag.1)

-- the slots of a directory, by their fields
slots_any : (g : Field) (fields : List Field)
    → list_any (has_tag g.tag.1) (slots_into g.ifd_num.0 g.tag.0 fields) ≡ list_any (goes g) fields
slots_any g [] = refl
slots_any g (f ∷ fs) = by_goes (goes_into g.ifd_num.0 g.tag.0 f) (slots_any g fs)
  where
    by_goes : (b : Bool)
        → list_any (has_tag g.tag.1) (slots_into g.ifd_num.0 g.tag.0 fs) ≡ list_any (goes g) fs
        → list_any (has_tag g.tag.1) (map known (map entry_of (if b then f ∷ filter (goes_into g.ifd_num.0 g.tag.0) fs else filter (goes_into g.ifd_num.0 g.tag.0) fs)))
        ≡ ((b && (f.tag.1 == g.tag.1)) || list_any (goes g) fs)
    by_goes true e = ap (λ b. (f.tag.1 == g.tag.1) || b) e
    by_goes false e = e

-- a field that goes where another does has its name
goes_named : (g f : Field) → goes g f ≡ true → same_name g f ≡ true
goes_named g f e =
    let p = and_parts (goes_into g.ifd_num.0 g.tag.0 f) (f.tag.1 == g.tag.1) e in
    let q = and_parts (not (is_ignored f.tag.0 f.tag.1)) ((f.ifd_num.0 == g.ifd_num.0) && context_eq f.tag.0 g.tag.0) p.0 in
    let r = and_parts (f.ifd_num.0 == g.ifd_num.0) (context_eq f.tag.0 g.tag.0) q.1 in
    both_true (tag_eq f.tag g.tag) (f.ifd_num.0 == g.ifd_num.0)
    (both_true (context_eq f.tag.0 g.tag.0) (f.tag.1 == g.tag.1) r.1 p.1) r.0

-- a field that can be written goes where it does itself
goes_itself : (g : Field) → is_ignored g.tag.0 g.tag.1 ≡ false → goes g g ≡ true
goes_itself g w =
    let n = own_name g in
    let p = and_parts (tag_eq g.tag g.tag) (g.ifd_num.0 == g.ifd_num.0) n in
    let q = and_parts (context_eq g.tag.0 g.tag.0) (g.tag.1 == g.tag.1) p.0 in
    both_true (goes_into g.ifd_num.0 g.tag.0 g) (g.tag.1 == g.tag.1)
    (both_true (not (is_ignored g.tag.0 g.tag.1)) ((g.ifd_num.0 == g.ifd_num.0) && context_eq g.tag.0 g.tag.0)
    (ap not w) (both_true (g.ifd_num.0 == g.ifd_num.0) (context_eq g.tag.0 g.tag.0) p.1 q.0)) q.1

-- more is there where a weaker test is meant
any_weaker : (a b : Field → Bool) → ((f : Field) → a f ≡ true → b f ≡ true) → (fs : List Field)
    → list_any a fs ≡ true → list_any b fs ≡ true
any_weaker a b h [] e = e
any_weaker a b h (f ∷ fs) e = by_test (a f) refl e (any_weaker a b h fs)
  where
    or_true : (x y : Bool) → y ≡ true → (x || y) ≡ true
    or_true true y e = refl
    or_true false y e = e

    by_test : (x : Bool) → a f ≡ x → (x || list_any a fs) ≡ true
        → (list_any a fs ≡ true → list_any b fs ≡ true) → (b f || list_any b fs) ≡ true
    by_test true t e k = rw (h f t) refl
    by_test false t e k = or_true (b f) (list_any b fs) (k e)

-- each pushed field is there
pub pushed_there : (fields : List Field) (g : Field) → HoldsInTagOrder fields → is_ignored g.tag.0 g.tag.1 ≡ false
    → Among fields g → IsThere (written fields) g
pushed_there fields g order w c =
    any_weaker (goes g) (same_name g) (goes_named g) (written fields)
    (sym (slots_any g (written fields))
    ∙ (ap (list_any (has_tag g.tag.1)) (order g.ifd_num.0 g.tag.0)
    ∙ (ordered_any (has_tag g.tag.1) (slots_into g.ifd_num.0 g.tag.0 fields)
    ∙ (slots_any g fields ∙ any_there (goes g) fields g c (goes_itself g w)))))
