-- Fields with other values under some names.
use Rattle.std.proofs.Common.{◌≡◌, ◌∙◌, true, false, Bool, List, [], ◌∷◌, Option, Some, None, if◌then◌else◌, refl, sym, ap}
use Rattle.std.specs.Prelude.{◌||◌, ◌&&◌, ◌==◌}
use Rattle.std.specs.List.{list_any}
use Rattle.std.specs.Option.{option_map}
use Rattle.std.proofs.lemmas.Bool.{and_parts, false≢true}
use Rattle.exif_text.specs.declared.ifd.In.{In}
use Rattle.exif_types.specs.FieldEq.{tag_Decides}
use Rattle.exif_types.specs.Lookup.{is_named, last_named, tag_eq}
use Rattle.exif_types.specs.declared.field.Field.{Field}
use Rattle.exif_types.specs.declared.tag.Tag.{Tag}
use Rattle.exif_types.specs.declared.value.Value.{Value}
use Rattle.exif_edit_base.specs.Finding.{replaced, with_value}
use Rattle.exif_edit.proofs.SetFound.{from_behind, last_passing}

-- no field has both names
abbrev pub AreApart : Tag → Tag → In → Type 0
AreApart t u k = (f : Field) → is_named t k f ≡ true → is_named u k f ≡ false

-- two tags that are not one
pub tags_apart : (t u : Tag) (k : In) → tag_eq t u ≡ false → AreApart t u k
tags_apart t u k h f n = by_test (tag_eq f.tag u) refl
  where
    by_test : (b : Bool) → tag_eq f.tag u ≡ b → (b && (f.ifd_num.0 == k.0)) ≡ false
    by_test false e = refl
    by_test true e =
        let p = and_parts (tag_eq f.tag t) (f.ifd_num.0 == k.0) n in
        let a : f.tag ≡ t = (tag_Decides f.tag t).0 p.0 in
        let b : f.tag ≡ u = (tag_Decides f.tag u).0 e in
        absurd (false≢true (sym h ∙ (tag_Decides t u).1 (sym a ∙ b)))

-- another value changes no name
pub any_replaced : (t u : Tag) (k : In) (v : Value) (fs : List Field)
    → list_any (is_named u k) (replaced t k v fs) ≡ list_any (is_named u k) fs
any_replaced t u k v [] = refl
any_replaced t u k v (f ∷ fs) =
    by_tests (list_any (is_named t k) fs) (is_named t k f) (any_replaced t u k v fs)
  where
    by_tests : (a b : Bool) → list_any (is_named u k) (replaced t k v fs) ≡ list_any (is_named u k) fs
        → list_any (is_named u k) (if a then f ∷ replaced t k v fs else ((if b then with_value v f else f) ∷ fs))
        ≡ (is_named u k f || list_any (is_named u k) fs)
    by_tests true b h = ap (λ x. is_named u k f || x) h
    by_tests false true h = refl
    by_tests false false h = refl

-- the value that is there, set again
same_replaced : (t : Tag) (k : In) (fs : List Field) (g : Field) → last_passing (is_named t k) fs ≡ Some g
    → replaced t k g.value fs ≡ fs
unfolding last_passing
same_replaced t k [] g h = refl
same_replaced t k (f ∷ fs) g h =
    by_tests (list_any (is_named t k) fs) (is_named t k f) (same_replaced t k fs g) h
  where
    none_some : ◌≡◌ {A = Option Field} None (Some g) → ⊥
    none_some e = cc

    same : ◌≡◌ {A = Option Field} (Some f) (Some g) → f ≡ g
    same e = cc

    by_tests : (a b : Bool) → (last_passing (is_named t k) fs ≡ Some g → replaced t k g.value fs ≡ fs)
        → (if a then last_passing (is_named t k) fs else (if b then Some f else None)) ≡ Some g
        → (if a then f ∷ replaced t k g.value fs else ((if b then with_value g.value f else f) ∷ fs)) ≡ f ∷ fs
    by_tests true b r h = ap (λ xs. f ∷ xs) (r h)
    by_tests false true r h = ap (λ (x : Field). with_value x.value f ∷ fs) (sym (same h))
    by_tests false false r h = absurd (none_some h)

-- two values, set one after the other
pub twice_replaced : (t : Tag) (k : In) (v w : Value) (fs : List Field)
    → replaced t k v (replaced t k w fs) ≡ replaced t k v fs
twice_replaced t k v w [] = refl
twice_replaced t k v w (f ∷ fs) =
    by_tests (list_any (is_named t k) fs) (is_named t k f) refl refl (twice_replaced t k v w fs)
  where
    by_tests : (a b : Bool) → list_any (is_named t k) fs ≡ a → is_named t k f ≡ b
        → replaced t k v (replaced t k w fs) ≡ replaced t k v fs
        → replaced t k v (if a then f ∷ replaced t k w fs else ((if b then with_value w f else f) ∷ fs))
        ≡ (if a then f ∷ replaced t k v fs else ((if b then with_value v f else f) ∷ fs))
    by_tests true b p q r =
        let any : list_any (is_named t k) (replaced t k w fs) ≡ true = any_replaced t t k w fs ∙ p in
        rw any (ap (λ xs. f ∷ xs) r)
    by_tests false true p q r = rw (p, q) refl
    by_tests false false p q r = rw (p, q) refl

-- values under two names
pub replaced_turned : (t u : Tag) (k : In) (v w : Value) (fs : List Field) → AreApart t u k
    → replaced t k v (replaced u k w fs) ≡ replaced u k w (replaced t k v fs)
replaced_turned t u k v w [] h = refl
replaced_turned t u k v w (f ∷ fs) h =
    by_tests (list_any (is_named t k) fs) (list_any (is_named u k) fs) (is_named t k f) (is_named u k f) refl refl refl refl
    (h f) (replaced_turned t u k v w fs h)
  where
    by_tests : (a b c d : Bool) → list_any (is_named t k) fs ≡ a → list_any (is_named u k) fs ≡ b
        → is_named t k f ≡ c → is_named u k f ≡ d → (c ≡ true → d ≡ false)
        → replaced t k v (replaced u k w fs) ≡ replaced u k w (replaced t k v fs)
        → replaced t k v (if b then f ∷ replaced u k w fs else ((if d then with_value w f else f) ∷ fs))
        ≡ replaced u k w (if a then f ∷ replaced t k v fs else ((if c then with_value v f else f) ∷ fs))
    by_tests true true c d p q r s n e =
        let x : list_any (is_named t k) (replaced u k w fs) ≡ true = any_replaced u t k w fs ∙ p in
        let y : list_any (is_named u k) (replaced t k v fs) ≡ true = any_replaced t u k v fs ∙ q in
        rw (x, y) (ap (λ xs. f ∷ xs) e)
    by_tests true false c true p q r s n e =
        let y : list_any (is_named u k) (replaced t k v fs) ≡ false = any_replaced t u k v fs ∙ q in
        rw (p, y, s) refl
    by_tests true false c false p q r s n e =
        let y : list_any (is_named u k) (replaced t k v fs) ≡ false = any_replaced t u k v fs ∙ q in
        rw (p, y, s) refl
    by_tests false true true d p q r s n e =
        let x : list_any (is_named t k) (replaced u k w fs) ≡ false = any_replaced u t k w fs ∙ p in
        rw (x, q, r) refl
    by_tests false true false d p q r s n e =
        let x : list_any (is_named t k) (replaced u k w fs) ≡ false = any_replaced u t k w fs ∙ p in
        rw (x, q, r) refl
    by_tests false false true true p q r s n e = absurd (false≢true (sym (n refl)))
    by_tests false false true false p q r s n e = rw (p, q, r, s) refl
    by_tests false false false true p q r s n e = rw (p, q, r, s) refl
    by_tests false false false false p q r s n e = rw (p, q, r, s) refl

-- another name's last field
kept_last : (t u : Tag) (k : In) (w : Value) (fs : List Field) → AreApart t u k
    → last_passing (is_named t k) (replaced u k w fs) ≡ last_passing (is_named t k) fs
unfolding last_passing
kept_last t u k w [] h = refl
kept_last t u k w (f ∷ fs) h =
    by_tests (list_any (is_named t k) fs) (list_any (is_named u k) fs) (is_named t k f) (is_named u k f) refl refl refl
    (h f) (kept_last t u k w fs h)
  where
    by_tests : (a b c d : Bool) → list_any (is_named t k) fs ≡ a
        → is_named t k f ≡ c → is_named u k f ≡ d → (c ≡ true → d ≡ false)
        → last_passing (is_named t k) (replaced u k w fs) ≡ last_passing (is_named t k) fs
        → last_passing (is_named t k) (if b then f ∷ replaced u k w fs else ((if d then with_value w f else f) ∷ fs))
        ≡ (if a then last_passing (is_named t k) fs else (if c then Some f else None))
    by_tests a true c d p r s n e =
        let x : list_any (is_named t k) (replaced u k w fs) ≡ a = any_replaced u t k w fs ∙ p in
        rw (x, r, e) refl
    by_tests a false true true p r s n e = absurd (false≢true (sym (n refl)))
    by_tests a false false true p r s n e = rw (p, r) refl
    by_tests a false c false p r s n e = rw (p, r) refl

-- ---- by look-ups

pub last_same : (t : Tag) (k : In) (fs : List Field) (g : Field) → last_named fs t k ≡ Some g → replaced t k g.value fs ≡ fs
last_same t k fs g h = same_replaced t k fs g (sym (from_behind (is_named t k) fs) ∙ h)

pub last_kept : (t u : Tag) (k : In) (w : Value) (fs : List Field) → AreApart t u k
    → last_named (replaced u k w fs) t k ≡ last_named fs t k
last_kept t u k w fs h =
    from_behind (is_named t k) (replaced u k w fs)
    ∙ (kept_last t u k w fs h ∙ sym (from_behind (is_named t k) fs))

last_set : (t : Tag) (k : In) (v : Value) (fs : List Field)
    → last_passing (is_named t k) (replaced t k v fs) ≡ option_map (with_value v) (last_passing (is_named t k) fs)
unfolding last_passing
last_set t k v [] = refl
last_set t k v (f ∷ fs) =
    by_tests (list_any (is_named t k) fs) (is_named t k f) refl refl (last_set t k v fs)
  where
    by_tests : (a b : Bool) → list_any (is_named t k) fs ≡ a → is_named t k f ≡ b
        → last_passing (is_named t k) (replaced t k v fs) ≡ option_map (with_value v) (last_passing (is_named t k) fs)
        → last_passing (is_named t k) (if a then f ∷ replaced t k v fs else ((if b then with_value v f else f) ∷ fs))
        ≡ option_map (with_value v) (if a then last_passing (is_named t k) fs else (if b then Some f else None))
    by_tests true b p q e =
        let any : list_any (is_named t k) (replaced t k v fs) ≡ true = any_replaced t t k v fs ∙ p in
        rw any e
    by_tests false true p q e = rw (p, q) refl
    by_tests false false p q e = rw (p, q) refl

pub last_value : (t : Tag) (k : In) (v : Value) (fs : List Field)
    → last_named (replaced t k v fs) t k ≡ option_map (with_value v) (last_named fs t k)
last_value t k v fs =
    from_behind (is_named t k) (replaced t k v fs)
    ∙ (last_set t k v fs ∙ ap (option_map (with_value v)) (sym (from_behind (is_named t k) fs)))
