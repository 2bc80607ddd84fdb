-- The steps of asking whether patches change what is looked at.
use Rattle.std.proofs.Common.{◌≡◌, ◌≤◌, ◌<◌, ◌+◌, ◌-◌, ◌*◌, ℕ, Bool, true, false, if◌then◌else◌, List, [], ◌∷◌, length, All, map, refl, sym, ap, ◌∙◌, arith}
use Rattle.std.specs.Prelude.{◌&&◌, ◌||◌, ◌^◌, nat_lt, nat_le}
use Rattle.std.specs.List.{filter, flat_map, list_any}
use Rattle.std.proofs.lemmas.Bool.Decides.{nat_tests}
use Rattle.std.proofs.lemmas.List.Elements.{All-head, All-tail, All-nil, All-cons}
use Rattle.std.proofs.lemmas.List.Folds.{list_any-append}
use Rattle.std.proofs.Math.Bool.{or-false, and-false}
use Rattle.exif_base.specs.Bytes.{Reading, number_at, spaced}
use Rattle.exif_text.specs.FieldTypes.{type_of, known_length}
use Rattle.exif_tiff.specs.Footprint.{Stretch, value_stretch}
use Rattle.exif_tiff.proofs.ParserRuns.{spaced_step}
use Rattle.exif_edit_base.specs.Patches.{FitsIn}
use Rattle.exif_edit_base.specs.declared.patch.Patch.{Patch}
use Rattle.exif_edit_base.specs.declared.patch.Span.{Span}
use Rattle.exif_edit.specs.Changing.{changes, covers}
use Rattle.exif_edit_base.specs.Spans.{nowhere, value_span, within, value_space}

-- ---- loops over entries

either : (T : Stretch → Bool) (f : ℕ → List Stretch) (at' n i : ℕ) (all : Bool) → i < n
    → list_any T (flat_map f (spaced at' 12 (n - i))) ≡ all
    → (list_any T (f at') || list_any T (flat_map f (spaced (at' + 12) 12 (n - (i + 1))))) ≡ all
either T f at' n i all h e =
    sym (list_any-append T (f at') (flat_map f (spaced (at' + 12) 12 (n - (i + 1)))))
    ∙ (rw (spaced_step n i at' 12 h) at e)

-- none of the entry at hand is changed: the rest decides
pub entry_on : (T : Stretch → Bool) (f : ℕ → List Stretch) (at' n i : ℕ) (b all : Bool) → i < n
    → b ≡ list_any T (f at') → b ≡ false
    → list_any T (flat_map f (spaced at' 12 (n - i))) ≡ all
    → list_any T (flat_map f (spaced (at' + 12) 12 (n - (i + 1)))) ≡ all
entry_on T f at' n i b all h e missed inv =
    ap (λ x. x || list_any T (flat_map f (spaced (at' + 12) 12 (n - (i + 1))))) (sym missed ∙ e)
    ∙ either T f at' n i all h inv

-- some of it is: so is some of all
pub entry_met : (T : Stretch → Bool) (f : ℕ → List Stretch) (at' n i : ℕ) (b all : Bool) → i < n
    → b ≡ list_any T (f at') → b ≡ true
    → list_any T (flat_map f (spaced at' 12 (n - i))) ≡ all → true ≡ all
entry_met T f at' n i b all h e hit inv =
    ap (λ x. x || list_any T (flat_map f (spaced (at' + 12) 12 (n - (i + 1))))) (sym hit ∙ e)
    ∙ either T f at' n i all h inv

-- ---- the value of an entry

-- no patch has a byte of nothing at 0
none_of_nothing : (ps : List Patch) → changes ps (record { offset = 0; len = 0 }) ≡ false
none_of_nothing [] = refl
none_of_nothing (p ∷ ps) =
    let a : nat_lt p.offset 0 ≡ false = grind (arith, nat_tests) in
    let b : covers (record { offset = 0; len = 0 }) p ≡ false =
    ap (λ x. nat_lt 0 (p.offset + length p.bytes) && x) a ∙ and-false _ in
    ap (λ x. x || changes ps (record { offset = 0; len = 0 })) b ∙ none_of_nothing ps

-- a span as a stretch
abbrev pub stretch_of : Span → Stretch
stretch_of s = record { offset = s.offset; len = s.len }

module _ (ps : List Patch) (number : Reading) (bytes : List ℕ) (e : ℕ) where
  abbrev size : ℕ
  size =
      known_length (type_of (number_at number 2 bytes (e + 2))) * number_at number 4 bytes (e + 4)

  abbrev offset : ℕ
  offset = number_at number 4 bytes (e + 8)

  abbrev span_by : Bool → Span
  span_by b = if b then nowhere else record { offset = offset; len = size }

  by_tests : (a b c : Bool) → nat_lt 4 size ≡ a → nat_le size 4 ≡ b
      → nat_le (offset + size) (length bytes) ≡ c
      → changes ps (stretch_of (within (length bytes) (span_by b)))
      ≡ list_any (changes ps)
      (if a && c then record { offset = offset; len = size } ∷ [] else [])
  by_tests true true c p q r = absurd (grind (arith, nat_tests))
  by_tests false false c p q r = absurd (grind (arith, nat_tests))
  by_tests false true c p q r =
      let z : nat_le 0 (length bytes) ≡ true = grind (arith, nat_tests) in
      rw z (none_of_nothing ps)
  by_tests true false true p q r = rw r (sym (or-false _))
  by_tests true false false p q r = rw r (none_of_nothing ps)

  -- it is changed where the stretch of the value is
  pub value_same : changes ps (stretch_of (value_span number bytes e))
      ≡ list_any (changes ps) (value_stretch number bytes e)
  value_same =
      by_tests (nat_lt 4 size) (nat_le size 4) (nat_le (offset + size) (length bytes)) refl refl refl

-- it lies in the data
pub value_near : (number : Reading) (bytes : List ℕ) (e : ℕ)
    → (value_span number bytes e).offset + (value_span number bytes e).len ≤ length bytes
value_near number bytes e =
    by_test (value_space number bytes e) (nat_le ((value_space number bytes e).offset +
    (value_space number bytes e).len) (length bytes)) refl
  where
    by_test : (s : Span) (b : Bool) → nat_le (s.offset + s.len) (length bytes) ≡ b
        → (if b then s else nowhere).offset + (if b then s else nowhere).len ≤ length bytes
    by_test s true h = grind (arith, nat_tests)
    by_test s false h = omega arith

-- ---- directories

-- a test of what each of a list has, as one of all of it
pub any_flat : {X Y : Type 0} (T : Y → Bool) (view : X → ℕ) (f : ℕ → List Y) (xs : List X)
    → list_any (λ x. list_any T (f (view x))) xs ≡ list_any T (flat_map f (map view xs))
any_flat T view f [] = refl
any_flat T view f (x ∷ xs) =
    ap (λ b. list_any T (f (view x)) || b) (any_flat T view f xs)
    ∙ sym (list_any-append T (f (view x)) (flat_map f (map view xs)))

-- a test of those that are kept
pub any_kept : {X : Type 0} (keep T : X → Bool) (xs : List X)
    → list_any (λ x. keep x && T x) xs ≡ list_any T (filter keep xs)
any_kept keep T [] = refl
any_kept keep T (x ∷ xs) = by_test (keep x) (any_kept keep T xs)
  where
    by_test : (b : Bool) → list_any (λ x. keep x && T x) xs ≡ list_any T (filter keep xs)
        → ((b && T x) || list_any (λ x. keep x && T x) xs)
        ≡ list_any T (if b then x ∷ filter keep xs else filter keep xs)
    by_test true h = ap (λ y. T x || y) h
    by_test false h = h

-- tests that are the same of each are the same of all
pub any_same : {X : Type 0} (S T : X → Bool) (xs : List X) → ((x : X) → S x ≡ T x)
    → list_any S xs ≡ list_any T xs
any_same S T [] h = refl
any_same S T (x ∷ xs) h =
    ap (λ b. b || list_any S xs) (h x) ∙ ap (λ b. T x || b) (any_same S T xs h)

-- ---- patches

-- patches that fit into small data
pub fit_small : (n : ℕ) (ps : List Patch) → n < 2 ^ 32 → All (FitsIn n) ps
    → All (FitsIn (2 ^ 32)) ps
fit_small n [] h f = All-nil (FitsIn (2 ^ 32))
fit_small n (p ∷ ps) h f =
    let a = All-head (FitsIn n) p ps f in
    All-cons (FitsIn (2 ^ 32)) p ps (omega arith)
    (fit_small n ps h (All-tail (FitsIn n) p ps f))
