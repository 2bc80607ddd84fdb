-- Lists of fields of which some are set.
use Rattle.std.proofs.Common.{◌≡◌, ℕ, Bool, true, false, if◌then◌else◌, List, [], ◌∷◌, All, refl, sym, ap, subst, ◌∙◌}
use Rattle.std.specs.Prelude.{◌&&◌, ◌||◌, ◌==◌, not, MatchBool}
use Rattle.std.specs.List.{filter, list_any}
use Rattle.std.proofs.lemmas.Bool.{false≢true, and_parts}
use Rattle.std.proofs.lemmas.List.Elements.{All-nil, All-cons, All-head, All-tail}
use Rattle.exif_text.specs.declared.ifd.In.{In}
use Rattle.exif_types.specs.FieldEq.{tag_Decides, ifd_Decides}
use Rattle.exif_types.specs.Lookup.{is_named, tag_eq}
use Rattle.exif_types.specs.declared.field.Field.{Field}
use Rattle.exif_types.specs.declared.tag.Tag.{Tag}
use Rattle.exif_types.specs.declared.value.Value.{Value}
use Rattle.exif_types.specs.declared.value.Value.TheVariants.{Byte, Ascii, Short, Long, Rational, SByte, Undefined, SShort, SLong, SRational, Float, Double, Unknown}
use Rattle.exif_edit_base.specs.Rereading.{field_at_entry, value_at_entry, without_entry_offsets}
use Rattle.exif_grow.specs.FieldPromises.{HasLastValue, IsThere, bare, is_set, same_name, unset}

-- ---- fields that are left out

-- the fields that do not pass
abbrev pub failing : (Field → Bool) → List Field → List Field
failing p xs = filter (λ f. not (p f)) xs

-- of what fails both tests, either may be left out first
pub failing_or : (p q : Field → Bool) (xs : List Field)
    → failing (λ f. p f || q f) xs ≡ failing p (failing q xs)
failing_or p q [] = refl
failing_or p q (x ∷ xs) = by_tests (p x) (q x) refl refl (failing_or p q xs)
  where
    by_tests : (a b : Bool) → p x ≡ a → q x ≡ b
        → failing (λ f. p f || q f) xs ≡ failing p (failing q xs)
        → (if not (a || b) then x ∷ failing (λ f. p f || q f) xs else failing (λ f. p f || q f) xs)
        ≡ failing p (if not b then x ∷ failing q xs else failing q xs)
    by_tests true true e g h = h
    by_tests true false e g h = rw e h
    by_tests false true e g h = h
    by_tests false false e g h = rw e (ap (λ ys. x ∷ ys) h)

pub failing_twice : (p q : Field → Bool) (xs : List Field)
    → failing p (failing q xs) ≡ failing q (failing p xs)
failing_twice p q [] = refl
failing_twice p q (x ∷ xs) = by_tests (p x) (q x) refl refl (failing_twice p q xs)
  where
    by_tests : (a b : Bool) → p x ≡ a → q x ≡ b
        → failing p (failing q xs) ≡ failing q (failing p xs)
        → failing p (if not b then x ∷ failing q xs else failing q xs)
        ≡ failing q (if not a then x ∷ failing p xs else failing p xs)
    by_tests true true e g h = h
    by_tests true false e g h = rw e h
    by_tests false true e g h = rw g h
    by_tests false false e g h = rw (e, g) (ap (λ ys. x ∷ ys) h)

-- the offsets of values tell nothing of names
pub without_failing : (p : Field → Bool) → ((f : Field) → p (field_at_entry 0 f) ≡ p f)
    → (xs : List Field) → without_entry_offsets (failing p xs) ≡ failing p (without_entry_offsets xs)
without_failing p same [] = refl
without_failing p same (x ∷ xs) = by_test (p x) (same x) (without_failing p same xs)
  where
    by_test : (b : Bool) → p (field_at_entry 0 x) ≡ b
        → without_entry_offsets (failing p xs) ≡ failing p (without_entry_offsets xs)
        → without_entry_offsets (if not b then x ∷ failing p xs else failing p xs)
        ≡ failing p (field_at_entry 0 x ∷ without_entry_offsets xs)
    by_test true e h = rw e h
    by_test false e h = rw e (ap (λ ys. field_at_entry 0 x ∷ ys) h)

pub any_without : (p : Field → Bool) → ((f : Field) → p (field_at_entry 0 f) ≡ p f)
    → (xs : List Field) → list_any p (without_entry_offsets xs) ≡ list_any p xs
any_without p same [] = refl
any_without p same (x ∷ xs) = rw (same x, any_without p same xs) refl

-- what passes one test and fails another is not left out
pub any_kept : (p q : Field → Bool) → ((f : Field) → p f ≡ true → q f ≡ false)
    → (xs : List Field) → list_any p xs ≡ true → list_any p (failing q xs) ≡ true
any_kept p q apart [] h = h
any_kept p q apart (x ∷ xs) h = by_tests (p x) (q x) refl refl h (any_kept p q apart xs)
  where
    by_tests : (a b : Bool) → p x ≡ a → q x ≡ b → (a || list_any p xs) ≡ true
        → (list_any p xs ≡ true → list_any p (failing q xs) ≡ true)
        → list_any p (if not b then x ∷ failing q xs else failing q xs) ≡ true
    by_tests true true e g h k = absurd (false≢true (sym (apart x e) ∙ g))
    by_tests true false e g h k = rw e refl
    by_tests false true e g h k = k h
    by_tests false false e g h k = rw e (k h)

pub any_failing : (p q : Field → Bool) (xs : List Field) → list_any p (failing q xs) ≡ true
    → list_any p xs ≡ true
any_failing p q [] h = h
any_failing p q (x ∷ xs) h = by_tests (p x) (q x) refl refl h (any_failing p q xs)
  where
    by_tests : (a b : Bool) → p x ≡ a → q x ≡ b
        → list_any p (if not b then x ∷ failing q xs else failing q xs) ≡ true
        → (list_any p (failing q xs) ≡ true → list_any p xs ≡ true)
        → (a || list_any p xs) ≡ true
    by_tests true b e g h k = refl
    by_tests false true e g h k = k h
    by_tests false false e g h k = k (rw e at h)

-- what holds of the fields that are not left out
pub all_failing : (P : Field → Type 0) (q : Field → Bool) (xs : List Field) → All P xs
    → All P (failing q xs)
all_failing P q [] h = All-nil P
all_failing P q (x ∷ xs) h =
    by_test (q x) (all_failing P q xs (All-tail P x xs h))
  where
    by_test : (b : Bool) → All P (failing q xs)
        → All P (if not b then x ∷ failing q xs else failing q xs)
    by_test true t = t
    by_test false t = All-cons P x (failing q xs) (All-head P x xs h) t

pub all_but : (P : Field → Type 0) (q : Field → Bool) (xs : List Field) → All P (failing q xs)
    → All (λ f. q f ≡ false → P f) xs
all_but P q [] h = All-nil (λ f. q f ≡ false → P f)
all_but P q (x ∷ xs) h = by_test (q x) refl h (all_but P q xs)
  where
    by_test : (b : Bool) → q x ≡ b → All P (if not b then x ∷ failing q xs else failing q xs)
        → (All P (failing q xs) → All (λ f. q f ≡ false → P f) xs)
        → All (λ f. q f ≡ false → P f) (x ∷ xs)
    by_test true e h k =
        All-cons (λ f. q f ≡ false → P f) x xs (λ g. absurd (false≢true (sym g ∙ e))) (k h)
    by_test false e h k =
        All-cons (λ f. q f ≡ false → P f) x xs (λ g. All-head P x (failing q xs) h)
        (k (All-tail P x (failing q xs) h))

pub all_without : (P : Field → Type 0) → ((f : Field) → P f → P (field_at_entry 0 f))
    → (xs : List Field) → All P xs → All P (without_entry_offsets xs)
all_without P to [] h = All-nil P
all_without P to (x ∷ xs) h =
    All-cons P (field_at_entry 0 x) (without_entry_offsets xs) (to x (All-head P x xs h))
    (all_without P to xs (All-tail P x xs h))

pub all_from_without : (P : Field → Type 0) → ((f : Field) → P (field_at_entry 0 f) → P f)
    → (xs : List Field) → All P (without_entry_offsets xs) → All P xs
all_from_without P from [] h = All-nil P
all_from_without P from (x ∷ xs) h =
    All-cons P x xs (from x (All-head P (field_at_entry 0 x) (without_entry_offsets xs) h))
    (all_from_without P from xs (All-tail P (field_at_entry 0 x) (without_entry_offsets xs) h))

-- ---- names and values

-- the same value, wherever its entry is
pub bare_at : (e : ℕ) (v : Value) → bare (value_at_entry e v) ≡ bare v
bare_at e (Undefined xs offset) = refl
bare_at e (Unknown type count offset) = refl
bare_at e (Byte xs) = refl
bare_at e (Ascii xs) = refl
bare_at e (Short xs) = refl
bare_at e (Long xs) = refl
bare_at e (Rational xs) = refl
bare_at e (SByte xs) = refl
bare_at e (SShort xs) = refl
bare_at e (SLong xs) = refl
bare_at e (SRational xs) = refl
bare_at e (Float xs) = refl
bare_at e (Double xs) = refl

-- fields of one name are named alike
pub same_names : (g h : Field) → same_name h g ≡ true
    → (f : Field) → same_name h f ≡ same_name g f
same_names g h e f =
    let p = and_parts (tag_eq g.tag h.tag) (g.ifd_num.0 == h.ifd_num.0) e in
    let t : g.tag ≡ h.tag = (tag_Decides g.tag h.tag).0 p.0 in
    let k : g.ifd_num ≡ h.ifd_num = (ifd_Decides g.ifd_num h.ifd_num).0 p.1 in
    ap (λ (x : Tag). is_named x h.ifd_num f) (sym t)
    ∙ ap (λ (x : In). is_named g.tag x f) (sym k)

any_same : (g h : Field) → same_name h g ≡ true → (xs : List Field)
    → list_any (same_name h) xs ≡ list_any (same_name g) xs
any_same g h e [] = refl
any_same g h e (x ∷ xs) = rw (same_names g h e x, any_same g h e xs) refl

-- where a field of each name is there, one is of a name that is set
pub any_set : (g : Field) (gs xs : List Field) → All (IsThere xs) gs → is_set gs g ≡ true
    → IsThere xs g
any_set g [] xs h e = absurd (false≢true e)
any_set g (h ∷ hs) xs all e =
    by_test (same_name h g) refl e (any_set g hs xs (All-tail (IsThere xs) h hs all))
  where
    by_test : (b : Bool) → same_name h g ≡ b → (b || is_set hs g) ≡ true
        → (is_set hs g ≡ true → IsThere xs g) → IsThere xs g
    by_test true n e k = sym (any_same g h n xs) ∙ All-head (IsThere xs) h hs all
    by_test false n e k = k e

-- a field of a name is set or not as the name is
pub set_as_named : (g : Field) (gs : List Field) (f : Field) → same_name g f ≡ true
    → is_set gs f ≡ is_set gs g
set_as_named g [] f e = refl
set_as_named g (h ∷ hs) f e =
    let one : same_name h f ≡ same_name h g = as_named h in
    rw (one, set_as_named g hs f e) refl
  where
    as_named : (h : Field) → same_name h f ≡ same_name h g
    as_named h =
        let p = and_parts (tag_eq f.tag g.tag) (f.ifd_num.0 == g.ifd_num.0) e in
        let t : f.tag ≡ g.tag = (tag_Decides f.tag g.tag).0 p.0 in
        let k : f.ifd_num ≡ g.ifd_num = (ifd_Decides f.ifd_num g.ifd_num).0 p.1 in
        ap (λ (x : Tag). tag_eq x h.tag && (f.ifd_num.0 == h.ifd_num.0)) t
        ∙ ap (λ (x : In). tag_eq g.tag h.tag && (x.0 == h.ifd_num.0)) k

-- ---- one field, and then others

-- a field of this name has this value
abbrev pub HasValueOf : Field → Field → Type 0
HasValueOf g f = same_name g f ≡ true → bare f.value ≡ bare g.value

value_to : (g f : Field) → HasValueOf g f → HasValueOf g (field_at_entry 0 f)
value_to g f h = λ e. bare_at 0 f.value ∙ h e

value_from : (g f : Field) → HasValueOf g (field_at_entry 0 f) → HasValueOf g f
value_from g f h = λ e. sym (bare_at 0 f.value) ∙ h e

one_or_last : (g : Field) (gs xs : List Field) → All (HasLastValue gs) xs
    → All (λ f. is_set gs f ≡ false → HasValueOf g f) xs → All (HasLastValue (g ∷ gs)) xs
one_or_last g gs [] h k = All-nil (HasLastValue (g ∷ gs))
one_or_last g gs (x ∷ xs) h k =
    All-cons (HasLastValue (g ∷ gs)) x xs
    (by_test (is_set gs x) (All-head (HasLastValue gs) x xs h)
    (All-head (λ f. is_set gs f ≡ false → HasValueOf g f) x xs k))
    (one_or_last g gs xs (All-tail (HasLastValue gs) x xs h)
    (All-tail (λ f. is_set gs f ≡ false → HasValueOf g f) x xs k))
  where
    by_test : (b : Bool) → HasLastValue gs x → (b ≡ false → HasValueOf g x)
        → MatchBool b (HasLastValue gs x) (HasValueOf g x)
    by_test true h k = h
    by_test false h k = k refl

-- fields that were set, and behind them those of other names
pub record Later (gs mid new : List Field) : Type 0 where
  pub values : All (HasLastValue gs) new
  pub there : All (IsThere new) gs
  pub others : without_entry_offsets (unset gs new) ≡ without_entry_offsets (unset gs mid)

module _ (g : Field) (gs old mid new : List Field) where
  -- the values of one field and of later ones
  pub later_values : Later gs mid new → All (HasValueOf g) mid → All (HasLastValue (g ∷ gs)) new
  later_values l one =
      let kept = all_without (HasValueOf g) (value_to g) (unset gs mid)
      (all_failing (HasValueOf g) (is_set gs) mid one) in
      let moved : All (HasValueOf g) (without_entry_offsets (unset gs new)) =
      subst (λ xs. All (HasValueOf g) xs) (sym l.others) kept in
      one_or_last g gs new l.values
      (all_but (HasValueOf g) (is_set gs) new
      (all_from_without (HasValueOf g) (value_from g) (unset gs new) moved))

  -- a field of each name is there
  pub later_there : Later gs mid new → IsThere mid g → All (IsThere new) (g ∷ gs)
  later_there l h = All-cons (IsThere new) g gs (by_test (is_set gs g) refl) l.there
    where
      by_test : (b : Bool) → is_set gs g ≡ b → IsThere new g
      by_test true e = any_set g gs new l.there e
      by_test false e =
          let kept = any_kept (same_name g) (is_set gs) (λ f n. set_as_named g gs f n ∙ e) mid h in
          any_failing (same_name g) (is_set gs) new
          (sym (any_without (same_name g) (λ f. refl) (unset gs new))
          ∙ (ap (list_any (same_name g)) l.others
          ∙ (any_without (same_name g) (λ f. refl) (unset gs mid) ∙ kept)))

  -- and all others are as they were
  pub later_others : Later gs mid new
      → without_entry_offsets (failing (same_name g) mid)
      ≡ without_entry_offsets (failing (same_name g) old)
      → without_entry_offsets (unset (g ∷ gs) new) ≡ without_entry_offsets (unset (g ∷ gs) old)
  later_others l h =
      let p = same_name g in
      let q = is_set gs in
      ap without_entry_offsets (failing_or p q new)
      ∙ (without_failing p (λ f. refl) (failing q new)
      ∙ (ap (failing p) l.others
      ∙ (sym (without_failing p (λ f. refl) (failing q mid))
      ∙ (ap without_entry_offsets (failing_twice p q mid)
      ∙ (without_failing q (λ f. refl) (failing p mid)
      ∙ (ap (failing q) h
      ∙ (sym (without_failing q (λ f. refl) (failing p old))
      ∙ (ap without_entry_offsets (sym (failing_twice p q old))
      ∙ ap without_entry_offsets (sym (failing_or p q old))))))))))
