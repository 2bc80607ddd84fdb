-- The names of fields that are set: each is set once.
use Rattle.std.proofs.Common.{◌≡◌, ◌∙◌, Bool, true, false, List, [], ◌∷◌, ◌++◌, All, Option, Some, None, if◌then◌else◌, refl, sym, ap, subst}
use Rattle.std.specs.Prelude.{◌&&◌, ◌||◌, ◌==◌, MatchBool}
use Rattle.std.specs.List.{list_any}
use Rattle.std.proofs.lemmas.Bool.{and_parts, false≢true}
use Rattle.std.proofs.lemmas.List.Elements.{All-nil, All-cons, All-head, All-tail}
use Rattle.exif_text.specs.declared.ifd.In.{In}
use Rattle.exif_types.specs.FieldEq.{ifd_Decides, tag_Decides}
use Rattle.exif_types.specs.Lookup.{is_named, last_named, tag_eq}
use Rattle.exif_types.specs.declared.field.Field.{Field}
use Rattle.exif_types.specs.declared.tag.Tag.{Tag}
use Rattle.exif_types.specs.declared.value.Value.{Value}
use Rattle.exif_edit.proofs.SetFound.{from_behind, passing_none}
use Rattle.exif_edit_base.specs.Finding.{replaced, with_value}
use Rattle.exif_edit_base.specs.Rereading.{without_entry_offsets, field_at_entry}
use Rattle.exif_grow.specs.FieldPromises.{HasLastValue, IsThere, bare, is_set, same_name, unset}
use Rattle.exif_grow.proofs.SetLists.{all_but, all_failing, all_from_without, all_without, any_failing, any_kept, any_without, bare_at, set_as_named}
use Rattle.exif_change.specs.Reading.{primary}
use Rattle.exif_setting.specs.Setting.{occurs_again}
use Rattle.exif_change_laws.specs.Assigned.{HasValueOf, IsReadAs}

-- ---- fields of different names

-- no two fields have one name
abbrev pub AreDistinct : List Field → Type 0
AreDistinct [] = Unit {0}
AreDistinct (g ∷ gs) = (is_set gs g ≡ false) × AreDistinct gs

-- a name is the same both ways
pub name_turned : (g h : Field) → same_name g h ≡ true → same_name h g ≡ true
name_turned g h e =
    let p = and_parts (tag_eq h.tag g.tag) (h.ifd_num.0 == g.ifd_num.0) e in
    let t : h.tag ≡ g.tag = (tag_Decides h.tag g.tag).0 p.0 in
    let k : h.ifd_num ≡ g.ifd_num = (ifd_Decides h.ifd_num g.ifd_num).0 p.1 in
    subst (λ (x : Tag). (tag_eq g.tag x && (g.ifd_num.0 == h.ifd_num.0)) ≡ true) (sym t)
    (subst (λ (x : In). (tag_eq g.tag g.tag && (g.ifd_num.0 == x.0)) ≡ true) (sym k)
    (both (tag_eq g.tag g.tag) (g.ifd_num.0 == g.ifd_num.0)
    ((tag_Decides g.tag g.tag).1 refl) ((ifd_Decides g.ifd_num g.ifd_num).1 refl)))
  where
    both : (a b : Bool) → a ≡ true → b ≡ true → (a && b) ≡ true
    both true b e f = f
    both false b e f = e

pub or_left : (a b : Bool) → (a || b) ≡ false → a ≡ false
or_left false b e = refl
or_left true b e = e

pub or_right : (a b : Bool) → (a || b) ≡ false → b ≡ false
or_right false b e = e
or_right true b e = absurd (false≢true (sym e))

pub or_both : (a b : Bool) → a ≡ false → b ≡ false → (a || b) ≡ false
or_both false b e f = f
or_both true b e f = e

pub name_apart : (g h : Field) → same_name g h ≡ false → same_name h g ≡ false
name_apart g h e = by_test (same_name h g) refl
  where
    by_test : (b : Bool) → same_name h g ≡ b → same_name h g ≡ false
    by_test false n = n
    by_test true n = absurd (false≢true (sym e ∙ name_turned h g n))

-- a field more at the end
set_behind : (xs : List Field) (g f : Field) → is_set xs f ≡ false → same_name g f ≡ false
    → is_set (xs ++ g ∷ []) f ≡ false
set_behind [] g f e n = or_both (same_name g f) false n refl
set_behind (x ∷ xs) g f e n =
    or_both (same_name x f) (is_set (xs ++ g ∷ []) f) (or_left (same_name x f) (is_set xs f) e)
    (set_behind xs g f (or_right (same_name x f) (is_set xs f) e) n)

-- the first field may be the last
pub distinct_turned : (g : Field) (xs : List Field) → is_set xs g ≡ false → AreDistinct xs
    → AreDistinct (xs ++ g ∷ [])
distinct_turned g [] e d = (refl, tt)
distinct_turned g (x ∷ xs) e d = (
  set_behind xs g x d.0 (name_apart x g (or_left (same_name x g) (is_set xs g) e)),
  distinct_turned g xs (or_right (same_name x g) (is_set xs g) e) d.1,
)

pub all_turned : (P : Field → Type 0) (g : Field) (xs : List Field) → All P (xs ++ g ∷ [])
    → All P (g ∷ xs)
all_turned P g [] h = h
all_turned P g (x ∷ xs) h =
    let r = all_turned P g xs (All-tail P x (xs ++ g ∷ []) h) in
    All-cons P g (x ∷ xs) (All-head P g xs r)
    (All-cons P x xs (All-head P x (xs ++ g ∷ []) h) (All-tail P g xs r))

-- ---- values that stay

value_to : (g f : Field) → HasValueOf g f → HasValueOf g (field_at_entry 0 f)
value_to g f h = λ e. bare_at 0 f.value ∙ h e

value_from : (g f : Field) → HasValueOf g (field_at_entry 0 f) → HasValueOf g f
value_from g f h = λ e. sym (bare_at 0 f.value) ∙ h e

-- where fields of other names are set, a field is read as before
pub read_kept : (g : Field) (sets mid new : List Field) → is_set sets g ≡ false
    → without_entry_offsets (unset sets new) ≡ without_entry_offsets (unset sets mid)
    → IsReadAs mid g → IsReadAs new g
read_kept g sets mid new apart same r = record { there = there; values = values }
  where
    values : All (HasValueOf g) new
    values =
        let kept = all_without (HasValueOf g) (value_to g) (unset sets mid)
        (all_failing (HasValueOf g) (is_set sets) mid r.values) in
        let moved : All (HasValueOf g) (without_entry_offsets (unset sets new)) =
        subst (λ xs. All (HasValueOf g) xs) (sym same) kept in
        by_name new (all_but (HasValueOf g) (is_set sets) new
        (all_from_without (HasValueOf g) (value_from g) (unset sets new) moved))
      where
        by_name : (xs : List Field) → All (λ f. is_set sets f ≡ false → HasValueOf g f) xs
            → All (HasValueOf g) xs
        by_name [] h = All-nil (HasValueOf g)
        by_name (x ∷ xs) h =
            All-cons (HasValueOf g) x xs
            (λ n. All-head (λ f. is_set sets f ≡ false → HasValueOf g f) x xs h
            (set_as_named g sets x n ∙ apart) n)
            (by_name xs (All-tail (λ f. is_set sets f ≡ false → HasValueOf g f) x xs h))

    there : IsThere new g
    there =
        let kept = any_kept (same_name g) (is_set sets) (λ f n. set_as_named g sets f n ∙ apart)
        mid r.there in
        any_failing (same_name g) (is_set sets) new
        (sym (any_without (same_name g) (λ f. refl) (unset sets new))
        ∙ (ap (list_any (same_name g)) same
        ∙ (any_without (same_name g) (λ f. refl) (unset sets mid) ∙ kept)))

-- ---- the last values of fields of different names

unset_last : (gs : List Field) (f : Field) → is_set gs f ≡ false → HasLastValue gs f
unset_last [] f e = tt
unset_last (g ∷ gs) f e = by_test (is_set gs f) refl
  where
    by_test : (b : Bool) → is_set gs f ≡ b
        → MatchBool b (HasLastValue gs f) (same_name g f ≡ true → bare f.value ≡ bare g.value)
    by_test true n =
        absurd (false≢true (sym (or_right (same_name g f) (is_set gs f) e) ∙ n))
    by_test false n =
        λ m. absurd (false≢true (sym (or_left (same_name g f) (is_set gs f) e) ∙ m))

-- of the last values the first one's and those of the others
last_first : (g : Field) (gs : List Field) (f : Field) → is_set gs g ≡ false
    → HasLastValue (g ∷ gs) f → HasValueOf g f
last_first g gs f apart h = λ n. by_test (is_set gs f) (set_as_named g gs f n ∙ apart) h n
  where
    by_test : (b : Bool) → b ≡ false
        → MatchBool b (HasLastValue gs f) (same_name g f ≡ true → bare f.value ≡ bare g.value)
        → same_name g f ≡ true → bare f.value ≡ bare g.value
    by_test false e h n = h n
    by_test true e h n = absurd (false≢true (sym e))

last_others : (g : Field) (gs : List Field) (f : Field) → HasLastValue (g ∷ gs) f
    → HasLastValue gs f
last_others g gs f h = by_test (is_set gs f) refl h
  where
    by_test : (b : Bool) → is_set gs f ≡ b
        → MatchBool b (HasLastValue gs f) (same_name g f ≡ true → bare f.value ≡ bare g.value)
        → HasLastValue gs f
    by_test true n h = h
    by_test false n h = unset_last gs f n

pub all_by : (P Q : Field → Type 0) → ((f : Field) → P f → Q f) → (xs : List Field) → All P xs
    → All Q xs
all_by P Q to [] h = All-nil Q
all_by P Q to (x ∷ xs) h =
    All-cons Q x xs (to x (All-head P x xs h)) (all_by P Q to xs (All-tail P x xs h))

pub last_values : (gs xs : List Field) → AreDistinct gs → All (HasLastValue gs) xs
    → All (IsThere xs) gs → All (IsReadAs xs) gs
last_values [] xs d h t = All-nil (IsReadAs xs)
last_values (g ∷ gs) xs d h t =
    All-cons (IsReadAs xs) g gs
    (record {
      there = All-head (IsThere xs) g gs t;
      values = all_by (HasLastValue (g ∷ gs)) (HasValueOf g) (λ f. last_first g gs f d.0) xs h;
    })
    (last_values gs xs d.1 (all_by (HasLastValue (g ∷ gs)) (HasLastValue gs) (last_others g gs) xs h)
    (All-tail (IsThere xs) g gs t))

-- ---- one field of a name

-- no two fields have the name of a field of the primary image
pub record IsOnce (fields : List Field) (g : Field) : Type 0 where
  pub image : g.ifd_num ≡ primary
  pub once : occurs_again g.tag false fields ≡ false

none_again : (tag : Tag) (fs : List Field) → occurs_again tag true fs ≡ false
    → list_any (is_named tag primary) fs ≡ false
none_again tag [] e = refl
none_again tag (f ∷ fs) e = by_test (is_named tag primary f) e (none_again tag fs)
  where
    by_test : (b : Bool) → (if b then true else occurs_again tag true fs) ≡ false
        → (occurs_again tag true fs ≡ false → list_any (is_named tag primary) fs ≡ false)
        → (b || list_any (is_named tag primary) fs) ≡ false
    by_test true e k = absurd (false≢true (sym e))
    by_test false e k = k e

all_unnamed : (g : Field) (fs : List Field) → list_any (same_name g) fs ≡ false
    → All (HasValueOf g) fs
all_unnamed g [] e = All-nil (HasValueOf g)
all_unnamed g (f ∷ fs) e =
    All-cons (HasValueOf g) f fs
    (λ n. absurd (false≢true (sym (or_left (same_name g f) (list_any (same_name g) fs) e) ∙ n)))
    (all_unnamed g fs (or_right (same_name g f) (list_any (same_name g) fs) e))

-- the one field of a name with another value
once_replaced : (g : Field) (v : Value) (fs : List Field) → bare v ≡ bare g.value
    → g.ifd_num ≡ primary → occurs_again g.tag false fs ≡ false
    → All (HasValueOf g) (replaced g.tag g.ifd_num v fs)
once_replaced g v [] same p e = All-nil (HasValueOf g)
once_replaced g v (f ∷ fs) same p e =
    by_tests (list_any (same_name g) fs) (same_name g f) refl refl
    (subst (λ (k : In). (if is_named g.tag k f then occurs_again g.tag true fs else occurs_again g.tag false fs) ≡ false) (sym p) e)
    (once_replaced g v fs same p)
  where
    by_tests : (a b : Bool) → list_any (same_name g) fs ≡ a → same_name g f ≡ b
        → (if b then occurs_again g.tag true fs else occurs_again g.tag false fs) ≡ false
        → (occurs_again g.tag false fs ≡ false → All (HasValueOf g) (replaced g.tag g.ifd_num v fs))
        → All (HasValueOf g)
        (if a then f ∷ replaced g.tag g.ifd_num v fs else ((if b then with_value v f else f) ∷ fs))
    by_tests true true a b e k =
        absurd (false≢true (sym (subst (λ (i : In). list_any (is_named g.tag i) fs ≡ false) (sym p)
        (none_again g.tag fs e)) ∙ a))
    by_tests true false a b e k =
        All-cons (HasValueOf g) f (replaced g.tag g.ifd_num v fs)
        (λ n. absurd (false≢true (sym b ∙ n))) (k e)
    by_tests false true a b e k =
        All-cons (HasValueOf g) (with_value v f) fs (λ n. same) (all_unnamed g fs a)
    by_tests false false a b e k =
        All-cons (HasValueOf g) f fs (λ n. absurd (false≢true (sym b ∙ n))) (all_unnamed g fs a)

-- another value changes no name
again_replaced : (tag : Tag) (t : Tag) (k : In) (v : Value) (seen : Bool) (fs : List Field)
    → occurs_again tag seen (replaced t k v fs) ≡ occurs_again tag seen fs
again_replaced tag t k v seen [] = refl
again_replaced tag t k v seen (f ∷ fs) =
    by_tests (list_any (is_named t k) fs) (is_named t k f) (λ s. again_replaced tag t k v s fs)
  where
    by_tests : (a b : Bool)
        → ((s : Bool) → occurs_again tag s (replaced t k v fs) ≡ occurs_again tag s fs)
        → occurs_again tag seen (if a then f ∷ replaced t k v fs else ((if b then with_value v f else f) ∷ fs))
        ≡ (if is_named tag primary f then (if seen then true else occurs_again tag true fs) else occurs_again tag seen fs)
    by_tests true b h =
        ap (λ x. if is_named tag primary f then (if seen then true else x) else occurs_again tag seen (replaced t k v fs)) (h true)
        ∙ ap (λ x. if is_named tag primary f then (if seen then true else occurs_again tag true fs) else x) (h seen)
    by_tests false true h = refl
    by_tests false false h = refl

pub once_kept : (t : Tag) (k : In) (v : Value) (fs : List Field) (g : Field) → IsOnce fs g
    → IsOnce (replaced t k v fs) g
once_kept t k v fs g o =
    record { image = o.image; once = again_replaced g.tag t k v false fs ∙ o.once }

-- what a look-up finds is there
pub found_there : (g f : Field) (fs : List Field) → last_named fs g.tag g.ifd_num ≡ Some f
    → IsThere fs g
found_there g f fs e = by_test (list_any (same_name g) fs) refl
  where
    none_some : ◌≡◌ {A = Option Field} None (Some f) → ⊥
    none_some e = cc

    by_test : (b : Bool) → list_any (same_name g) fs ≡ b → list_any (same_name g) fs ≡ true
    by_test true n = n
    by_test false n =
        absurd (none_some (sym (passing_none (same_name g) fs n)
        ∙ (sym (from_behind (same_name g) fs) ∙ e)))

-- the one field of a name, which was set, is read with its value
pub once_read : (g f : Field) (v : Value) (old new : List Field) → bare v ≡ bare g.value
    → IsOnce old g → new ≡ replaced g.tag g.ifd_num v old
    → last_named new g.tag g.ifd_num ≡ Some f → IsReadAs new g
once_read g f v old new same o e l = record {
  there = found_there g f new l;
  values = subst (λ xs. All (HasValueOf g) xs) (sym e)
      (once_replaced g v old same o.image o.once);
}
