-- The fields that assignments make: their names, and the texts of their values.
use Rattle.std.proofs.Common.{◌≡◌, ◌∙◌, ℕ, Bool, true, false, List, [], ◌∷◌, ◌++◌, All, Option, Some, None, Result, Ok, if◌then◌else◌, refl, sym, ap, subst}
use Rattle.std.specs.Prelude.{◌&&◌, ◌||◌, ◌==◌}
use Rattle.std.proofs.lemmas.List.Elements.{All-cons, All-head, All-tail}
use Rattle.exif_text.specs.declared.ifd.In.{In}
use Rattle.exif_types.specs.FieldEq.{tag_Decides}
use Rattle.exif_types.specs.Lookup.{tag_eq}
use Rattle.exif_types.specs.declared.field.Field.{Field}
use Rattle.exif_types.specs.declared.tag.Tag.{Tag}
use Rattle.exif_grow.specs.FieldPromises.{is_set, same_name}
use Rattle.exif_assign.specs.Assigning.{parts_of}
use Rattle.exif_assign.specs.declared.assignment.Assignment.{Assignment}
use Rattle.exif_change.specs.Refusals.{Reason, ◌>>=◌}
use Rattle.exif_change.specs.Reading.{primary}
use Rattle.exif_setting.specs.Setting.{assigned_behind, field_for, is_assigned, occurs_again, type_for, with_assigned, with_field}
use Rattle.exif_setting.proofs.SetKept.{bound}
use Rattle.exif_setting.proofs.SetWhole.{is_set_append}
use Rattle.exif_change_laws.proofs.SetAssigned.{IsFor, is_for}

-- ---- names

abbrev pub in_primary : Field → Bool
in_primary f = f.ifd_num.0 == 0

sets_same : (x y : List Field × List Field)
    → ◌≡◌ {A = Result (List Field × List Field) Reason} (Ok x) (Ok y) → x ≡ y
sets_same x y e = cc

-- one of two pairs of lists
abbrev chosen : Bool → List Field × List Field → List Field × List Field → List Field × List Field
chosen t x y = if t then x else y

-- a field more, in the first list or in the second
with_set : (fields : List Field) (g : Field) (sets : List Field × List Field) (f : Field)
    → is_set ((with_field fields g sets).0 ++ (with_field fields g sets).1) f
    ≡ (is_set (sets.0 ++ sets.1) f || same_name g f)
with_set fields g (single, repeated) f = by_test (occurs_again g.tag false fields)
  where
    last : (a b c : Bool) → (a || (b || (c || false))) ≡ ((a || b) || c)
    last true b c = refl
    last false true c = refl
    last false false true = refl
    last false false false = refl

    middle : (a b c : Bool) → ((a || (c || false)) || b) ≡ ((a || b) || c)
    middle true b c = refl
    middle false true true = refl
    middle false true false = refl
    middle false false true = refl
    middle false false false = refl

    by_test : (t : Bool)
        → is_set ((chosen t (single, repeated ++ g ∷ []) (single ++ g ∷ [], repeated)).0
        ++ (chosen t (single, repeated ++ g ∷ []) (single ++ g ∷ [], repeated)).1) f
        ≡ (is_set (single ++ repeated) f || same_name g f)
    by_test true =
        is_set_append single (repeated ++ g ∷ []) f
        ∙ (ap (λ b. is_set single f || b) (is_set_append repeated (g ∷ []) f)
        ∙ (last (is_set single f) (is_set repeated f) (same_name g f)
        ∙ ap (λ b. b || same_name g f) (sym (is_set_append single repeated f))))
    by_test false =
        is_set_append (single ++ g ∷ []) repeated f
        ∙ (ap (λ b. b || is_set repeated f) (is_set_append single (g ∷ []) f)
        ∙ (middle (is_set single f) (is_set repeated f) (same_name g f)
        ∙ ap (λ b. b || same_name g f) (sym (is_set_append single repeated f))))

-- the field of an assignment has its name
name_for : (tag : Tag) (g f : Field) → IsFor tag g
    → same_name g f ≡ (tag_eq f.tag tag && in_primary f)
name_for tag g f i =
    ap (λ (t : Tag). tag_eq f.tag t && (f.ifd_num.0 == g.ifd_num.0)) i.tag_is
    ∙ ap (λ (k : In). tag_eq f.tag tag && (f.ifd_num.0 == k.0)) i.image

-- the names that are set are those of the assignments
pub names_are : (fields : List Field) (assignments : List Assignment) (sets made : List Field × List Field)
    (f : Field) → assigned_behind fields assignments sets ≡ Ok made
    → is_set (made.0 ++ made.1) f
    ≡ (is_set (sets.0 ++ sets.1) f || (is_assigned assignments f.tag && in_primary f))
names_are fields [] sets made f e =
    ap (λ (s : List Field × List Field). is_set (s.0 ++ s.1) f) (sym (sets_same sets made e))
    ∙ or_none (is_set (sets.0 ++ sets.1) f)
  where
    or_none : (a : Bool) → a ≡ (a || false)
    or_none true = refl
    or_none false = refl
names_are fields (a ∷ later) sets made f e =
    let b = bound (with_assigned fields a later sets) (assigned_behind fields later) made e in
    names_are fields later b.0 made f b.2 ∙ by_later (is_assigned later a.tag) refl b.0 b.1
  where
    A : Bool
    A = is_set (sets.0 ++ sets.1) f

    joined : (a t l i : Bool) → ((a || (t && i)) || (l && i)) ≡ (a || ((t || l) && i))
    joined true t l i = refl
    joined false true true true = refl
    joined false true true false = refl
    joined false true false true = refl
    joined false true false false = refl
    joined false false true true = refl
    joined false false true false = refl
    joined false false false i = refl

    by_tag : (t : Bool) → tag_eq f.tag a.tag ≡ t → is_assigned later a.tag ≡ true
        → is_assigned later f.tag ≡ (t || is_assigned later f.tag)
    by_tag false n m = refl
    by_tag true n m = ap (is_assigned later) ((tag_Decides f.tag a.tag).0 n) ∙ m

    by_later : (t : Bool) → is_assigned later a.tag ≡ t → (next : List Field × List Field)
        → (if t then Ok sets else field_for fields (parts_of a) >>= (λ field. Ok (with_field fields field sets))) ≡ Ok next
        → (is_set (next.0 ++ next.1) f || (is_assigned later f.tag && in_primary f))
        ≡ (A || ((tag_eq f.tag a.tag || is_assigned later f.tag) && in_primary f))
    by_later true n next e =
        ap (λ (s : List Field × List Field). is_set (s.0 ++ s.1) f || (is_assigned later f.tag && in_primary f)) (sym (sets_same sets next e))
        ∙ ap (λ b. A || (b && in_primary f)) (by_tag (tag_eq f.tag a.tag) refl n)
    by_later false n next e =
        let b = bound (field_for fields (parts_of a)) (λ field. Ok (with_field fields field sets)) next e in
        let i = is_for a.tag (parts_of a).1 (type_for fields a.tag) b.0 b.1 in
        ap (λ (s : List Field × List Field). is_set (s.0 ++ s.1) f || (is_assigned later f.tag && in_primary f)) (sym (sets_same (with_field fields b.0 sets) next b.2))
        ∙ (ap (λ x. x || (is_assigned later f.tag && in_primary f))
        (with_set fields b.0 sets f ∙ ap (λ x. A || x) (name_for a.tag b.0 f i))
        ∙ joined A (tag_eq f.tag a.tag) (is_assigned later f.tag) (in_primary f))

-- ---- the texts of fields

-- the text of the last assignment to a tag
abbrev pub last_text : Tag → List Assignment → Option (List ℕ)
last_text tag [] = None
last_text tag (a ∷ later) =
    if is_assigned later tag then last_text tag later
    else (if tag_eq tag a.tag then Some (parts_of a).1 else None)

-- a field is that of the last assignment to its tag
pub record IsMade (fields : List Field) (all : List Assignment) (g : Field) : Type 0 where
  pub image : g.ifd_num ≡ primary
  pub text : List ℕ
  pub last : last_text g.tag all ≡ Some text
  pub made : field_for fields (g.tag, text) ≡ Ok g

all_more : (P : Field → Type 0) (xs : List Field) (f : Field) → All P xs → P f
    → All P (xs ++ f ∷ [])
all_more P [] f h p = All-cons P f [] p h
all_more P (x ∷ xs) f h p =
    All-cons P x (xs ++ f ∷ []) (All-head P x xs h) (all_more P xs f (All-tail P x xs h) p)

pub all_both : (P : Field → Type 0) (xs ys : List Field) → All P xs → All P ys → All P (xs ++ ys)
all_both P [] ys h k = k
all_both P (x ∷ xs) ys h k =
    All-cons P x (xs ++ ys) (All-head P x xs h) (all_both P xs ys (All-tail P x xs h) k)

pub all_made : (fields : List Field) (all assignments : List Assignment)
    (sets sets' : List Field × List Field)
    → ((tag : Tag) → is_assigned assignments tag ≡ true → last_text tag all ≡ last_text tag assignments)
    → All (IsMade fields all) sets.0 → All (IsMade fields all) sets.1
    → assigned_behind fields assignments sets ≡ Ok sets'
    → All (IsMade fields all) sets'.0 × All (IsMade fields all) sets'.1
all_made fields all [] sets sets' l h k e =
    subst (λ (s : List Field × List Field). All (IsMade fields all) s.0 × All (IsMade fields all) s.1)
    (sets_same sets sets' e) (h, k)
all_made fields all (a ∷ later) sets sets' l h k e =
    let b = bound (with_assigned fields a later sets) (assigned_behind fields later) sets' e in
    let n = by_later (is_assigned later a.tag) refl b.0 b.1 in
    all_made fields all later b.0 sets' behind n.0 n.1 b.2
  where
    behind : (tag : Tag) → is_assigned later tag ≡ true → last_text tag all ≡ last_text tag later
    behind tag n =
        l tag (or_behind (tag_eq tag a.tag) (is_assigned later tag) n)
        ∙ ap (λ t. if t then last_text tag later else (if tag_eq tag a.tag then Some (parts_of a).1 else None)) n
      where
        or_behind : (x y : Bool) → y ≡ true → (x || y) ≡ true
        or_behind true y e = refl
        or_behind false y e = e

    put : (g : Field) → IsMade fields all g
        → All (IsMade fields all) (with_field fields g sets).0 × All (IsMade fields all) (with_field fields g sets).1
    put g m = by_test (occurs_again g.tag false fields)
      where
        by_test : (t : Bool)
            → All (IsMade fields all) (chosen t (sets.0, sets.1 ++ g ∷ []) (sets.0 ++ g ∷ [], sets.1)).0
            × All (IsMade fields all) (chosen t (sets.0, sets.1 ++ g ∷ []) (sets.0 ++ g ∷ [], sets.1)).1
        by_test true = (h, all_more (IsMade fields all) sets.1 g k m)
        by_test false = (all_more (IsMade fields all) sets.0 g h m, k)

    by_later : (t : Bool) → is_assigned later a.tag ≡ t → (next : List Field × List Field)
        → (if t then Ok sets else field_for fields (parts_of a) >>= (λ field. Ok (with_field fields field sets))) ≡ Ok next
        → All (IsMade fields all) next.0 × All (IsMade fields all) next.1
    by_later true n next e =
        subst (λ (s : List Field × List Field). All (IsMade fields all) s.0 × All (IsMade fields all) s.1)
        (sets_same sets next e) (h, k)
    by_later false n next e =
        let b = bound (field_for fields (parts_of a)) (λ field. Ok (with_field fields field sets)) next e in
        let i = is_for a.tag (parts_of a).1 (type_for fields a.tag) b.0 b.1 in
        let self : tag_eq a.tag a.tag ≡ true = (tag_Decides a.tag a.tag).1 refl in
        let is : last_text a.tag all ≡ Some (parts_of a).1 =
        l a.tag (ap (λ t. t || is_assigned later a.tag) self)
        ∙ (ap (λ t. if t then last_text a.tag later else (if tag_eq a.tag a.tag then Some (parts_of a).1 else None)) n
        ∙ ap (λ t. if t then Some (parts_of a).1 else None) self) in
        subst (λ (s : List Field × List Field). All (IsMade fields all) s.0 × All (IsMade fields all) s.1)
        (sets_same (with_field fields b.0 sets) next b.2)
        (put b.0 (record {
          image = i.image;
          text = (parts_of a).1;
          last = ap (λ t. last_text t all) i.tag_is ∙ is;
          made = ap (λ (t : Tag). field_for fields (t, (parts_of a).1)) i.tag_is ∙ b.1;
        }))
