-- What a search from the end of a list finds.
use Rattle.std.proofs.Common.{◌≡◌, zero, suc, Bool, true, false, cond, ◌==◌, List, [], ◌∷◌, ◌++◌, Option, Some, None, Bor, refl, ap, sym, subst, ◌∙◌, arith}
use Rattle.std.specs.Prelude.{All, find, reverse, MatchOption, IfSome, IfNone}
use Rattle.std.specs.Option.{option_copied}
use Rattle.std.specs.Bool.{Decides}
use Rattle.std.proofs.lemmas.Bool.{false≢true}
use Rattle.std.proofs.lemmas.List.{reverse-append}
use Rattle.std.proofs.lemmas.List.Elements.{All-nil, All-cons}
use Rattle.exif_text.specs.declared.ifd.In.{In}
use Rattle.exif_types.specs.declared.tag.Tag.{Tag}
use Rattle.exif_types.specs.declared.field.Field.{Field}
use Rattle.exif_types.specs.Lookup.{HasName, IsLastNamed, NoneNamed, is_named, last_named, tag_eq}
use Rattle.exif_types.specs.FieldEq.{ifd_Decides, tag_Decides}
use Rattle.exif_types.specs.ValueEq.{both}

-- the first of two
abbrev pub or_else : {X : Type 0} → Option X → Option X → Option X
or_else None o = o
or_else (Some x) o = Some x

-- the test decides the name
pub named_Decides : (tag : Tag) (ifd_num : In) (f : Field) → Decides (is_named tag ifd_num f) (HasName tag ifd_num f)
named_Decides tag ifd_num f =
    both (tag_eq f.tag tag) (f.ifd_num.0 == ifd_num.0) (tag_Decides f.tag tag) (ifd_Decides f.ifd_num ifd_num)

-- a search of a list with one item more
pub find_one_more : {X : Type 0} (p : X → Bool) (ys : List X) (x : X) → find p (ys ++ x ∷ []) ≡ or_else (find p ys) (cond (p x) (Some x) None)
find_one_more p [] x = refl
find_one_more {X} p (y ∷ ys) x =
    elim (p y) as (λ b. cond b (Some y) (find p (ys ++ x ∷ [])) ≡ or_else (cond b (Some y) (find p ys)) (cond (p x) (Some x) None))
    [ true ↦ refl | false ↦ find_one_more p ys x ]

-- what was found of a longer list
found_more : (tag : Tag) (ifd_num : In) (found : Option Field) (new : Bool) (x : Field) (xs : List Field) → Decides new (HasName tag ifd_num x)
    → MatchOption found (NoneNamed tag ifd_num xs) (IsLastNamed tag ifd_num xs)
    → MatchOption (or_else found (cond new (Some x) None)) (NoneNamed tag ifd_num (x ∷ xs)) (IsLastNamed tag ifd_num (x ∷ xs))
found_more tag ifd_num (Some y) new x xs d h = (x ∷ h.0, h.1, ap (λ t. x ∷ t) h.2, h.3, h.4)
found_more tag ifd_num None true x xs d h = ([], xs, refl, d.0 refl, h)
found_more tag ifd_num None false x xs d h =
    All-cons (λ f. ¬ (HasName tag ifd_num f)) x xs (λ named. false≢true (d.1 named)) h

-- the last field of a name, or none
pub last_is_last : (fields : List Field) (tag : Tag) (ifd_num : In)
    → MatchOption (last_named fields tag ifd_num) (NoneNamed tag ifd_num fields) (IsLastNamed tag ifd_num fields)
last_is_last [] tag ifd_num = All-nil (λ f. ¬ (HasName tag ifd_num f))
last_is_last (x ∷ xs) tag ifd_num =
    let P : Option Field → Type 0 = λ o. MatchOption o (NoneNamed tag ifd_num (x ∷ xs)) (IsLastNamed tag ifd_num (x ∷ xs)) in
    let p = is_named tag ifd_num in
    subst P (sym (ap (find p) (reverse-append (x ∷ []) xs) ∙ find_one_more p (reverse xs) x))
    (found_more tag ifd_num (last_named xs tag ifd_num) (p x) x xs (named_Decides tag ifd_num x) (last_is_last xs tag ifd_num))

-- what holds of a field that was found
pub if_found : {X : Type 0} (N : Type 0) (P : X → Type 0) (found : Option X) → MatchOption found N P → IfSome found P
if_found N P None h = tt
if_found N P (Some x) h = h

-- what holds where no field was found
pub if_none : {X : Type 0} (N : Type 0) (P : X → Type 0) (found : Option (Bor X)) → MatchOption (option_copied found) N P → IfNone found N
if_none N P None h = h
if_none N P (Some x) h = tt
