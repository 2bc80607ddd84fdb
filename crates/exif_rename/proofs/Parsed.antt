-- How a pattern is read, character by character.
use Rattle.std.proofs.Common.{◌≡◌, ◌==◌, ℕ, ◌+◌, ◌-◌, ◌<◌, ◌≤◌, Bool, true, false, cond, List, [], ◌∷◌, ◌++◌, Result, Ok, Err, ap, sym, refl, subst, ◌∙◌, append_assoc, length, get_or, take, drop, arith}
use Rattle.std.proofs.lemmas.List.{drop_more, get_or-drop, length-drop, length-take-le, take_more}
use Rattle.exif_rename.specs.declared.pattern.Part.{Part}
use Rattle.exif_rename.specs.declared.pattern.Fault.{Fault}
use Rattle.exif_rename.specs.declared.pattern.PatternError.{PatternError}
use Rattle.exif_rename.specs.Patterns.{no_name, is_no_name, part_at, parts_in, with_part}

-- parts in front of others
abbrev pub with_parts : List Part → Result (List Part) PatternError → Result (List Part) PatternError
with_parts front (Ok parts) = Ok (front ++ parts)
with_parts front (Err error) = Err error

with_parts_more : (front : List Part) (part : Part) (r : Result (List Part) PatternError) → with_parts front (with_part part r) ≡ with_parts (front ++ part ∷ []) r
with_parts_more front part (Ok parts) = ap (λ ps. Ok ps) (sym (append_assoc front (part ∷ []) parts))
with_parts_more front part (Err error) = refl

at_part : (at first : ℕ) (rest : List ℕ) (found : Part × ℕ) → part_at first rest ≡ Ok found → parts_in 0 at (first ∷ rest) ≡ with_part found.0 (parts_in found.1 (at + 1) rest)
at_part at first rest found is =
    ap (λ (r : Result (Part × ℕ) Fault). elim r [ Err fault ↦ Err (record { fault = fault; at = at }) | Ok found ↦ with_part found.0 (parts_in found.1 (at + 1) rest) ]) is

rest_at : (all : List ℕ) (at first : ℕ) → at < length all → first ≡ get_or all at first → drop at all ≡ first ∷ drop (at + 1) all
rest_at all at first h is = drop_more all at first h ∙ ap (λ c. c ∷ drop (at + 1) all) (sym is)

-- one more part
pub parts_next : (all rest : List ℕ) (parts parts' : List Part) (at first : ℕ) (part : Part) (more : ℕ) → at < length all → first ≡ get_or all at first → rest ≡ drop (at + 1) all
    → part_at first rest ≡ Ok (part, more) → parts' ≡ parts ++ part ∷ []
    → parts_in 0 0 all ≡ with_parts parts (parts_in 0 at (drop at all)) → parts_in 0 0 all ≡ with_parts parts' (parts_in more (at + 1) (drop (at + 1) all))
parts_next all rest parts parts' at first part more h is e found grown so_far =
    let found' : part_at first (drop (at + 1) all) ≡ Ok (part, more) = subst (λ (cs : List ℕ). part_at first cs ≡ Ok (part, more)) e found in
    so_far ∙ ap (λ cs. with_parts parts (parts_in 0 at cs)) (rest_at all at first h is) ∙ ap (with_parts parts) (at_part at first (drop (at + 1) all) (part, more) found')
    ∙ with_parts_more parts part (parts_in more (at + 1) (drop (at + 1) all)) ∙ ap (λ ps. with_parts ps (parts_in more (at + 1) (drop (at + 1) all))) (sym grown)

name_next : (all : List ℕ) (start at c : ℕ) → start ≤ at → at < length all → c ≡ get_or all at c
    → take (at + 1 - start) (drop start all) ≡ take (at - start) (drop start all) ++ c ∷ []
name_next all start at c before h is =
    let within : at - start < length (drop start all) = omega (arith, length-drop start all) in
    let e : start + (at - start) ≡ at = omega arith in
    let next : at + 1 - start ≡ at - start + 1 = omega arith in
    let there : get_or (drop start all) (at - start) c ≡ c = get_or-drop start all (at - start) c ∙ ap (λ i. get_or all i c) e ∙ sym is in
    ap (λ n. take n (drop start all)) next ∙ take_more (drop start all) (at - start) c within ∙ ap (λ x. take (at - start) (drop start all) ++ x ∷ []) there

if_as : {A : Type 0} (b v : Bool) (x y : A) → b ≡ v → cond b x y ≡ cond v x y
if_as b v x y e = ap (λ (b : Bool). cond b x y) e

-- a character of a name
pub no_name_goes_on : (all : List ℕ) (start at c : ℕ) → start ≤ at → at < length all → c ≡ get_or all at c → (c == 47) ≡ false
    → no_name 0 [] all ≡ no_name start (take (at - start) (drop start all)) (drop at all)
    → no_name 0 [] all ≡ no_name start (take (at + 1 - start) (drop start all)) (drop (at + 1) all)
no_name_goes_on all start at c before h is other so_far =
    let name = take (at - start) (drop start all) in
    so_far ∙ ap (no_name start name) (rest_at all at c h is) ∙ if_as (c == 47) false _ _ other
    ∙ ap (λ n. no_name start n (drop (at + 1) all)) (sym (name_next all start at c before h is))

-- a slash after a good name
pub no_name_good : (all : List ℕ) (start at c : ℕ) → start ≤ at → at < length all → c ≡ get_or all at c → (c == 47) ≡ true
    → is_no_name (take (at - start) (drop start all)) ≡ false
    → no_name 0 [] all ≡ no_name start (take (at - start) (drop start all)) (drop at all)
    → no_name 0 [] all ≡ no_name (at + 1) (take (at + 1 - (at + 1)) (drop (at + 1) all)) (drop (at + 1) all)
no_name_good all start at c before h is slash good so_far =
    let name = take (at - start) (drop start all) in
    let rest = drop (at + 1) all in
    let long : length name ≡ at - start = length-take-le (at - start) (drop start all) (omega (arith, length-drop start all)) in
    let next : start + length name + 1 ≡ at + 1 = omega arith in
    let none : at + 1 - (at + 1) ≡ 0 = omega arith in
    so_far ∙ ap (no_name start name) (rest_at all at c h is) ∙ if_as (c == 47) true _ _ slash ∙ if_as (is_no_name name) false _ _ good
    ∙ ap (λ n. no_name n [] rest) next ∙ ap (λ n. no_name (at + 1) (take n rest) rest) (sym none)
