-- Each part that does not belong to a file is among those that are found.
use Rattle.std.proofs.Common.{◌≡◌, ◌<◌, zero, suc, Bool, true, false, List, [], ◌∷◌, ◌++◌, map, All, Contains, if◌then◌else◌, sym, ap, subst, arith}
use Rattle.std.proofs.lemmas.List.Elements.{All-cons, All-nil, Contains-append_left, Contains-push}
use Rattle.exif_inventory.specs.declared.part.Part.{Part}
use Rattle.exif_change.specs.Found.{belongs, foreign}

-- what was found before is found
foreign_keeps : (put : Bool) (parts found : List Part) (p : Part) → Contains found p → Contains (foreign put parts found) p
foreign_keeps put [] found p h = h
foreign_keeps put (part ∷ parts) found p h = foreign_keeps put parts (if belongs put part then found else found ++ part ∷ []) p (kept (belongs put part))
  where
    kept : (b : Bool) → Contains (if b then found else found ++ part ∷ []) p
    kept true = h
    kept false = Contains-append_left found (part ∷ []) p h

pub foreign_all : (put : Bool) (parts found : List Part) → All (λ p. belongs put p ≡ false → Contains (foreign put parts found) p) parts
foreign_all put [] found = All-nil (λ p. belongs put p ≡ false → Contains found p)
foreign_all put (part ∷ parts) found =
    let now = if belongs put part then found else found ++ part ∷ [] in
    All-cons (λ p. belongs put p ≡ false → Contains (foreign put parts now) p) part parts
    (λ no. foreign_keeps put parts now part (subst (λ b. Contains (if b then found else found ++ part ∷ []) part) (sym no) (Contains-push found part)))
    (foreign_all put parts now)

-- what a function makes of an element is among what it makes of all
pub contains_map : {X Y : Type 0} (f : X → Y) (xs : List X) (x : X) → Contains xs x → Contains (map f xs) (f x)
contains_map f [] x (k, h, e) = absurd (none h)
  where
    none : k < 0 → ⊥
    none h = omega arith
contains_map f (y ∷ ys) x (zero, h, e) = (0, omega arith, ap f e)
contains_map f (y ∷ ys) x (suc k, h, e) =
    let r = contains_map f ys x (k, omega arith, e) in
    let less = r.1 in
    (suc r.0, omega arith, r.2)
