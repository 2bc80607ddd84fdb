-- A walk over resources, one after the other.
use Rattle.std.proofs.Common.{◌≡◌, ◌<◌, ◌≤◌, ◌+◌, ◌-◌, ℕ, zero, suc, List, [], ◌∷◌, ◌++◌, length, drop, All, refl, ap, subst, sym, ◌∙◌, arith, length-drop, append_assoc, append-nil}
use Rattle.std.proofs.lemmas.List.Elements.{All-append, All-cons, All-nil}
use Rattle.exif_data_locations.specs.Regions.{LiesIn}
use Rattle.exif_inventory.specs.Resources.{resource_at}
use Rattle.exif_inventory.specs.declared.resource.Resource.{Resource}
use Rattle.exif_data_locations.specs.Resources.{resource_region, resources_by}
use Rattle.exif_data_locations.specs.declared.region.Region.{Region}

-- what follows the first byte is shorter by that
shorter : (m n : ℕ) (bytes : List ℕ) → length bytes ≤ n → length (drop m bytes) ≤ n
shorter m n bytes h = let e : length (drop m bytes) ≡ length bytes - m = length-drop m bytes in omega arith

-- any bound that is large enough serves
resources_any : (n k tag at : ℕ) (bytes : List ℕ) → length bytes ≤ n → length bytes ≤ k
    → resources_by n tag at bytes ≡ resources_by k tag at bytes
unfolding resources_by
resources_any zero zero tag at [] h l = refl
resources_any zero (suc k) tag at [] h l = refl
resources_any (suc n) zero tag at [] h l = refl
resources_any (suc n) (suc k) tag at [] h l = refl
resources_any zero k tag at (b ∷ bytes) h l = absurd (omega arith)
resources_any (suc n) zero tag at (b ∷ bytes) h l = absurd (omega arith)
resources_any (suc n) (suc k) tag at (b ∷ bytes) h l =
    let r = resource_at (b ∷ bytes) in
    ap (λ rs. resource_region tag at r (b ∷ bytes) ∷ rs)
    (resources_any n k tag (at + r.len) (drop (r.len - 1) bytes)
    (shorter (r.len - 1) n bytes (omega arith)) (shorter (r.len - 1) k bytes (omega arith)))

-- the bytes behind a resource
behind : (b : ℕ) (bytes : List ℕ) (len : ℕ) → 0 < len → drop (len - 1) bytes ≡ drop len (b ∷ bytes)
behind b bytes zero h = absurd (omega arith)
behind b bytes (suc n) h = ap (λ k. drop k bytes) (omega arith)

-- one resource
resources_on : (tag at : ℕ) (bytes : List ℕ) → 0 < length bytes → 0 < (resource_at bytes).len
    → let r = resource_at bytes in
    resources_by (length bytes) tag at bytes
    ≡ resource_region tag at r bytes
    ∷ resources_by (length (drop r.len bytes)) tag (at + r.len) (drop r.len bytes)
unfolding resources_by
resources_on tag at [] h p = absurd (omega arith)
resources_on tag at (b ∷ bytes) h p =
    let r = resource_at (b ∷ bytes) in
    let rest = drop (r.len - 1) bytes in
    let same : rest ≡ drop r.len (b ∷ bytes) = behind b bytes r.len p in
    ap (λ rs. resource_region tag at r (b ∷ bytes) ∷ rs)
    (resources_any (length bytes) (length rest) tag (at + r.len) rest
    (shorter (r.len - 1) (length bytes) bytes (omega arith)) (omega arith)
    ∙ ap (λ bs. resources_by (length bs) tag (at + r.len) bs) same)

-- the same of a resource that is the one at the front
resources_step : (tag at : ℕ) (bytes : List ℕ) (r : Resource) → r ≡ resource_at bytes → 0 < length bytes → 0 < r.len
    → resources_by (length bytes) tag at bytes
    ≡ resource_region tag at r bytes
    ∷ resources_by (length (drop r.len bytes)) tag (at + r.len) (drop r.len bytes)
resources_step tag at bytes r e h p =
    subst (λ (x : Resource). resources_by (length bytes) tag at bytes
    ≡ resource_region tag at x bytes
    ∷ resources_by (length (drop x.len bytes)) tag (at + x.len) (drop x.len bytes)) (sym e)
    (resources_on tag at bytes h (subst (λ (x : Resource). 0 < x.len) e p))

-- the end
resources_over : (n tag at : ℕ) (bytes : List ℕ) → length bytes ≡ 0 → resources_by n tag at bytes ≡ []
unfolding resources_by
resources_over zero tag at [] h = refl
resources_over (suc n) tag at [] h = refl
resources_over n tag at (b ∷ bytes) h = absurd (omega arith)

-- a walk: the regions so far with those of the rest are all, and they lie in the data
pub record Walks (tag total end : ℕ) (all regions : List Region) (at : ℕ) (rest : List ℕ) : Type 0 where
  pub made : regions ++ resources_by (length rest) tag at rest ≡ all
  pub left : at + length rest ≡ end
  pub within : All (LiesIn total) regions

-- one resource more of it
pub walks_on : (tag total end : ℕ) (all regions more : List Region) (at : ℕ) (rest next : List ℕ) (r : Resource)
    → Walks tag total end all regions at rest → end ≤ total → 0 < length rest
    → r ≡ resource_at rest → 0 < r.len → r.len ≤ length rest → r.front + r.size ≤ r.len
    → more ≡ regions ++ resource_region tag at r rest ∷ [] → next ≡ drop r.len rest
    → Walks tag total end all more (at + r.len) next
walks_on tag total end all regions more at rest next r w e h s p l f m n =
    let left : at + length rest ≡ end = w.left in
    let long : length (drop r.len rest) ≡ length rest - r.len = length-drop r.len rest in
    let here : LiesIn total (resource_region tag at r rest) = omega arith in
    let long_next : length next ≡ length rest - r.len = ap length n ∙ long in
    let step = resources_step tag at rest r s h p in
    record {
      made =
          ap (λ xs. xs ++ resources_by (length next) tag (at + r.len) next) m
          ∙ append_assoc regions (resource_region tag at r rest ∷ []) (resources_by (length next) tag (at + r.len) next)
          ∙ ap (λ bs. regions ++ (resource_region tag at r rest ∷ resources_by (length bs) tag (at + r.len) bs)) n
          ∙ ap (λ xs. regions ++ xs) (sym step)
          ∙ w.made;
      left = omega arith;
      within =
          let both : All (LiesIn total) (regions ++ resource_region tag at r rest ∷ []) =
          All-append (LiesIn total) regions (resource_region tag at r rest ∷ []) w.within
          (All-cons (LiesIn total) (resource_region tag at r rest) [] here (All-nil (LiesIn total))) in
          rw m both;
    }

-- its end
pub walks_over : (tag total end : ℕ) (all regions : List Region) (at : ℕ) (rest : List ℕ)
    → Walks tag total end all regions at rest → length rest ≡ 0 → regions ≡ all
walks_over tag total end all regions at rest w h =
    sym (append-nil regions) ∙ ap (λ xs. regions ++ xs) (sym (resources_over (length rest) tag at rest h)) ∙ w.made
