-- The Exif data of a file, where the front of it settles its `meta`.
use Rattle.std.proofs.Common.{◌≡◌, ℕ, eqb, Bool, true, false, List, [], ◌++◌, Option, None, Some, Result, Ok, IfSome, refl, sym, ap, ◌∙◌, subst}
use Rattle.std.proofs.lemmas.Bool.{eqb-true}
use Rattle.exif_types.specs.Failures.{Failure}
use Rattle.exif_types.specs.Refusals.{Refusal, ◌>>=◌, Fails}
use Rattle.exif_isobmff.specs.HeifFile.{meta_body}
use Rattle.exif_isobmff.specs.ItemLocations.{ItemExtents, item_bytes}
use Rattle.exif_isobmff.specs.Heif.{FoundItem, exif_item, exif_block, after_header, exif_of}
use Rattle.exif_types.proofs.Refusing.{fails_along}
use Rattle.exif_containers.specs.HeifSteps.{payload_at}

-- what follows for each file follows where one is known
pub along : (a : Option (List ℕ)) (P Q : List ℕ → Type 0) → ((xs : List ℕ) → P xs → Q xs) → IfSome a P → IfSome a Q
along None P Q f h = tt
along (Some xs) P Q f h = f xs h

-- the same of what holds for each file
pub each : (a : Option (List ℕ)) (P : List ℕ → Type 0) → ((xs : List ℕ) → P xs) → IfSome a P
each None P f = tt
each (Some xs) P f = f xs

-- ---- a block, and what follows its header

-- a block that fails
pub block_fails : (e : Failure) (a : Option (List ℕ)) (block_of : List ℕ → Result (List ℕ) Refusal) → IfSome a (λ rest. Fails e (block_of rest)) → IfSome a (λ rest. Fails e (block_of rest >>= after_header))
block_fails e a block_of h = along a _ _ (λ rest k. fails_along e (λ r. r >>= after_header) (block_of rest) (λ r. refl) k) h

-- a block that was read
pub block_read : (P : Result (List ℕ) Refusal → Type 0) (a : Option (List ℕ)) (block_of : List ℕ → Result (List ℕ) Refusal) (block now : List ℕ) → now ≡ block
    → IfSome a (λ rest. block_of rest ≡ Ok block) → P (after_header now) → IfSome a (λ rest. P (block_of rest >>= after_header))
block_read P a block_of block now e h k =
    along a _ _ (λ rest same. subst P (ap after_header e ∙ sym (ap (λ r. r >>= after_header) same)) k) h

-- ---- the item

pub settled : (file meta : List ℕ) → meta_body file ≡ Ok meta → exif_of file ≡ (exif_block file meta >>= after_header)
unfolding exif_of
settled file meta h = ap (λ r. r >>= λ meta. exif_block file meta >>= λ block. after_header block) h

placed : (file meta : List ℕ) (p : FoundItem) → exif_item meta ≡ Ok p → exif_block file meta ≡ item_bytes file p.idat p.location
unfolding exif_block
placed file meta p h = ap (λ r. r >>= λ found. item_bytes file found.idat found.location) h

pub unplaced : (e : Failure) (file meta : List ℕ) → Fails e (exif_item meta) → Fails e (exif_block file meta)
unfolding exif_block
unplaced e file meta h = fails_along e (λ r. r >>= λ found. item_bytes file found.idat found.location) (exif_item meta) (λ r. refl) h

-- the bytes of a file with this front have this `meta`
abbrev pub IsSettled : List ℕ → List ℕ → Type 0
IsSettled front meta = (rest : List ℕ) → meta_body (front ++ rest) ≡ Ok meta

-- an item that is not found
pub item_fails : (e : Failure) (a : Option (List ℕ)) (front now meta : List ℕ) → now ≡ front → IsSettled now meta → Fails e (exif_item meta) → IfSome a (λ rest. Fails e (exif_of (front ++ rest)))
item_fails e a front now meta same h k =
    subst (λ t. IfSome a (λ rest. Fails e (exif_of (t ++ rest)))) same
    (each a _ (λ rest. subst (Fails e) (sym (settled (now ++ rest) meta (h rest))) (fails_along e (λ r. r >>= after_header) (exif_block (now ++ rest) meta) (λ r. refl) (unplaced e (now ++ rest) meta k))))

pub exif_is : (file meta : List ℕ) (p : FoundItem) → meta_body file ≡ Ok meta → exif_item meta ≡ Ok p → payload_at file p.idat p.location ≡ exif_of file
exif_is file meta p h k = sym (settled file meta h ∙ ap (λ r. r >>= after_header) (placed file meta p k))

-- put together in another way than from the file, an item has the same bytes in each
pub other_method : (file other : List ℕ) (idat : Option (List ℕ)) (p : ItemExtents) → (p.method ≡ 0 → ⊥) → item_bytes other idat p ≡ item_bytes file idat p
unfolding item_bytes
other_method file other idat p h = by (eqb p.method 0) refl
  where
    by : (b : Bool) → eqb p.method 0 ≡ b → item_bytes other idat p ≡ item_bytes file idat p
    by true e = absurd (h (eqb-true p.method 0 e))
    by false e = rw e refl

-- an item in the file has the same bytes whatever else the file holds
pub no_matter : (file : List ℕ) (idat other : Option (List ℕ)) (p : ItemExtents) → p.method ≡ 0 → item_bytes file other p ≡ item_bytes file idat p
unfolding item_bytes
no_matter file idat other p h = rw h refl

-- an item that is put together in another way than from the file
pub beside_gives : (P : Result (List ℕ) Refusal → Type 0) (a : Option (List ℕ)) (front now meta : List ℕ) (p : FoundItem) → now ≡ front → IsSettled now meta → exif_item meta ≡ Ok p
    → (p.location.method ≡ 0 → ⊥) → P (payload_at [] p.idat p.location) → IfSome a (λ rest. P (exif_of (front ++ rest)))
beside_gives P a front now meta p same h k m t =
    subst (λ t. IfSome a (λ rest. P (exif_of (t ++ rest)))) same
    (each a _ (λ rest. subst P (ap (λ r. r >>= after_header) (other_method (now ++ rest) [] p.idat p.location m) ∙ exif_is (now ++ rest) meta p (h rest) k) t))

-- an item in the file
pub in_file_gives : (P : Result (List ℕ) Refusal → Type 0) (a : Option (List ℕ)) (front now meta : List ℕ) (p : FoundItem) → now ≡ front → IsSettled now meta → exif_item meta ≡ Ok p
    → p.location.method ≡ 0 → IfSome a (λ rest. P (payload_at (front ++ rest) None p.location)) → IfSome a (λ rest. P (exif_of (front ++ rest)))
in_file_gives P a front now meta p same h k m t =
    along a _ _ (λ rest s. subst P (ap (λ r. r >>= after_header) (no_matter (front ++ rest) p.idat None p.location m) ∙ exif_is (front ++ rest) meta p (subst (λ t. meta_body (t ++ rest) ≡ Ok meta) same (h rest)) k) s) t
