-- The Exif data of a file whose source reads at an offset.
use Rattle.std.proofs.Common.{◌≡◌, ℕ, List, [], ◌++◌, Option, None, Some, Result, Ok, IfSome, refl, sym, ap, ◌∙◌, subst}
use Rattle.std.specs.Option.{option_map}
use Rattle.std.specs.Io.KnownBytes.{Keeps}
use Rattle.exif_base.specs.Told.{left_behind}
use Rattle.exif_types.specs.Failures.{Failure}
use Rattle.exif_types.specs.Refusals.{Refusal, ◌>>=◌, Fails}
use Rattle.exif_isobmff.specs.HeifFile.{meta_body}
use Rattle.exif_isobmff.specs.ItemLocations.{item_bytes}
use Rattle.exif_isobmff.specs.Heif.{FoundItem, exif_item, exif_block, after_header, exif_of}
use Rattle.exif_types.proofs.Refusing.{fails_along}
use Rattle.exif_containers.specs.HeifSteps.{GoesOn, payload_at}
use Rattle.exif_containers.specs.GoingBack.{FindsMeta, HasRead, IsAhead}
use Rattle.exif_containers.proofs.IsobmffAt.{keeps_all}
use Rattle.exif_containers.proofs.IsobmffFile.{settled, unplaced, exif_is, other_method, no_matter}

-- what is known of the file that begins at an offset
at_origin : (P : List ℕ → Type 0) (known : Option (List ℕ)) (file : List ℕ) → Some file ≡ known → IfSome known P → P file
at_origin P known file e h = subst (λ o. IfSome o P) (sym e) h

-- ---- the boxes before `meta`

rest_is : (front file : List ℕ) (P : List ℕ → Type 0) (a b : Option (List ℕ)) → option_map (λ rest. front ++ rest) a ≡ Some file → Keeps a b → IfSome b (λ rest. P (front ++ rest)) → P file
rest_is front file P None b e k h = absurd (subst (λ o. IfSome o (λ x. ⊥)) e tt)
rest_is front file P (Some xs) None e k h = absurd k
rest_is front file P (Some xs) (Some ys) e k h =
    let there : P (front ++ xs) = subst (λ t. P (front ++ t)) k h in
    subst (λ o. IfSome o P) e there

-- reading goes on where nothing was taken
pub back_resumed : (P : Result (List ℕ) Refusal → Type 0) (origin : ℕ) (front : List ℕ) (stream a b : Option (List ℕ)) → Keeps a b → IfSome b (λ rest. P (exif_of (front ++ rest)))
    → (file : List ℕ) → HasRead origin front file stream a → P (exif_of file)
back_resumed P origin front stream a b k h file r = rest_is front file (λ t. P (exif_of t)) a b r.0 k h

-- boxes that were read, with what is left
ahead_read : (origin : ℕ) (front none file : List ℕ) (stream after a b : Option (List ℕ)) → none ≡ [] → GoesOn a b none front → after ≡ stream → IsAhead origin file stream a → HasRead origin front file after b
ahead_read origin front none file stream after None b z g s r = absurd (subst (λ o. IfSome o (λ x. ⊥)) r.0 tt)
ahead_read origin front none file stream after (Some xs) None z g s r = absurd g
ahead_read origin front none file stream after (Some xs) (Some ys) z g s r =
    (ap Some (g ∙ ap (λ t. t ++ xs) z) ∙ r.0, r.1 ∙ ap (left_behind (Some origin)) (sym s))

pub ahead_goes : (P : Result (List ℕ) Refusal → Type 0) (origin : ℕ) (front none : List ℕ) (stream after a b : Option (List ℕ)) → none ≡ [] → GoesOn a b none front → after ≡ stream
    → ((file : List ℕ) → HasRead origin front file after b → P (exif_of file)) → (file : List ℕ) → IsAhead origin file stream a → P (exif_of file)
ahead_goes P origin front none stream after a b z g s h file r = h file (ahead_read origin front none file stream after a b z g s r)

pub ahead_behind : (P : Result (List ℕ) Refusal → Type 0) (origin : ℕ) (front none : List ℕ) (stream after a b : Option (List ℕ)) → none ≡ [] → GoesOn a b none front → after ≡ stream
    → IfSome b (λ rest. P (exif_of (front ++ rest))) → (file : List ℕ) → IsAhead origin file stream a → P (exif_of file)
ahead_behind P origin front none stream after a b z g s h =
    ahead_goes P origin front none stream after a b z g s (back_resumed P origin front after b b (keeps_all b) h)

-- boxes that were read after others
pub resumed : (P : Result (List ℕ) Refusal → Type 0) (a b c : Option (List ℕ)) (front mid new : List ℕ) → GoesOn a b front mid → GoesOn b c mid new
    → IfSome c (λ rest. P (exif_of (new ++ rest))) → IfSome a (λ rest. P (exif_of (front ++ rest)))
resumed P None b c front mid new g k h = tt
resumed P (Some xs) None c front mid new g k h = absurd g
resumed P (Some xs) (Some ys) None front mid new g k h = absurd k
resumed P (Some xs) (Some ys) (Some zs) front mid new g k h = subst (λ t. P (exif_of t)) (k ∙ g) h

-- ---- the item of a `meta` that was found

-- an item that is not found
pub back_fails : (e : Failure) (body now : List ℕ) (origin : ℕ) (front : List ℕ) (stream a : Option (List ℕ)) → FindsMeta body (left_behind (Some origin) stream) → now ≡ body → Fails e (exif_item now)
    → (file : List ℕ) → HasRead origin front file stream a → Fails e (exif_of file)
back_fails e body now origin front stream a h same k file r =
    let meta : meta_body file ≡ Ok body = at_origin (λ file. meta_body file ≡ Ok body) (left_behind (Some origin) stream) file r.1 h in
    subst (Fails e) (sym (settled file body meta))
    (fails_along e (λ r. r >>= after_header) (exif_block file body) (λ r. refl) (unplaced e file body (subst (λ t. Fails e (exif_item t)) same k)))

-- an item that is put together in another way than from the file
pub back_beside : (P : Result (List ℕ) Refusal → Type 0) (body now : List ℕ) (origin : ℕ) (front : List ℕ) (stream a : Option (List ℕ)) (p : FoundItem) → FindsMeta body (left_behind (Some origin) stream) → now ≡ body
    → exif_item now ≡ Ok p → (p.location.method ≡ 0 → ⊥) → P (payload_at [] p.idat p.location) → (file : List ℕ) → HasRead origin front file stream a → P (exif_of file)
back_beside P body now origin front stream a p h same k m t file r =
    let meta : meta_body file ≡ Ok body = at_origin (λ file. meta_body file ≡ Ok body) (left_behind (Some origin) stream) file r.1 h in
    subst P (ap (λ r. r >>= after_header) (other_method file [] p.idat p.location m) ∙ exif_is file body p meta (ap exif_item (sym same) ∙ k)) t

-- an item in the file, by its bytes
item_is : (body now : List ℕ) (origin : ℕ) (file : List ℕ) (stream : Option (List ℕ)) (p : FoundItem) → FindsMeta body (left_behind (Some origin) stream) → now ≡ body → exif_item now ≡ Ok p → p.location.method ≡ 0
    → Some file ≡ left_behind (Some origin) stream → payload_at file None p.location ≡ exif_of file
item_is body now origin file stream p h same k m r =
    let meta : meta_body file ≡ Ok body = at_origin (λ file. meta_body file ≡ Ok body) (left_behind (Some origin) stream) file r h in
    ap (λ r. r >>= after_header) (no_matter file p.idat None p.location m) ∙ exif_is file body p meta (ap exif_item (sym same) ∙ k)

pub back_refused : (e : Failure) (body now : List ℕ) (origin : ℕ) (front : List ℕ) (stream after a : Option (List ℕ)) (p : FoundItem) → FindsMeta body (left_behind (Some origin) stream) → now ≡ body
    → exif_item now ≡ Ok p → p.location.method ≡ 0 → after ≡ stream → IfSome (left_behind (Some origin) after) (λ file. Fails e (item_bytes file None p.location))
    → (file : List ℕ) → HasRead origin front file stream a → Fails e (exif_of file)
back_refused e body now origin front stream after a p h same k m s t file r =
    let there : Some file ≡ left_behind (Some origin) after = r.1 ∙ ap (left_behind (Some origin)) (sym s) in
    subst (Fails e) (item_is body now origin file stream p h same k m r.1)
    (fails_along e (λ r. r >>= after_header) (item_bytes file None p.location) (λ r. refl) (at_origin (λ file. Fails e (item_bytes file None p.location)) (left_behind (Some origin) after) file there t))

pub back_gives : (P : Result (List ℕ) Refusal → Type 0) (body now : List ℕ) (origin : ℕ) (front : List ℕ) (stream after a : Option (List ℕ)) (p : FoundItem) (block read : List ℕ) → FindsMeta body (left_behind (Some origin) stream)
    → now ≡ body → exif_item now ≡ Ok p → p.location.method ≡ 0 → after ≡ stream → read ≡ block → IfSome (left_behind (Some origin) after) (λ file. item_bytes file None p.location ≡ Ok block) → P (after_header read)
    → (file : List ℕ) → HasRead origin front file stream a → P (exif_of file)
back_gives P body now origin front stream after a p block read h same k m s d t q file r =
    let there : Some file ≡ left_behind (Some origin) after = r.1 ∙ ap (left_behind (Some origin)) (sym s) in
    let given : item_bytes file None p.location ≡ Ok block = at_origin (λ file. item_bytes file None p.location ≡ Ok block) (left_behind (Some origin) after) file there t in
    subst P (ap after_header d ∙ sym (ap (λ r. r >>= after_header) given) ∙ item_is body now origin file stream p h same k m r.1) q
