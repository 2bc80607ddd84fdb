-- Parts that may hold a location are answered.
use Rattle.std.proofs.Common.{◌≡◌, ◌-◌, ◌+◌, ℕ, zero, suc, Bool, true, false, ◌&&◌, cond, nat_eq, nat_lt, List, [], ◌∷◌, take, map, Option, Some, refl, ap, sym, ◌∙◌, subst, arith}
use Rattle.std.proofs.lemmas.List.Elements.{Contains-append_left, Contains-append_right}
use Rattle.std.specs.List.{AllByRecursion, Contains, flat_map}
use Rattle.std.specs.Option.{option_map}
use Rattle.exif_inventory.specs.declared.part.Part.{Part}
use Rattle.exif_privacy.specs.Data.{data_of}
use Rattle.exif_privacy.specs.Erasing.{all_stay, found, stays_for}
use Rattle.exif_privacy.specs.Judging.{front_reasons, judged_from}
use Rattle.exif_privacy.specs.Parts.{part_reasons}
use Rattle.exif_privacy.specs.Portions.{full_len, goes_on, has_portion, is_extended, joined_len, run_len}
use Rattle.exif_privacy.specs.Promises.{LeftIsAnswered, ReasonsAreItsOwn}
use Rattle.exif_privacy.specs.declared.remaining.Remaining.{Remaining}
use Rattle.exif_privacy.specs.declared.remaining.Reason.{Reason}
use Rattle.exif_locations.specs.declared.unread.Unread.{Unread}
use Rattle.exif_privacy.proofs.TwiceSteps.{found_there}

-- ---- lists

further : {X : Type 0} → (y : X) (xs : List X) (x : X) → Contains xs x → Contains (y ∷ xs) x
further y xs x h = let within = h.1 in (suc h.0, omega arith, h.2)

here : {X : Type 0} → (y : X) (xs : List X) (x : X) → y ≡ x → Contains (y ∷ xs) x
here y xs x e = (0, omega arith, e)

mapped : (part : Part) (whys : List Reason) (why : Reason) → Contains whys why → Contains (map (stays_for part) whys) (stays_for part why)
mapped part [] why h = absurd (let within = h.1 in omega arith)
mapped part (w ∷ whys) why (zero, within, e) = here _ _ _ (ap (stays_for part) e)
mapped part (w ∷ whys) why (suc k, within, e) = further _ _ _ (mapped part whys why (k, omega arith, e))

-- a reason of a part among those of all
answered : (parts : List (Part × List Reason)) (part : Part) (whys : List Reason) (why : Reason) → Contains parts (part, whys) → Contains whys why → Contains (flat_map all_stay parts) (stays_for part why)
answered [] part whys why h w = absurd (let within = h.1 in omega arith)
answered (p ∷ ps) part whys why (zero, within, e) w =
    let P : Part × List Reason → Type 0 = λ q. Contains (flat_map all_stay (q ∷ ps)) (stays_for part why) in
    subst P (sym e) (Contains-append_left (map (stays_for part) whys) (flat_map all_stay ps) (stays_for part why) (mapped part whys why w))
answered (p ∷ ps) part whys why (suc k, within, e) w =
    Contains-append_right (all_stay p) (flat_map all_stay ps) (stays_for part why) (answered ps part whys why (k, omega arith, e) w)

some_same : {A : Type 0} {x y : A} → ◌≡◌ {A = Option A} (Some x) (Some y) → x ≡ y
some_same e = cc

pub left_is_answered : LeftIsAnswered
left_is_answered unread file new stays parts part whys why e p j w =
    let there : option_map (found unread new) (Some parts) ≡ Some stays = ap (option_map (found unread new)) (sym p) ∙ found_there unread file new stays e in
    subst (λ (list : List Remaining). Contains list (stays_for part why)) (some_same there) (answered _ part whys why j w)

-- ---- portions

-- parts of extended packets
abbrev pub AllExtended : List Part → Type 0
AllExtended parts = AllByRecursion (λ part. is_extended part.kind ≡ true) parts

and_first : (a b : Bool) → (a && b) ≡ true → a ≡ true
and_first true b e = refl
and_first false b e = cc

one_more : (k m : ℕ) (p : Part) (ps : List Part) → k - 1 ≡ m → is_extended p.kind ≡ true → AllExtended (take m ps) → AllExtended (take k (p ∷ ps))
one_more zero m p ps e x xs = tt
one_more (suc k) m p ps e x xs = let same : m ≡ k = omega arith in (x, subst (λ n. AllExtended (take n ps)) same xs)

extended_if : (full goes : Bool) (n r : ℕ) (p : Part) (ps : List Part) → (goes ≡ true → is_extended p.kind ≡ true) → AllExtended (take (r - (n + 1)) ps) → AllExtended (take (cond full n (cond goes r 0) - n) (p ∷ ps))
extended_if true goes n r p ps x xs = let none : 0 ≡ n - n = omega arith in subst (λ k. AllExtended (take k (p ∷ ps))) none tt
extended_if false false n r p ps x xs = let none : 0 ≡ 0 - n = omega arith in subst (λ k. AllExtended (take k (p ∷ ps))) none tt
extended_if false true n r p ps x xs = one_more (r - n) (r - (n + 1)) p ps (omega arith) (x refl) xs

none_extended : (k : ℕ) → AllExtended (take k [])
none_extended zero = tt
none_extended (suc k) = tt

pub run_extended : (file : List ℕ) (first : Part) (n at : ℕ) (parts : List Part) → AllExtended (take (run_len file first n at parts - n) parts)
unfolding run_len
run_extended file first n at [] = none_extended _
run_extended file first n at (p ∷ ps) =
    extended_if (nat_eq at (full_len (data_of first file))) (goes_on file first at p) n (run_len file first (n + 1) (at + (p.data_len - 40)) ps) p ps
    (λ g. and_first _ _ (and_first _ _ (and_first _ _ g)))
    (run_extended file first (n + 1) (at + (p.data_len - 40)) ps)

joined_if : (b : Bool) (n : ℕ) (parts : List Part) → AllExtended (take n parts) → AllExtended (take (cond b n 0) parts)
joined_if true n parts h = h
joined_if false n parts h = tt

-- the portions of a packet
pub joined_extended : (file : List ℕ) (parts : List Part) → AllExtended (take (joined_len file parts) parts)
joined_extended file [] = tt
joined_extended file (p ∷ ps) =
    joined_if (has_portion p) (run_len file p 0 0 (p ∷ ps)) (p ∷ ps)
    (let same : run_len file p 0 0 (p ∷ ps) - 0 ≡ run_len file p 0 0 (p ∷ ps) = omega arith in
    subst (λ k. AllExtended (take k (p ∷ ps))) same (run_extended file p 0 0 (p ∷ ps)))

-- ---- other parts

tail_extended : (n : ℕ) (p : Part) (ps : List Part) → AllExtended (take n (p ∷ ps)) → AllExtended (take (n - 1) ps)
tail_extended zero p ps h = tt
tail_extended (suc k) p ps h = let same : k ≡ suc k - 1 = omega arith in subst (λ n. AllExtended (take n ps)) same h.1

not_joined : (file : List ℕ) (p : Part) (ps : List Part) → is_extended p.kind ≡ false → joined_len file (p ∷ ps) ≡ 0
not_joined file p ps other = ap (λ b. cond (b && nat_lt 40 p.data_len) (run_len file p 0 0 (p ∷ ps)) 0) other

both : (b : Bool) → b ≡ true → b ≡ false → ⊥
both b t f = cc

-- the reasons of one are its own
own_from : (unread : Unread) (file : List ℕ) (parts : List Part) (whys : List Reason) (left : ℕ) (part : Part)
    → AllExtended (take left parts) → Contains parts part → is_extended part.kind ≡ false
    → Contains (judged_from unread file (whys, left) parts) (part, part_reasons unread part.kind (data_of part file))
own_from unread file [] whys left part x h other = absurd (let within = h.1 in omega arith)
own_from unread file (p ∷ ps) whys (suc left) part x (zero, within, e) other =
    absurd (both (is_extended p.kind) x.0 (ap (λ (q : Part). is_extended q.kind) e ∙ other))
own_from unread file (p ∷ ps) whys (suc left) part x (suc k, within, e) other =
    further _ _ _ (own_from unread file ps whys left part x.1 (k, omega arith, e) other)
own_from unread file (p ∷ ps) whys zero part x (zero, within, e) other =
    let single : ℕ → Part × List Reason = λ m. (p, front_reasons unread file m p ps) in
    let own : Part → Part × List Reason = λ q. (q, part_reasons unread q.kind (data_of q file)) in
    here _ _ _ (ap single (not_joined file p ps (ap (λ (q : Part). is_extended q.kind) e ∙ other)) ∙ ap own e)
own_from unread file (p ∷ ps) whys zero part x (suc k, within, e) other =
    let n : ℕ = joined_len file (p ∷ ps) in
    further _ _ _
    (own_from unread file ps (front_reasons unread file n p ps) (n - 1) part
    (tail_extended n p ps (joined_extended file (p ∷ ps))) (k, omega arith, e) other)

pub reasons_are_own : ReasonsAreItsOwn
reasons_are_own unread file parts part h other = own_from unread file parts [] 0 part tt h other
