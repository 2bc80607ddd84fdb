-- What a file holds in the first box of a type.
use Rattle.std.proofs.Common.{◌≡◌, ℕ, ◌^◌, ◌-◌, Bool, true, false, cond, ltb, List, [], length, take, codes, Option, Some, None, IfSome, Ok, Err, IfErr, refl, sym, ap, ◌∙◌, subst}
use Rattle.std.specs.Option.{option_map}
use Rattle.std.proofs.lemmas.Bool.{le-ltb, lt-ltb}
use Rattle.exif_types.specs.Failures.{Failure}
use Rattle.exif_types.specs.Refusals.{Fails, ◌>>=◌}
use Rattle.exif_types.proofs.Refusing.{fails_along}
use Rattle.exif_segments.specs.Answer.{IsShort}
use Rattle.exif_formats.specs.Cr3.{boxes_of, broken_cr3, held_front, held_in, held_of, movie_of, no_exif_in_cr3, required}
use Rattle.exif_formats.specs.Cr3Steps.{IsBehind, IsCut, IsFoundIn, IsFoundOf, IsFront, IsHeld, held_from}
use Rattle.exif_formats.specs.declared.raw.cr3.walk.Held.{Held}
use Rattle.exif_formats.proofs.Cr3Loop.{along_known}
use Rattle.exif_formats.proofs.Cr3Walk.{fails_with, within-nil}

-- no boxes hold nothing
held-nothing : (name usertype : List ℕ) → held_in name usertype [] ≡ Ok None
unfolding held_in
held-nothing name usertype = within-nil name usertype (2 ^ 64 - 1)

-- no box follows the first one
pub none_behind : (name usertype : List ℕ) (a b c : Option (List ℕ)) → IsBehind false a b → IsFoundOf name usertype None a c
none_behind name usertype None b c h = tt
none_behind name usertype (Some xs) b c h = ap (λ r. r >>= held_in name usertype) h ∙ held-nothing name usertype

-- what is found behind the first box is found in the file
pub found_behind : (name usertype : List ℕ) (held : Option Held) (a b c : Option (List ℕ)) → IsBehind true a b → IsFoundIn name usertype held b c
    → IsFoundOf name usertype held a c
found_behind name usertype None None b c h k = tt
found_behind name usertype None (Some xs) None c h k = absurd h
found_behind name usertype None (Some xs) (Some ys) c h k = ap (λ r. r >>= held_in name usertype) h ∙ k
found_behind name usertype (Some held) None b c h k = tt
found_behind name usertype (Some held) (Some xs) None c h k = absurd h
found_behind name usertype (Some held) (Some xs) (Some ys) None h k = absurd k
found_behind name usertype (Some held) (Some xs) (Some ys) (Some zs) h k = ap (λ r. r >>= held_in name usertype) h ∙ k

-- the first box is refused
pub brand_fails : (name usertype : List ℕ) (e : Failure) (a : Option (List ℕ)) → IfSome a (λ xs. Fails e (boxes_of xs)) → IfSome a (λ xs. Fails e (held_of name usertype xs))
brand_fails name usertype e a h = along_known a _ _ (λ xs f. fails_along e (λ r. r >>= held_in name usertype) (boxes_of xs) (λ r. refl) f) h

-- a box behind it is refused
pub behind_fails : (name usertype : List ℕ) (e : Failure) (a b : Option (List ℕ)) → IsBehind true a b → IfSome b (λ ys. Fails e (held_in name usertype ys))
    → IfSome a (λ xs. Fails e (held_of name usertype xs))
behind_fails name usertype e None b h k = tt
behind_fails name usertype e (Some xs) None h k = absurd h
behind_fails name usertype e (Some xs) (Some ys) h k = subst (Fails e) (sym (ap (λ r. r >>= held_in name usertype) h)) k

-- ---- what the box holds

-- all of it
held-all : (len : Option ℕ) (payload bytes : List ℕ) → IsHeld len payload bytes → held_from len bytes ≡ Ok (Some payload)
held-all None payload bytes h = ap (λ t. Ok (Some t)) (sym h)
held-all (Some len) payload bytes h =
    ap (λ t. cond t (Err broken_cr3) (Ok (Some (take len bytes)))) (le-ltb (length bytes) len h.0) ∙ ap (λ t. Ok (Some t)) (sym h.1)

-- its first bytes
held-first : (len : Option ℕ) (most : ℕ) (front bytes : List ℕ) → IsFront len most front bytes
    → (held_from len bytes >>= λ found. Ok (option_map (take most) found)) ≡ Ok (Some front)
held-first None most front bytes h = ap (λ t. Ok (Some t)) (sym h)
held-first (Some len) most front bytes h =
    ap (λ t. (cond t (Err broken_cr3) (Ok (Some (take len bytes)))) >>= λ found. Ok (option_map (take most) found)) (le-ltb (length bytes) len h.0)
    ∙ ap (λ t. Ok (Some t)) (sym h.1)

-- it is cut
held-cut : (len : Option ℕ) (bytes : List ℕ) → IsCut len bytes → held_from len bytes ≡ Err broken_cr3
held-cut None bytes h = absurd h
held-cut (Some len) bytes h = ap (λ t. cond t (Err broken_cr3) (Ok (Some (take len bytes)))) (lt-ltb (length bytes) len h)

-- ---- `moov`

-- its payload was collected
pub movie_collected : (a b : Option (List ℕ)) (held : Held) (payload : List ℕ) → IsFoundOf (codes "moov") [] (Some held) a b
    → IfSome b (λ ys. IsHeld held.len payload ys) → IfSome a (λ xs. movie_of xs ≡ Ok payload)
movie_collected None b held payload h k = tt
movie_collected (Some xs) None held payload h k = absurd h
movie_collected (Some xs) (Some ys) held payload h k = ap required (h ∙ held-all held.len payload ys k)

-- it is cut
pub movie_cut : (e : Failure) (a b : Option (List ℕ)) (held : Held) → IsFoundOf (codes "moov") [] (Some held) a b
    → IsShort broken_cr3 e b (IsCut held.len) → IfSome a (λ xs. Fails e (movie_of xs))
movie_cut e None b held h k = tt
movie_cut e (Some xs) None held h k = absurd h
movie_cut e (Some xs) (Some ys) held h k =
    fails_with e broken_cr3 (movie_of xs) _ k (λ p. ap required (h ∙ held-cut held.len ys p))

-- nothing but that is wrong with it
from-either : (len : Option ℕ) (bytes : List ℕ) → IfErr (required (held_from len bytes)) (λ r. r ≡ broken_cr3)
from-either None bytes = tt
from-either (Some len) bytes = by (ltb (length bytes) len)
  where
    by : (t : Bool) → IfErr (required (cond t (Err broken_cr3) (Ok (Some (take len bytes))))) (λ r. r ≡ broken_cr3)
    by true = refl
    by false = tt

pub movie_collects : (a b : Option (List ℕ)) (held : Held) → IsFoundOf (codes "moov") [] (Some held) a b
    → IfSome a (λ xs. IfErr (movie_of xs) (λ r. r ≡ broken_cr3))
movie_collects None b held h = tt
movie_collects (Some xs) None held h = absurd h
movie_collects (Some xs) (Some ys) held h = subst (λ r. IfErr (required r) (λ r. r ≡ broken_cr3)) (sym h) (from-either held.len ys)

-- there is none
pub movie_absent : (a b : Option (List ℕ)) → IsFoundOf (codes "moov") [] None a b → IfSome a (λ xs. movie_of xs ≡ Err no_exif_in_cr3)
movie_absent a b h = along_known a _ _ (λ xs e. ap required e) h

-- what is refused on the way to it
pub movie_fails : (e : Failure) (a : Option (List ℕ)) → IfSome a (λ xs. Fails e (held_of (codes "moov") [] xs)) → IfSome a (λ xs. Fails e (movie_of xs))
movie_fails e a h = along_known a _ _ (λ xs f. fails_along e required (held_of (codes "moov") [] xs) (λ r. refl) f) h

-- ---- the first bytes of a box

-- they were read
pub front_found : (name usertype : List ℕ) (most : ℕ) (a b : Option (List ℕ)) (held : Held) (front : List ℕ) → IsFoundOf name usertype (Some held) a b
    → IfSome b (λ ys. IsFront held.len most front ys) → IfSome a (λ xs. held_front name usertype most xs ≡ Ok (Some front))
front_found name usertype most None b held front h k = tt
front_found name usertype most (Some xs) None held front h k = absurd h
front_found name usertype most (Some xs) (Some ys) held front h k =
    ap (λ r. r >>= λ found. Ok (option_map (take most) found)) h ∙ held-first held.len most front ys k

-- the box is cut
pub front_cut : (name usertype : List ℕ) (most : ℕ) (e : Failure) (a b : Option (List ℕ)) (held : Held) → IsFoundOf name usertype (Some held) a b
    → IsShort broken_cr3 e b (IsCut held.len) → IfSome a (λ xs. Fails e (held_front name usertype most xs))
front_cut name usertype most e None b held h k = tt
front_cut name usertype most e (Some xs) None held h k = absurd h
front_cut name usertype most e (Some xs) (Some ys) held h k =
    fails_with e broken_cr3 (held_front name usertype most xs) _ k
    (λ p. ap (λ r. r >>= λ found. Ok (option_map (take most) found)) (h ∙ held-cut held.len ys p))

-- there is no such box
pub front_absent : (name usertype : List ℕ) (most : ℕ) (a b : Option (List ℕ)) → IsFoundOf name usertype None a b
    → IfSome a (λ xs. held_front name usertype most xs ≡ Ok None)
front_absent name usertype most a b h = along_known a _ _ (λ xs e. ap (λ r. r >>= λ found. Ok (option_map (take most) found)) e) h

-- what is refused on the way to it
pub front_fails : (name usertype : List ℕ) (most : ℕ) (e : Failure) (a : Option (List ℕ)) → IfSome a (λ xs. Fails e (held_of name usertype xs))
    → IfSome a (λ xs. Fails e (held_front name usertype most xs))
front_fails name usertype most e a h =
    along_known a _ _ (λ xs f. fails_along e (λ r. r >>= λ found. Ok (option_map (take most) found)) (held_of name usertype xs) (λ r. refl) f) h
