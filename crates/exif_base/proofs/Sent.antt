-- One send after another.
use Rattle.std.proofs.Common.{◌≡◌, ℕ, ◌+◌, ◌≤◌, length, arith, List, [], ◌++◌, take, drop, Option, None, Some, ap, refl, sym, ◌∙◌, append_assoc, append-nil}
use Rattle.std.proofs.lemmas.List.{take-append-drop, length-take-le, take-take}
use Rattle.std.proofs.Math.Seq.{take-append-add}
use Rattle.std.specs.Io.KnownBytes.{Appends, Keeps}
use Rattle.exif_base.specs.Sent.{SendsFront}

-- a text was appended, and then another: so were both, one after the other
pub appends_more : (a b c : Option (List ℕ)) (xs ys : List ℕ) → Appends a b xs → Appends b c ys → Appends a c (xs ++ ys)
appends_more None b c xs ys h k = tt
appends_more (Some p) None c xs ys h k = absurd h
appends_more (Some p) (Some q) None xs ys h k = absurd k
appends_more (Some p) (Some q) (Some r) xs ys h k = k ∙ ap (λ t. t ++ ys) h ∙ append_assoc p xs ys

-- nothing yet
pub appends_none : (a : Option (List ℕ)) → Appends a a []
appends_none None = tt
appends_none (Some p) = sym (append-nil p)

-- the first text, and a front of the second
pub front_second : (a b c : Option (List ℕ)) (xs ys : List ℕ) → Appends a b xs → SendsFront b c ys → SendsFront a c (xs ++ ys)
front_second None b c xs ys h k = tt
front_second (Some p) None c xs ys h k = absurd h
front_second (Some p) (Some q) None xs ys h k = absurd k
front_second (Some p) (Some q) (Some r) xs ys h k =
    (xs ++ k.0, k.1, ap (λ t. xs ++ t) k.2 ∙ sym (append_assoc xs k.0 k.1), k.3 ∙ ap (λ t. t ++ k.0) h ∙ append_assoc p xs k.0)

-- a front of the first text
pub front_first : (a b : Option (List ℕ)) (xs ys : List ℕ) → SendsFront a b xs → SendsFront a b (xs ++ ys)
front_first None b xs ys h = tt
front_first (Some p) None xs ys h = absurd h
front_first (Some p) (Some q) xs ys h = (h.0, h.1 ++ ys, ap (λ t. t ++ ys) h.2 ∙ append_assoc h.0 h.1 ys, h.3)

-- a front by its length, and then a call that takes nothing
pub front_taken : (a b c : Option (List ℕ)) (n : ℕ) (xs : List ℕ) → Appends a b (take n xs) → Keeps b c → SendsFront a c xs
front_taken None b c n xs h k = tt
front_taken (Some p) None c n xs h k = absurd h
front_taken (Some p) (Some q) None n xs h k = absurd k
front_taken (Some p) (Some q) (Some r) n xs h k = (take n xs, drop n xs, sym (take-append-drop n xs), k ∙ h)

-- the next n bytes from offset `at` on
pub appends_next : (a b c : Option (List ℕ)) (at n k : ℕ) (xs : List ℕ) → at + k ≡ length xs → n ≤ k → Appends a b (take at xs) → Appends b c (take n (take k (drop at xs))) → Appends a c (take (at + n) xs)
appends_next a b c at n k xs e small h g = rw split (appends_more a b c (take at xs) (take n (take k (drop at xs))) h g)
  where
    split : take (at + n) xs ≡ take at xs ++ take n (take k (drop at xs))
    split =
        let len : length (take at xs) ≡ at = length-take-le at xs (omega arith) in
        ap (λ t. take (at + n) t) (sym (take-append-drop at xs))
        ∙ ap (λ t. take (t + n) (take at xs ++ drop at xs)) (sym len)
        ∙ take-append-add (take at xs) (drop at xs) n
        ∙ ap (λ t. take at xs ++ t) (sym (take-take n k (drop at xs) small))

-- a front by its length, and then a put that takes none
pub front_stuck : (a b c : Option (List ℕ)) (m n : ℕ) (xs zs : List ℕ) → Appends a b (take m xs) → n ≡ 0 → Appends b c (take n zs) → SendsFront a c xs
front_stuck None b c m n xs zs h e k = tt
front_stuck (Some p) None c m n xs zs h e k = absurd h
front_stuck (Some p) (Some q) None m n xs zs h e k = absurd k
front_stuck (Some p) (Some q) (Some r) m n xs zs h e k =
    (take m xs, drop m xs, sym (take-append-drop m xs), k ∙ ap (λ t. q ++ take t zs) e ∙ append-nil q ∙ h)

-- a text, and then a call that takes nothing
pub appends_kept : (a b c : Option (List ℕ)) (text : List ℕ) → Appends a b text → Keeps b c → Appends a c text
appends_kept None b c text h k = tt
appends_kept (Some p) None c text h k = absurd h
appends_kept (Some p) (Some q) None text h k = absurd k
appends_kept (Some p) (Some q) (Some r) text h k = k ∙ h

-- all of a text, and then a call that takes nothing
pub front_all : (a b c : Option (List ℕ)) (text : List ℕ) → Appends a b text → Keeps b c → SendsFront a c text
front_all None b c text h k = tt
front_all (Some p) None c text h k = absurd h
front_all (Some p) (Some q) None text h k = absurd k
front_all (Some p) (Some q) (Some r) text h k = (text, [], sym (append-nil text), k ∙ h)

-- nothing was done
pub keeps_same : (a : Option (List ℕ)) → Keeps a a
keeps_same None = tt
keeps_same (Some p) = refl

-- nothing is a front of each text
pub front_none : (a b : Option (List ℕ)) (text : List ℕ) → Keeps a b → SendsFront a b text
front_none None b text h = tt
front_none (Some p) None text h = absurd h
front_none (Some p) (Some q) text h = ([], text, refl, h ∙ sym (append-nil p))
