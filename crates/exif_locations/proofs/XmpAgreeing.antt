-- Texts that begin alike are scanned alike.
use Rattle.std.proofs.Common.{◌≡◌, ℕ, zero, suc, ◌+◌, ◌<◌, ◌≤◌, Bool, true, false, cond, List, [], ◌∷◌, ◌++◌, length, take, drop, get_or, Option, Some, None, refl, ap, sym, ◌∙◌, arith, ◌&&◌, ◌⊎◌, inl, inr, eqb, leb, subst}
use Rattle.std.proofs.lemmas.Bool.{eqb-true}
use Rattle.std.specs.Option.{option_map}
use Rattle.exif_locations.specs.XmpNames.{begins}
use Rattle.exif_locations.specs.XmpScans.{ended, is_name_byte, quoted, run}

-- which way a test went
pub chosen : {A : Type 0} (b : Bool) {x y z : A} → cond b x y ≡ z → ((b ≡ true) × (x ≡ z)) ⊎ ((b ≡ false) × (y ≡ z))
chosen true e = inl (refl, e)
chosen false e = inr (refl, e)

-- the first m bytes of two inputs are there, and the same
abbrev pub Agree : ℕ → List ℕ → List ℕ → Type 0
Agree zero a b = Unit {0}
Agree (suc m) [] b = ⊥
Agree (suc m) (x ∷ a) [] = ⊥
Agree (suc m) (x ∷ a) (y ∷ b) = (x ≡ y) × Agree m a b

pub agree_take : (m : ℕ) (a more : List ℕ) → m ≤ length a → Agree m a (take m a ++ more)
agree_take zero a more h = tt
agree_take (suc m) [] more h = absurd (omega arith)
agree_take (suc m) (x ∷ a) more h = (refl, agree_take m a more (omega arith))

pub agree_less : (k m : ℕ) (a b : List ℕ) → k ≤ m → Agree m a b → Agree k a b
agree_less zero m a b h g = tt
agree_less (suc k) zero a b h g = absurd (omega arith)
agree_less (suc k) (suc m) [] b h g = g
agree_less (suc k) (suc m) (x ∷ a) [] h g = g
agree_less (suc k) (suc m) (x ∷ a) (y ∷ b) h g = (g.0, agree_less k m a b (omega arith) g.1)

pub agree_index : (i m : ℕ) (a b : List ℕ) → i < m → Agree m a b → get_or a i 0 ≡ get_or b i 0
agree_index i zero a b h g = absurd (omega arith)
agree_index i (suc m) [] b h g = absurd g
agree_index i (suc m) (x ∷ a) [] h g = absurd g
agree_index zero (suc m) (x ∷ a) (y ∷ b) h g = g.0
agree_index (suc i) (suc m) (x ∷ a) (y ∷ b) h g = agree_index i m a b (omega arith) g.1

dropped : (k m : ℕ) → ((a b : List ℕ) → Agree (k + m) a b → Agree m (drop k a) (drop k b)) → (a b : List ℕ) → Agree (suc (k + m)) a b → Agree m (drop (suc k) a) (drop (suc k) b)
dropped k m f [] b g = absurd g
dropped k m f (x ∷ a) [] g = absurd g
dropped k m f (x ∷ a) (y ∷ b) g = f a b g.1

pub agree_drop : (k m : ℕ) (a b : List ℕ) → Agree (k + m) a b → Agree m (drop k a) (drop k b)
agree_drop zero m a b g = let e : zero + m ≡ m = omega arith in subst (λ n. Agree n a b) e g
agree_drop (suc k) m a b g =
    let e : suc k + m ≡ suc (k + m) = omega arith in
    dropped k m (agree_drop k m) a b (subst (λ n. Agree n a b) e g)

pub agree_front : (k m : ℕ) (a b : List ℕ) → k ≤ m → Agree m a b → take k a ≡ take k b
agree_front zero m a b h g = refl
agree_front (suc k) zero a b h g = absurd (omega arith)
agree_front (suc k) (suc m) [] b h g = absurd g
agree_front (suc k) (suc m) (x ∷ a) [] h g = absurd g
agree_front (suc k) (suc m) (x ∷ a) (y ∷ b) h g = let r = agree_front k m a b (omega arith) g.1 in let e : x ≡ y = g.0 in cc

ran : (t : Bool) (p q m : ℕ) → (p < m → p ≡ q) → cond t (suc p) 0 < suc m → cond t (suc p) 0 ≡ cond t (suc q) 0
ran true p q m f h = ap suc (f (omega arith))
ran false p q m f h = refl

pub agree_run : (test : ℕ → Bool) (m : ℕ) (a b : List ℕ) → run test a < m → Agree m a b → run test a ≡ run test b
agree_run test zero a b h g = absurd (omega arith)
agree_run test (suc m) [] b h g = absurd g
agree_run test (suc m) (x ∷ a) [] h g = absurd g
agree_run test (suc m) (x ∷ a) (y ∷ b) h g =
    ran (test x) (run test a) (run test b) m (λ l. agree_run test m a b l g.1) h ∙ ap (λ z. cond (test z) (suc (run test b)) 0) g.0

-- what `option_map suc` gives
pub one_less : (x : Option ℕ) (k : ℕ) → option_map suc x ≡ Some k → (j : ℕ) × (x ≡ Some j) × (k ≡ suc j)
one_less None k e = absurd cc
one_less (Some j) k e = (j, refl, cc)

-- where a input ends is within it, behind the name at its front, and seen in those bytes alone
pub record IsEnd (f : List ℕ → Option ℕ) (k : ℕ) (a : List ℕ) : Type 0 where
  pub some : 0 < k
  pub within : k ≤ length a
  pub same : (b : List ℕ) → Agree k a b → f b ≡ Some k

one_is : 0 < 1
one_is = omega arith

ended_found : (c n seen x : ℕ) (a : List ℕ) → (eqb x 62 && leb n seen) ≡ true → IsEnd (ended c n seen) 1 (x ∷ a)
ended_found c n seen x a t = record { some = one_is; within = omega arith; same = same }
  where
    same : (b : List ℕ) → Agree 1 (x ∷ a) b → ended c n seen b ≡ Some 1
    same [] g = absurd g
    same (y ∷ b) g =
        ap (λ z. cond (eqb z 62 && leb n seen) (Some 1) (option_map suc (ended c n (cond (eqb y c) (suc seen) 0) b))) (sym g.0)
        ∙ ap (λ z. cond z (Some 1) (option_map suc (ended c n (cond (eqb y c) (suc seen) 0) b))) t

ended_later : (c n seen x j : ℕ) (a : List ℕ) → (eqb x 62 && leb n seen) ≡ false → IsEnd (ended c n (cond (eqb x c) (suc seen) 0)) j a → IsEnd (ended c n seen) (suc j) (x ∷ a)
ended_later c n seen x j a t r =
    let w : j ≤ length a = r.within in
    record { some = omega arith; within = omega arith; same = same }
  where
    same : (b : List ℕ) → Agree (suc j) (x ∷ a) b → ended c n seen b ≡ Some (suc j)
    same [] g = absurd g
    same (y ∷ b) g =
        ap (λ z. cond (eqb z 62 && leb n seen) (Some 1) (option_map suc (ended c n (cond (eqb z c) (suc seen) 0) b))) (sym g.0)
        ∙ ap (λ z. cond z (Some 1) (option_map suc (ended c n (cond (eqb x c) (suc seen) 0) b))) t
        ∙ ap (λ z. option_map suc z) (r.same b g.1)

pub ended_front : (c n seen : ℕ) (a : List ℕ) (k : ℕ) → ended c n seen a ≡ Some k → IsEnd (ended c n seen) k a
ended_front c n seen [] k e = absurd cc
ended_front c n seen (x ∷ a) k e =
    elim (chosen (eqb x 62 && leb n seen) e) [
      | inl w ↦ (let q : 1 ≡ k = (let v = w.1 in cc) in subst (λ j. IsEnd (ended c n seen) j (x ∷ a)) q (ended_found c n seen x a w.0))
      | inr w ↦ (let o = one_less (ended c n (cond (eqb x c) (suc seen) 0) a) k w.1 in
          subst (λ j. IsEnd (ended c n seen) j (x ∷ a)) (sym o.2) (ended_later c n seen x o.0 a w.0 (ended_front c n (cond (eqb x c) (suc seen) 0) a o.0 o.1)))
    ]

quoted_one : (q x : ℕ) (a : List ℕ) → eqb x q ≡ true → IsEnd (quoted q) 1 (x ∷ a)
quoted_one q x a t = record { some = one_is; within = omega arith; same = same }
  where
    same : (b : List ℕ) → Agree 1 (x ∷ a) b → quoted q b ≡ Some 1
    same [] g = absurd g
    same (y ∷ b) g =
        ap (λ z. cond (eqb z q) (Some 1) (cond (eqb y 60) None (option_map suc (quoted q b)))) (sym g.0)
        ∙ ap (λ z. cond z (Some 1) (cond (eqb y 60) None (option_map suc (quoted q b)))) t

quoted_later : (q x j : ℕ) (a : List ℕ) → eqb x q ≡ false → eqb x 60 ≡ false → IsEnd (quoted q) j a → IsEnd (quoted q) (suc j) (x ∷ a)
quoted_later q x j a t u r =
    let w : j ≤ length a = r.within in
    record { some = omega arith; within = omega arith; same = same }
  where
    same : (b : List ℕ) → Agree (suc j) (x ∷ a) b → quoted q b ≡ Some (suc j)
    same [] g = absurd g
    same (y ∷ b) g =
        ap (λ z. cond (eqb z q) (Some 1) (cond (eqb z 60) None (option_map suc (quoted q b)))) (sym g.0)
        ∙ ap (λ z. cond z (Some 1) (cond (eqb x 60) None (option_map suc (quoted q b)))) t
        ∙ ap (λ z. cond z None (option_map suc (quoted q b))) u
        ∙ ap (λ z. option_map suc z) (r.same b g.1)

pub quoted_front : (q : ℕ) (a : List ℕ) (k : ℕ) → quoted q a ≡ Some k → IsEnd (quoted q) k a
quoted_front q [] k e = absurd cc
quoted_front q (x ∷ a) k e =
    elim (chosen (eqb x q) e) [
      | inl w ↦ (let p : 1 ≡ k = (let v = w.1 in cc) in subst (λ j. IsEnd (quoted q) j (x ∷ a)) p (quoted_one q x a w.0))
      | inr w ↦ elim (chosen (eqb x 60) w.1) [
        | inl v ↦ absurd (let n = v.1 in cc)
        | inr v ↦ (let o = one_less (quoted q a) k v.1 in
            subst (λ j. IsEnd (quoted q) j (x ∷ a)) (sym o.2) (quoted_later q x o.0 a w.0 v.0 (quoted_front q a o.0 o.1)))
      ]
    ]

pub agree_begins : (w : List ℕ) (m : ℕ) (a b : List ℕ) → length w ≤ m → Agree m a b → begins a w ≡ begins b w
agree_begins [] m a b h g = refl
agree_begins (v ∷ w) zero a b h g = absurd (omega arith)
agree_begins (v ∷ w) (suc m) [] b h g = absurd g
agree_begins (v ∷ w) (suc m) (x ∷ a) [] h g = absurd g
agree_begins (v ∷ w) (suc m) (x ∷ a) (y ∷ b) h g =
    ap (λ z. eqb z v && begins a w) g.0 ∙ ap (λ t. eqb y v && t) (agree_begins w m a b (omega arith) g.1)

-- `>` is no byte of a name
not_name : (x seen : ℕ) → (eqb x 62 && leb 0 seen) ≡ true → is_name_byte x ≡ false
not_name x seen e = ap is_name_byte (eqb-true x 62 (and_left (eqb x 62) (leb 0 seen) e))
  where
    and_left : (p q : Bool) → (p && q) ≡ true → p ≡ true
    and_left true q e = refl
    and_left false q e = absurd cc

at_most : (t : Bool) (n : ℕ) → cond t (suc n) 0 ≤ suc n
at_most true n = omega arith
at_most false n = omega arith

-- a name ends before the first `>`
pub name_before : (seen : ℕ) (a : List ℕ) (k : ℕ) → ended 0 0 seen a ≡ Some k → run is_name_byte a < k
name_before seen [] k e = absurd cc
name_before seen (x ∷ a) k e =
    elim (chosen (eqb x 62 && leb 0 seen) e) [
      | inl w ↦ (let q : 1 ≡ k = (let v = w.1 in cc) in
          let z : run is_name_byte (x ∷ a) ≡ 0 = ap (λ t. cond t (suc (run is_name_byte a)) 0) (not_name x seen w.0) in omega arith)
      | inr w ↦ (let o = one_less (ended 0 0 (cond (eqb x 0) (suc seen) 0) a) k w.1 in
          let r : run is_name_byte a < o.0 = name_before (cond (eqb x 0) (suc seen) 0) a o.0 o.1 in
          let q : k ≡ suc o.0 = o.2 in
          let b : run is_name_byte (x ∷ a) ≤ suc (run is_name_byte a) = at_most (is_name_byte x) (run is_name_byte a) in omega arith)
    ]
