-- Members of lists, and pieces of stretches that are apart.
use Rattle.std.proofs.Common.{◌≡◌, ◌≢◌, ◌≤◌, ◌<◌, ◌+◌, ◌==◌, ℕ, suc, Bool, true, false, if◌then◌else◌, List, [], ◌∷◌, ◌++◌, inl, inr, length, refl, sym, ap, subst, ◌∙◌, arith, eq-eqb}
use Rattle.std.specs.Prelude.{◌&&◌, ◌||◌, nat_lt, not}
use Rattle.std.specs.List.{AllByRecursion, filter, flat_map, list_any}
use Rattle.std.proofs.lemmas.Bool.{false≢true, and_parts, not-true, or_parts, or_right}
use Rattle.std.proofs.lemmas.Bool.Decides.{nat_tests}
use Rattle.exif_tiff.specs.Apart.{are_apart, overlap}
use Rattle.exif_tiff.specs.Footprint.{Stretch}
use Rattle.exif_tiff.proofs.ApartLists.{AreApart, EachApart, IsApart, all_weaker, apart_turned}
use Rattle.exif_tiff.proofs.Footprints.{all_flat}
use Rattle.exif_tiff.proofs.Members.{all_append, all_left, all_right}

-- ---- members

-- whether a number is among some
abbrev pub has : List ℕ → ℕ → Bool
has xs x = list_any (λ y. y == x) xs

-- the first number of a list is among its members
pub has_first : (x : ℕ) (xs : List ℕ) → has (x ∷ xs) x ≡ true
has_first x xs = let e : (x == x) ≡ true = eq-eqb x x refl in rw e refl

-- what holds of all of them holds of a member, and the other way round
pub member_all : (P : ℕ → Type 0) (xs : List ℕ) (x : ℕ) → AllByRecursion P xs → has xs x ≡ true → P x
member_all P [] x h m = absurd (false≢true m)
member_all P (y ∷ ys) x h m = by_test (y == x) refl (member_all P ys x h.1) m
  where
    by_test : (t : Bool) → (y == x) ≡ t → (has ys x ≡ true → P x) → (t || has ys x) ≡ true → P x
    by_test true e r m = let s : y ≡ x = grind (arith, nat_tests) in subst P s h.0
    by_test false e r m = r m

-- what holds of each member holds of all of them
pub all_members : (P : ℕ → Type 0) (xs : List ℕ) → ((x : ℕ) → has xs x ≡ true → P x)
    → AllByRecursion P xs
all_members P [] h = tt
all_members P (y ∷ ys) h =
    (h y (has_first y ys), all_members P ys (λ x m. h x (or_right (y == x) (has ys x) m)))

-- members that pass a test
pub filter_member : (t : ℕ → Bool) (es : List ℕ) (e : ℕ) → has (filter t es) e ≡ true
    → (has es e ≡ true) × (t e ≡ true)
filter_member t [] e m = absurd (false≢true m)
filter_member t (x ∷ xs) e m = by_test (t x) refl (filter_member t xs e) m
  where
    first : (s : Bool) → (x == e) ≡ s → t x ≡ true
        → (has (filter t xs) e ≡ true → (has xs e ≡ true) × (t e ≡ true))
        → (s || has (filter t xs) e) ≡ true → ((s || has xs e) ≡ true) × (t e ≡ true)
    first true p q r m = let e : x ≡ e = grind (arith, nat_tests) in (refl, subst (λ z. t z ≡ true) e q)
    first false p q r m = r m

    by_test : (b : Bool) → t x ≡ b → (has (filter t xs) e ≡ true → (has xs e ≡ true) × (t e ≡ true))
        → has (if b then x ∷ filter t xs else filter t xs) e ≡ true
        → (has (x ∷ xs) e ≡ true) × (t e ≡ true)
    by_test true q r m = first (x == e) refl q r m
    by_test false q r m = let k = r m in (or_right (x == e) (has xs e) k.0, k.1)

-- what holds of all that entries give holds of what those that pass a test give
pub filter_all : {X : Type 0} (P : X → Type 0) (f : ℕ → List X) (t : ℕ → Bool) (es : List ℕ)
    → AllByRecursion P (flat_map f es) → AllByRecursion P (flat_map f (filter t es))
filter_all P f t [] h = tt
filter_all P f t (e ∷ es) h =
    by_test (t e) (filter_all P f t es (all_right P (f e) (flat_map f es) h))
  where
    by_test : (b : Bool) → AllByRecursion P (flat_map f (filter t es))
        → AllByRecursion P (flat_map f (if b then e ∷ filter t es else filter t es))
    by_test true r =
        all_append P (f e) (flat_map f (filter t es)) (all_left P (f e) (flat_map f es) h) r
    by_test false r = r

-- all members pass a test that always holds
pub all_pass : (es : List ℕ) → filter (λ e. true) es ≡ es
all_pass [] = refl
all_pass (e ∷ es) = ap (λ xs. e ∷ xs) (all_pass es)

-- fewer are left than there were, where one of them is taken out
pub fewer_left : (t : ℕ → Bool) (es : List ℕ) (e : ℕ) → has es e ≡ true → t e ≡ true
    → length (filter (λ x. not (t x)) es) < length es
fewer_left t [] e m h = absurd (false≢true m)
fewer_left t (x ∷ xs) e m h =
    by_tests (x == e) (t x) refl refl (fewer_left t xs e) (no_more xs) m
  where
    no_more : (xs : List ℕ) → length (filter (λ y. not (t y)) xs) ≤ length xs
    no_more [] = omega arith
    no_more (y ∷ ys) = by_test (t y) (no_more ys)
      where
        by_test : (b : Bool) → length (filter (λ z. not (t z)) ys) ≤ length ys
            → length (if not b then y ∷ filter (λ z. not (t z)) ys else filter (λ z. not (t z)) ys)
            ≤ suc (length ys)
        by_test true r = omega arith
        by_test false r = omega arith

    by_tests : (s b : Bool) → (x == e) ≡ s → t x ≡ b
        → (has xs e ≡ true → t e ≡ true → length (filter (λ y. not (t y)) xs) < length xs)
        → length (filter (λ y. not (t y)) xs) ≤ length xs → (s || has xs e) ≡ true
        → length (if not b then x ∷ filter (λ y. not (t y)) xs else filter (λ y. not (t y)) xs)
        < suc (length xs)
    by_tests s true p q r few m = omega arith
    by_tests true false p q r few m =
        let same : x ≡ e = grind (arith, nat_tests) in
        absurd (false≢true (sym q ∙ (ap t same ∙ h)))
    by_tests false false p q r few m = let more = r m h in omega arith

-- ---- what the test says

apart_pair : (s t : Stretch) → overlap s t ≡ false → IsApart s t
apart_pair s t h =
    by_tests (nat_lt t.offset (s.offset + s.len)) (nat_lt s.offset (t.offset + t.len)) refl refl h
  where
    by_tests : (a b : Bool) → nat_lt t.offset (s.offset + s.len) ≡ a
        → nat_lt s.offset (t.offset + t.len) ≡ b → (a && b) ≡ false → IsApart s t
    by_tests false b p q h = inl (grind (arith, nat_tests))
    by_tests true false p q h = inr (grind (arith, nat_tests))
    by_tests true true p q h = absurd (false≢true (sym h))

apart_row : (s : Stretch) (ts : List Stretch) → list_any (overlap s) ts ≡ false
    → AllByRecursion (IsApart s) ts
apart_row s [] h = tt
apart_row s (t ∷ ts) h =
    let a = or_parts (overlap s t) (list_any (overlap s) ts) h in
    (apart_pair s t a.0, apart_row s ts a.1)

-- stretches that pass the test are apart from one another
pub apart_told : (ts : List Stretch) → are_apart ts ≡ true → AreApart ts
apart_told [] h = tt
apart_told (t ∷ ts) h =
    let a = and_parts (not (list_any (overlap t) ts)) (are_apart ts) h in
    (apart_row t ts (not-true (list_any (overlap t) ts) a.0), apart_told ts a.1)

-- each of some is apart from all pieces that it is apart from one by one
pub each_flat : (ss : List Stretch) (f : ℕ → List Stretch) (qs : List ℕ)
    → AllByRecursion (λ q. EachApart ss (f q)) qs → EachApart ss (flat_map f qs)
each_flat [] f qs h = tt
each_flat (s ∷ ss) f qs h = (row qs h, each_flat ss f qs (rows qs h))
  where
    row : (qs : List ℕ) → AllByRecursion (λ q. EachApart (s ∷ ss) (f q)) qs
        → AllByRecursion (IsApart s) (flat_map f qs)
    row [] h = tt
    row (q ∷ qs) h = all_append (IsApart s) (f q) (flat_map f qs) h.0.0 (row qs h.1)

    rows : (qs : List ℕ) → AllByRecursion (λ q. EachApart (s ∷ ss) (f q)) qs
        → AllByRecursion (λ q. EachApart ss (f q)) qs
    rows [] h = tt
    rows (q ∷ qs) h = (h.0.1, rows qs h.1)

-- ---- pieces

front_apart : (ss ts : List Stretch) → AreApart (ss ++ ts) → AreApart ss
front_apart [] ts h = tt
front_apart (s ∷ ss) ts h = (all_left (IsApart s) ss ts h.0, front_apart ss ts h.1)

-- where joined stretches are apart from one another, those behind are
pub back_apart : (ss ts : List Stretch) → AreApart (ss ++ ts) → AreApart ts
back_apart [] ts h = h
back_apart (s ∷ ss) ts h = back_apart ss ts h.1

-- where joined stretches are apart from one another, each in front is apart from each behind
pub between : (ss ts : List Stretch) → AreApart (ss ++ ts) → EachApart ss ts
between [] ts h = tt
between (s ∷ ss) ts h = (all_right (IsApart s) ss ts h.0, between ss ts h.1)

heads : (ss : List Stretch) (t : Stretch) (ts : List Stretch) → EachApart ss (t ∷ ts)
    → AllByRecursion (IsApart t) ss × EachApart ss ts
heads [] t ts h = (tt, tt)
heads (s ∷ ss) t ts h =
    let r = heads ss t ts h.1 in ((apart_turned s t h.0.0, r.0), (h.0.1, r.1))

-- where each of some is apart from each of others, the others are so from them
pub each_turned : (ss ts : List Stretch) → EachApart ss ts → EachApart ts ss
each_turned ss [] h = tt
each_turned ss (t ∷ ts) h = let r = heads ss t ts h in (r.0, each_turned ss ts r.1)

-- a piece is apart
pub piece : (f : ℕ → List Stretch) (ds : List ℕ) (p : ℕ) → AreApart (flat_map f ds)
    → has ds p ≡ true → AreApart (f p)
piece f [] p h m = absurd (false≢true m)
piece f (d ∷ ds) p h m =
    by_test (d == p) refl (piece f ds p (back_apart (f d) (flat_map f ds) h)) m
  where
    by_test : (t : Bool) → (d == p) ≡ t → (has ds p ≡ true → AreApart (f p))
        → (t || has ds p) ≡ true → AreApart (f p)
    by_test true e r m =
        let s : d ≡ p = grind (arith, nat_tests) in
        subst (λ x. AreApart (f x)) s (front_apart (f d) (flat_map f ds) h)
    by_test false e r m = r m

-- one piece is apart from what follows
pub beside_piece : (f : ℕ → List Stretch) (ss : List Stretch) (ds : List ℕ) (q : ℕ)
    → EachApart ss (flat_map f ds) → has ds q ≡ true → EachApart ss (f q)
beside_piece f ss ds q h m =
    all_weaker (λ s. AllByRecursion (IsApart s) (flat_map f ds)) (λ s. AllByRecursion (IsApart s) (f q))
    (λ s k. member_all (λ p. AllByRecursion (IsApart s) (f p)) ds q (all_flat (IsApart s) f ds k) m) ss h

-- and two of them are apart from one another
pub pieces : (f : ℕ → List Stretch) (ds : List ℕ) (p q : ℕ) → AreApart (flat_map f ds)
    → has ds p ≡ true → has ds q ≡ true → p ≢ q → EachApart (f p) (f q)
pieces f [] p q h m n ne = absurd (false≢true m)
pieces f (d ∷ ds) p q h m n ne =
    by_tests (d == p) (d == q) refl refl
    (λ x y. pieces f ds p q (back_apart (f d) (flat_map f ds) h) x y ne) m n
  where
    first : EachApart (f d) (flat_map f ds)
    first = between (f d) (flat_map f ds) h

    by_tests : (s t : Bool) → (d == p) ≡ s → (d == q) ≡ t
        → (has ds p ≡ true → has ds q ≡ true → EachApart (f p) (f q))
        → (s || has ds p) ≡ true → (t || has ds q) ≡ true → EachApart (f p) (f q)
    by_tests true true x y r m n = absurd (grind (arith, nat_tests))
    by_tests true false x y r m n =
        let e : d ≡ p = grind (arith, nat_tests) in
        subst (λ z. EachApart (f z) (f q)) e (beside_piece f (f d) ds q first n)
    by_tests false true x y r m n =
        let e : d ≡ q = grind (arith, nat_tests) in
        subst (λ z. EachApart (f p) (f z)) e
        (each_turned (f d) (f p) (beside_piece f (f d) ds p first m))
    by_tests false false x y r m n = r m n
