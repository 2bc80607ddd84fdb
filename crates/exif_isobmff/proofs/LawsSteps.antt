-- Steps of reading: bytes, numbers, the front of a full box, and values one after the other.
use Rattle.std.proofs.Common.{◌≡◌, inl, inr, slice_index, ℕ, ◌<◌, ◌≤◌, Bool, true, false, cond, eqb, ltb, List, [], ◌∷◌, ◌++◌, length, take, drop, Result, Ok, Err, ap, sym, ◌∙◌, refl, arith, length-append, subst, zero, suc, ◌||◌, map, append_assoc}
use Rattle.std.proofs.lemmas.Bool.{eqb-true, lt-ltb, le-ltb, ltb-false}
use Rattle.std.proofs.lemmas.List.{drop_at, take-append-drop, length-take-le}
use Rattle.byteorder.specs.Endian.{big_number}
use Rattle.byteorder.specs.Numbers.{big_from-append, big_from-take}
use Rattle.exif_types.specs.Refusals.{Refusal, ◌>>=◌, Front}
use Rattle.exif_isobmff.specs.HeifRefusals.{too_small}
use Rattle.exif_isobmff.specs.Boxes.{bytes_at, number_at, version_at, times}
use Rattle.exif_isobmff.specs.ItemGrammar.{FullHead, print_full, IsFull}
use Rattle.exif_isobmff.proofs.LawsBoxes.{bytes-there}
use Rattle.std.specs.List.{All, flat_map}
use Rattle.std.proofs.lemmas.List.Elements.{All-nil, All-cons, All-head, All-tail}
use Rattle.exif_isobmff.specs.ItemLocations.{sized_at}
use Rattle.exif_isobmff.specs.LocationGrammar.{IsSize}
use Rattle.exif_isobmff.proofs.SplitterBoxes.{bind_ok, ok_same}

-- ---- steps

-- a step that succeeds, and then the next
pub then_ok : {A B : Type 0} (x : Result A Refusal) (a : A) (f : A → Result B Refusal) → x ≡ Ok a → (x >>= f) ≡ f a
then_ok x a f e = ap (λ r. r >>= f) e

-- a step that is refused ends them
pub then_err : {A B : Type 0} (x : Result A Refusal) (r : Refusal) (f : A → Result B Refusal) → x ≡ Err r → (x >>= f) ≡ Err r
then_err x r f e = ap (λ y. y >>= f) e

-- bytes at the front are read
pub bytes_read : (n : ℕ) (bytes rest : List ℕ) → length bytes ≡ n → bytes_at n (bytes ++ rest) ≡ Ok (bytes, rest)
bytes_read n bytes rest e = ap (λ m. bytes_at m (bytes ++ rest)) (sym e) ∙ bytes-there bytes rest

-- too few bytes are refused
pub bytes_short : (n : ℕ) (bytes : List ℕ) → length bytes < n → bytes_at n bytes ≡ Err too_small
bytes_short n bytes h = ap (λ t. cond t (Err too_small) (Ok (take n bytes, drop n bytes))) (lt-ltb (length bytes) n h)

-- too few bytes for a number are refused
pub number_short : (n : ℕ) (bytes : List ℕ) → length bytes < n → number_at n bytes ≡ Err too_small
number_short n bytes h = ap (λ t. cond t (Err too_small) (Ok (big_number n bytes, drop n bytes))) (lt-ltb (length bytes) n h)

-- a number at the front is read
pub number_read : (n : ℕ) (bytes rest : List ℕ) → length bytes ≡ n → number_at n (bytes ++ rest) ≡ Ok (big_number n bytes, rest)
number_read n bytes rest e =
    ap (λ t. cond t (Err too_small) (Ok (big_number n (bytes ++ rest), drop n (bytes ++ rest)))) (le-ltb (length (bytes ++ rest)) n (omega (arith, length-append bytes rest)))
    ∙ ap (λ t. ok_pair t (drop n (bytes ++ rest))) (big_from-append n bytes rest (omega arith))
    ∙ ap (λ t. ok_pair (big_number n bytes) t) (drop_at bytes rest n e)
  where
    ok_pair : ℕ → List ℕ → Front ℕ
    ok_pair a b = Ok (a, b)

-- the front of a full box is read
pub full_read : (h : FullHead) (rest : List ℕ) → IsFull h → version_at (print_full h rest) ≡ Ok (h.version, rest)
full_read h rest e =
    ap (λ t. cond t (Err too_small) (Ok (h.version, drop 3 (h.flags ++ rest)))) (le-ltb (length (print_full h rest)) 4 (omega (arith, length-append h.flags rest)))
    ∙ ap (λ t. ok_pair h.version t) (drop_at h.flags rest 3 e)
  where
    ok_pair : ℕ → List ℕ → Front ℕ
    ok_pair a b = Ok (a, b)

-- too few bytes for the front of a full box are refused
pub full_short : (bytes : List ℕ) → length bytes < 4 → version_at bytes ≡ Err too_small
full_short bytes h = ap (λ t. head_or t bytes) (lt-ltb (length bytes) 4 h)
  where
    head_or : Bool → List ℕ → Front ℕ
    head_or t bytes = cond t (Err too_small) (Ok (slice_index bytes 0, drop 4 bytes))

-- bytes that begin with a full box's front
pub record Fronted (bytes : List ℕ) : Type 0 where
  pub head : FullHead
  pub rest : List ℕ
  pub is : IsFull head
  pub whole : print_full head rest ≡ bytes

-- 4 bytes or more begin a full box
pub fronted : (bytes : List ℕ) → 4 ≤ length bytes → Fronted bytes
fronted [] h = absurd (omega arith)
fronted (v ∷ bytes) h = record {
  head = record { version = v; flags = take 3 bytes };
  rest = drop 3 bytes;
  is = length-take-le 3 bytes (omega arith);
  whole = ap (λ t. v ∷ t) (take-append-drop 3 bytes);
}

-- a test that did not refuse
pub unless-ok : {A : Type 0} (b : Bool) (d : Refusal) (x : Result A Refusal) (y : A) → cond b (Err d) x ≡ Ok y → (b ≡ false) × (x ≡ Ok y)
unless-ok true d x y e = absurd cc
unless-ok false d x y e = (refl, e)

-- ---- values one after the other

-- values that are printed one after the other are read
pub times-read : {A X : Type 0} (value : List ℕ → Front A) (print : X → List ℕ) (val : X → A) (P : X → Type 0)
    → ((x : X) (rest : List ℕ) → P x → value (print x ++ rest) ≡ Ok (val x, rest))
    → (xs : List X) (rest : List ℕ) → All P xs → times (length xs) value (flat_map print xs ++ rest) ≡ Ok (map val xs, rest)
unfolding times
times-read value print val P f [] rest h = refl
times-read {A = A} value print val P f (x ∷ xs) rest h =
    ap (λ t. times (suc (length xs)) value t) (append_assoc (print x) (flat_map print xs) rest)
    ∙ then_ok (value (print x ++ (flat_map print xs ++ rest))) (val x, flat_map print xs ++ rest) _ (f x (flat_map print xs ++ rest) (All-head P x xs h))
    ∙ then_ok (times (length xs) value (flat_map print xs ++ rest)) (map val xs, rest) _ (times-read value print val P f xs rest (All-tail P x xs h))

-- values that were read have trees, one after the other
pub record Times {A X : Type 0} (print : X → List ℕ) (val : X → A) (P : X → Type 0) (n : ℕ) (text : List ℕ) (ys : List A) (rest : List ℕ) : Type 0 where
  pub trees : List X
  pub count : length trees ≡ n
  pub are : All P trees
  pub vals : map val trees ≡ ys
  pub whole : flat_map print trees ++ rest ≡ text

-- values that are read have trees
pub times-only : {A X : Type 0} (value : List ℕ → Front A) (print : X → List ℕ) (val : X → A) (P : X → Type 0)
    → ((text : List ℕ) (a : A × List ℕ) → value text ≡ Ok a → (x : X) × P x × (val x ≡ a.0) × (print x ++ a.1 ≡ text))
    → (n : ℕ) (text : List ℕ) (ys : List A × List ℕ) → times n value text ≡ Ok ys → Times print val P n text ys.0 ys.1
unfolding times
times-only {A = A} value print val P f zero text ys e =
    let same : ([], text) ≡ ys = ok_same e in
    record { trees = []; count = refl; are = All-nil P; vals = ap (λ (x : List A × List ℕ). x.0) same; whole = sym (ap (λ (x : List A × List ℕ). x.1) same) }
times-only {A = A} value print val P f (suc n) text ys e =
    let b = bind_ok (value text) _ ys e in
    let c = bind_ok (times n value b.0.1) _ ys b.2 in
    let x = f text b.0 b.1 in
    let t = times-only value print val P f n b.0.1 c.0 c.1 in
    let same : (b.0.0 ∷ c.0.0, c.0.1) ≡ ys = ok_same c.2 in
    record {
      trees = x.0 ∷ t.trees;
      count = ap suc t.count;
      are = All-cons P x.0 t.trees x.1 t.are;
      vals = ap (λ a. a ∷ map val t.trees) x.2 ∙ ap (λ ys. b.0.0 ∷ ys) t.vals ∙ ap (λ (x : List A × List ℕ). x.0) same;
      whole = append_assoc (print x.0) (flat_map print t.trees) ys.1
          ∙ ap (λ r. print x.0 ++ r) (ap (λ r. flat_map print t.trees ++ r) (sym (ap (λ (x : List A × List ℕ). x.1) same)) ∙ t.whole) ∙ x.3;
    }

-- ---- numbers

-- a size of 0, 4 or 8 passes the test
pub is-size : (n : ℕ) → IsSize n → (eqb n 0 || eqb n 4 || eqb n 8) ≡ true
is-size n (inl e) = ap (λ m. eqb m 0 || eqb m 4 || eqb m 8) e
is-size n (inr (inl e)) = ap (λ m. eqb m 0 || eqb m 4 || eqb m 8) e
is-size n (inr (inr e)) = ap (λ m. eqb m 0 || eqb m 4 || eqb m 8) e

-- what passes the test is a size of 0, 4 or 8
pub size-is : (n : ℕ) → (eqb n 0 || eqb n 4 || eqb n 8) ≡ true → IsSize n
size-is n = by (eqb n 0) (eqb n 4) (eqb n 8) refl refl refl
  where
    by : (a b c : Bool) → eqb n 0 ≡ a → eqb n 4 ≡ b → eqb n 8 ≡ c → (a || b || c) ≡ true → IsSize n
    by true b c p q r e = inl (eqb-true n 0 p)
    by false true c p q r e = inr (inl (eqb-true n 4 q))
    by false false true p q r e = inr (inr (eqb-true n 8 r))
    by false false false p q r e = absurd cc

-- a number of 0, 4 or 8 bytes is read
pub sized-read : (r : Refusal) (size : ℕ) (bytes rest : List ℕ) → IsSize size → length bytes ≡ size → sized_at r size (bytes ++ rest) ≡ Ok (big_number (length bytes) bytes, rest)
sized-read r size bytes rest h e =
    ap (λ t. cond t (number_at size (bytes ++ rest)) (Err r)) (is-size size h)
    ∙ ap (λ n. number_at n (bytes ++ rest)) (sym e)
    ∙ number_read (length bytes) bytes rest refl

-- the bytes of a number that was read
pub record Taken (n : ℕ) (text : List ℕ) (x : ℕ × List ℕ) : Type 0 where
  pub bytes : List ℕ
  pub len : length bytes ≡ n
  pub value : big_number (length bytes) bytes ≡ x.0
  pub whole : bytes ++ x.1 ≡ text

-- a number that is read is at the front
pub number-taken : (n : ℕ) (text : List ℕ) (x : ℕ × List ℕ) → number_at n text ≡ Ok x → Taken n text x
number-taken n text x e =
    let u = unless-ok (ltb (length text) n) too_small (Ok (big_number n text, drop n text)) x e in
    let room = ltb-false (length text) n u.0 in
    let same : (big_number n text, drop n text) ≡ x = ok_same u.1 in
    let len : length (take n text) ≡ n = length-take-le n text room in
    record {
      bytes = take n text;
      len = len;
      value = ap (λ m. big_number m (take n text)) len ∙ big_from-take 0 n n text (omega arith) ∙ ap (λ (y : ℕ × List ℕ). y.0) same;
      whole = ap (λ r. take n text ++ r) (sym (ap (λ (y : ℕ × List ℕ). y.1) same)) ∙ take-append-drop n text;
    }

-- a number that is read so has 0, 4 or 8 bytes
pub sized-taken : (r : Refusal) (size : ℕ) (text : List ℕ) (x : ℕ × List ℕ) → sized_at r size text ≡ Ok x → IsSize size × Taken size text x
sized-taken r size text x = by (eqb size 0 || eqb size 4 || eqb size 8) refl
  where
    by : (t : Bool) → (eqb size 0 || eqb size 4 || eqb size 8) ≡ t → cond t (number_at size text) (Err r) ≡ Ok x → IsSize size × Taken size text x
    by true is e = (size-is size is, number-taken size text x e)
    by false is e = absurd cc

-- bytes that are read are at the front
pub bytes-taken : (n : ℕ) (text : List ℕ) (x : List ℕ × List ℕ) → bytes_at n text ≡ Ok x → (length x.0 ≡ n) × (x.0 ++ x.1 ≡ text)
bytes-taken n text x e =
    let u = unless-ok (ltb (length text) n) too_small (Ok (take n text, drop n text)) x e in
    let room = ltb-false (length text) n u.0 in
    let same : (take n text, drop n text) ≡ x = ok_same u.1 in
    subst (λ (y : List ℕ × List ℕ). (length y.0 ≡ n) × (y.0 ++ y.1 ≡ text)) same (length-take-le n text room, take-append-drop n text)
