-- One step after another on known bytes of which only the first so many count.
use Rattle.std.proofs.Common.{◌≡◌, ◌≢◌, ℕ, suc, ◌+◌, ◌-◌, ◌*◌, cond, List, [], ◌∷◌, ◌++◌, length, take, drop, Option, None, Some, IfSome, ap, sym, ◌∙◌, refl, add_comm, arith}
use Rattle.std.specs.List.{All}
use Rattle.std.proofs.Math.Seq.{take-append-add, drop-append-add}
use Rattle.std.proofs.lemmas.Bool.{ne_eqb}
use Rattle.std.proofs.lemmas.List.Elements.{All-tail}
use Rattle.std.proofs.lemmas.List.{length-append, length-drop, length-take-le, take-append-drop, drop-drop}
use Rattle.exif_base.specs.Told.{Skips}
use Rattle.byteorder.specs.Endian.{ReadsNumber, big_number}
use Rattle.exif_segments.specs.Jpeg.{from_mark}
use Rattle.exif_base.specs.Told.{PassesOthers}
use Rattle.exif_segments.specs.Within.{Moves}

-- a skip of bytes that count
pub skips_within : (a b : Option (List ℕ)) (m n k : ℕ) → Skips a b k → m ≡ n + k → Moves a m b n (λ xs ys. (bytes : List ℕ) × (length bytes ≡ k) × (xs ≡ bytes ++ ys))
skips_within None b m n k h e = tt
skips_within (Some xs) None m n k h e = absurd h
skips_within (Some xs) (Some ys) m n k h e =
    let len : length (take k xs) ≡ k = length-take-le k xs h.0 in
    let sum : m ≡ length (take k xs) + n = e ∙ add_comm n k ∙ ap (λ t. t + n) (sym len) in
    let sum2 : m ≡ k + n = e ∙ add_comm n k in
    let whole : xs ≡ take k xs ++ drop k xs = sym (take-append-drop k xs) in (
      (
        take k xs,
        len,
        ap (λ t. take t xs) sum ∙ ap (λ t. take (length (take k xs) + n) t) whole
            ∙ take-append-add (take k xs) (drop k xs) n ∙ ap (λ t. take k xs ++ take n t) (sym h.1),
      ),
      ap (λ t. drop t xs) sum2 ∙ sym (drop-drop n k xs) ∙ ap (drop n) (sym h.1),
      (
          let left : length ys ≡ length xs - k = ap length h.1 ∙ length-drop k xs in
          let space = h.0 in omega arith
          ),
    )

-- the number in two bytes
pub number_within : (a b : Option (List ℕ)) (m n x : ℕ) → ReadsNumber big_number 2 a b x → m ≡ n + 2
    → Moves a m b n (λ xs ys. (high low : ℕ) × (xs ≡ high ∷ low ∷ ys) × (x ≡ 256 * high + low))
number_within None b m n x h e = tt
number_within (Some xs) None m n x h e = absurd h
number_within (Some []) (Some ys) m n x h e = absurd (let l = h.0 in omega arith)
number_within (Some (p ∷ [])) (Some ys) m n x h e = absurd (let l = h.0 in omega arith)
number_within (Some (p ∷ q ∷ xs)) (Some ys) m n x h e =
    let two : m ≡ suc (suc n) = omega arith in
    let is : x ≡ 256 * p + q = (let v = h.1 in omega arith) in (
      (p, q, ap (λ t. take t (p ∷ q ∷ xs)) two ∙ ap (λ t. p ∷ q ∷ take n t) (sym h.2), is),
      ap (λ t. drop t (p ∷ q ∷ xs)) two ∙ ap (drop n) (sym h.2),
      (let left : length ys ≡ length xs = ap length h.2 in omega arith),
    )

-- two steps
pub moves_then : (a b c : Option (List ℕ)) (l m n : ℕ) (P Q S : List ℕ → List ℕ → Type 0)
    → ((x y z : List ℕ) → P x y → Q y z → S x z) → Moves a l b m P → Moves b m c n Q → Moves a l c n S
moves_then None b c l m n P Q S f h k = tt
moves_then (Some x) None c l m n P Q S f h k = absurd h
moves_then (Some x) (Some y) None l m n P Q S f h k = absurd k
moves_then (Some x) (Some y) (Some z) l m n P Q S f h k =
    (f (take l x) (take m y) (take n z) h.0 k.0, h.1 ∙ k.1, (let p = h.2 in let q = k.2 in omega arith))

-- a step, and then a fact on the bytes that it left
pub moves_then_fact : (a b : Option (List ℕ)) (l m : ℕ) (P : List ℕ → List ℕ → Type 0) (Q S : List ℕ → Type 0)
    → ((x y : List ℕ) → P x y → Q y → S x) → Moves a l b m P → IfSome b (λ y. Q (take m y)) → IfSome a (λ x. S (take l x))
moves_then_fact None b l m P Q S f h k = tt
moves_then_fact (Some x) None l m P Q S f h k = absurd h
moves_then_fact (Some x) (Some y) l m P Q S f h k = f (take l x) (take m y) h.0 k

-- a step says less
pub moves_weaker : (a b : Option (List ℕ)) (l m : ℕ) (P Q : List ℕ → List ℕ → Type 0)
    → ((x y : List ℕ) → P x y → Q x y) → Moves a l b m P → Moves a l b m Q
moves_weaker None b l m P Q f h = tt
moves_weaker (Some x) None l m P Q f h = absurd h
moves_weaker (Some x) (Some y) l m P Q f h = (f (take l x) (take m y) h.0, h.1, h.2)

-- a step, after which a fact holds of the bytes before it
pub moves_fact : (a b : Option (List ℕ)) (l m : ℕ) (P : List ℕ → List ℕ → Type 0) (S : List ℕ → Type 0)
    → ((x y : List ℕ) → P x y → S x) → Moves a l b m P → IfSome a (λ x. S (take l x))
moves_fact None b l m P S f h = tt
moves_fact (Some x) None l m P S f h = absurd h
moves_fact (Some x) (Some y) l m P S f h = f (take l x) (take m y) h.0

-- bytes that are none of them ff are skipped
pub from_mark-others : (bytes rest : List ℕ) → All (λ b. b ≢ 255) bytes → from_mark (bytes ++ rest) ≡ from_mark rest
from_mark-others [] rest h = refl
from_mark-others (b ∷ bytes) rest h =
    ap (λ t. cond t (b ∷ (bytes ++ rest)) (from_mark (bytes ++ rest))) (ne_eqb b 255 (h 0 b (omega arith))) ∙ from_mark-others bytes rest (All-tail (λ b. b ≢ 255) b bytes h)

-- bytes at hand that are no ff are skipped
pub passes_marks : (a b : Option (List ℕ)) (m n k : ℕ) → PassesOthers a b 255 k → m ≡ n + k → Moves a m b n (λ xs ys. from_mark xs ≡ from_mark ys)
passes_marks None b m n k h e = tt
passes_marks (Some xs) None m n k h e = absurd h.1
passes_marks (Some xs) (Some ys) m n k h e =
    let sum : m ≡ length h.0 + n = e ∙ add_comm n k ∙ ap (λ t. t + n) (sym h.2) in (
      ap (λ t. from_mark (take t xs)) sum ∙ ap (λ t. from_mark (take (length h.0 + n) t)) h.1
          ∙ ap from_mark (take-append-add h.0 ys n) ∙ from_mark-others h.0 (take n ys) h.3,
      ap (λ t. drop t xs) sum ∙ ap (λ t. drop (length h.0 + n) t) h.1 ∙ drop-append-add h.0 ys n,
      (let all : length xs ≡ length h.0 + length ys = ap length h.1 ∙ length-append h.0 ys in omega arith),
    )
