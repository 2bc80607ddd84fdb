-- The boxes that fill a text, one after the other.
use Rattle.std.proofs.Common.{◌≡◌, ℕ, zero, suc, ◌-◌, ◌<◌, ◌≤◌, Bool, true, false, cond, leb, ltb, eqb, List, [], ◌∷◌, length, take, drop, Result, Ok, Err, refl, sym, ap, ◌∙◌, arith}
use Rattle.std.proofs.lemmas.Bool.{leb-true}
use Rattle.std.proofs.lemmas.List.{length-drop}
use Rattle.byteorder.specs.Endian.{big_number}
use Rattle.exif_isobmff.specs.declared.splitter.Header.{Header}
use Rattle.exif_types.specs.Refusals.{Refusal, ◌>>=◌, Front}
use Rattle.exif_isobmff.specs.HeifRefusals.{too_small, invalid_size}
use Rattle.exif_isobmff.specs.Boxes.{Part, none, before, and_then, header_len, box_size, header_at, box_at, bytes_at, filling, all_boxes}

-- a box is longer than nothing
abbrev pub Shortens : (List ℕ → Front Part) → Type 0
Shortens box = (text : List ℕ) (p : Part) (rest : List ℕ) → box text ≡ Ok (p, rest) → length rest < length text

by_same : (box : List ℕ → Front Part) (shortens : Shortens box) (n m : ℕ) (text : List ℕ) (others : (rest : List ℕ) → length rest < length text → filling box n rest ≡ filling box m rest) (r : Front Part) → box text ≡ r
    → and_then r (filling box n) ≡ and_then r (filling box m)
by_same box shortens n m text others (Ok p) e = ap (λ ps. before p.0 ps) (others p.1 (shortens text p.0 p.1 e))
by_same box shortens n m text others (Err r) e = refl

-- more than enough is the same
pub filling_enough : (box : List ℕ → Front Part) (shortens : Shortens box) (n m : ℕ) (text : List ℕ) → length text ≤ n → length text ≤ m → filling box n text ≡ filling box m text
filling_enough box shortens zero zero text h k = refl
filling_enough box shortens zero (suc m) [] h k = refl
filling_enough box shortens zero (suc m) (b ∷ text) h k = absurd (omega arith)
filling_enough box shortens (suc n) zero [] h k = refl
filling_enough box shortens (suc n) zero (b ∷ text) h k = absurd (omega arith)
filling_enough box shortens (suc n) (suc m) [] h k = refl
filling_enough box shortens (suc n) (suc m) (b ∷ text) h k =
    by_same box shortens n m (b ∷ text) (λ rest lt. filling_enough box shortens n m rest (omega arith) (omega arith)) (box (b ∷ text)) refl

-- no bytes have no boxes
pub all_boxes_end : (box : List ℕ → Front Part) (text : List ℕ) → length text ≡ 0 → all_boxes box text ≡ none
unfolding all_boxes
all_boxes_end box [] h = refl
all_boxes_end box (b ∷ text) h = absurd (omega arith)

and_then_enough : (box : List ℕ → Front Part) (shortens : Shortens box) (n : ℕ) (text : List ℕ) (r : Front Part) → box text ≡ r → length text ≡ suc n → and_then r (filling box n) ≡ and_then r (all_boxes box)
unfolding all_boxes
and_then_enough box shortens n text (Ok p) e h = ap (λ ps. before p.0 ps) (filling_enough box shortens n (length p.1) p.1 (let lt = shortens text p.0 p.1 e in omega arith) (omega arith))
and_then_enough box shortens n text (Err r) e h = refl

-- the first box, and those after it
pub all_boxes_more : (box : List ℕ → Front Part) (shortens : Shortens box) (text : List ℕ) → 0 < length text → all_boxes box text ≡ and_then (box text) (all_boxes box)
unfolding all_boxes
all_boxes_more box shortens [] h = absurd (omega arith)
all_boxes_more box shortens (b ∷ text) h = and_then_enough box shortens (length text) (b ∷ text) (box (b ∷ text)) refl refl

-- an answer is one
pub ok_same : {A : Type 0} {x y : A} → let r : Result A Refusal = Ok x in r ≡ Ok y → x ≡ y
ok_same e = cc

-- ---- a box inside a box takes 8 bytes at least

-- two steps that succeed, each
pub bind_ok : {A B : Type 0} (r : Result A Refusal) (f : A → Result B Refusal) (y : B) → (r >>= f) ≡ Ok y → (x : A) × (r ≡ Ok x) × (f x ≡ Ok y)
bind_ok (Ok x) f y e = (x, refl, e)
bind_ok (Err d) f y e = absurd cc

-- a test that was passed
pub when_ok : {A : Type 0} (b : Bool) (r : Result A Refusal) (d : Refusal) (y : A) → cond b r (Err d) ≡ Ok y → (b ≡ true) × (r ≡ Ok y)
when_ok true r d y e = (refl, e)
when_ok false r d y e = absurd cc

-- a test that did not refuse
pub unless_ok : {A : Type 0} (b : Bool) (d : Refusal) (x y : A) → cond b (Err d) (Ok x) ≡ Ok y → x ≡ y
unless_ok true d x y e = absurd cc
unless_ok false d x y e = cc

-- the text behind a value
abbrev pub after : {A : Type 0} → A × List ℕ → List ℕ
after x = x.1

-- what follows a header
pub header_rest : (text : List ℕ) (h : Header × List ℕ) → header_at text ≡ Ok h → drop (header_len text) text ≡ h.1
unfolding header_at
header_rest text h e = ap after (unless_ok (ltb (box_size text) (header_len text)) invalid_size _ h e)

-- a header has 8 bytes or 16
pub eight : (b : Bool) → 8 ≤ cond b 16 8
eight true = omega arith
eight false = omega arith

-- a box inside a box is longer than nothing
pub box_shorter : Shortens box_at
unfolding box_at
box_shorter text p rest e =
    let w = when_ok (leb (header_len text) (length text)) _ too_small (p, rest) e in
    let h = bind_ok (header_at text) _ (p, rest) w.1 in
    let b = bind_ok (bytes_at h.0.0.len h.0.1) _ (p, rest) h.2 in
    let head : header_len text ≤ length text = leb-true _ _ w.0 in
    let long : 8 ≤ header_len text = eight (eqb (big_number 4 text) 1) in
    let first : drop (header_len text) text ≡ h.0.1 = header_rest text h.0 h.1 in
    let second : drop h.0.0.len h.0.1 ≡ b.0.1 = ap after (unless_ok (ltb (length h.0.1) h.0.0.len) too_small (take h.0.0.len h.0.1, drop h.0.0.len h.0.1) b.0 b.1) in
    let last : b.0.1 ≡ rest = ap after (ok_same b.2) in
    let n : length h.0.1 ≡ length text - header_len text = sym (ap (λ (t : List ℕ). length t) first) ∙ length-drop (header_len text) text in
    let m : length rest ≡ length h.0.1 - h.0.0.len = sym (ap (λ (t : List ℕ). length t) (second ∙ last)) ∙ length-drop h.0.0.len h.0.1 in
    omega arith
