-- Bytes that are what comes in place of them.
use Rattle.std.proofs.Common.{◌≡◌, ◌<◌, ◌≤◌, ◌-◌, ℕ, Bool, true, false, cond, ◌&&◌, ltb, leb, eqb, List, [], ◌∷◌, ◌++◌, length, take, drop, replicate, refl, ap, sym, ◌∙◌, arith, length-drop}
use Rattle.std.proofs.lemmas.Bool.Decides.{Decides-and, nat_tests, same_from_decides}
use Rattle.std.proofs.lemmas.List.{drop-drop, drop-take, drop_at, length-take-le, take-append-drop, take-append-le, take-take, take_at}
use Rattle.std.proofs.lemmas.Slice.Eq.{bytes_eq-Decides}
use Rattle.std.specs.Bool.{Decides}
use Rattle.std.specs.Prelude.{codes}
use Rattle.std.specs.Str.{bytes_eq}
use Rattle.exif_blanks.specs.HeifBlanks.{all_are, cleared_from, freed, padded, renamed}
use Rattle.exif_blanks.proofs.BlankSteps.{renamed_long}

-- all bytes are this one
pub all_same : (b : ℕ) (bytes : List ℕ) → all_are b bytes ≡ bytes_eq (replicate (length bytes) b) bytes
all_same b [] = refl
all_same b (x ∷ bytes) = ap (λ (r : Bool). eqb b x && r) (all_same b bytes)

and_of : (x y z : Bool) → (x && (y && z)) ≡ ((x && y) && z)
and_of true y z = refl
and_of false y z = refl

-- a text, and what follows it
pub split_eq : (text more bytes : List ℕ) → length text ≤ length bytes
    → bytes_eq (text ++ more) bytes ≡ (bytes_eq text (take (length text) bytes) && bytes_eq more (drop (length text) bytes))
split_eq [] more bytes h = refl
split_eq (x ∷ text) more [] h = absurd (omega arith)
split_eq (x ∷ text) more (y ∷ bytes) h =
    ap (λ (r : Bool). eqb x y && r) (split_eq text more bytes (omega arith))
    ∙ and_of (eqb x y) (bytes_eq text (take (length text) bytes)) (bytes_eq more (drop (length text) bytes))

-- zeros, or another byte, to the end
rest_same : (b n : ℕ) (bytes : List ℕ) → bytes_eq (replicate (length bytes - n) b) (drop n bytes) ≡ all_are b (drop n bytes)
rest_same b n bytes =
    ap (λ k. bytes_eq (replicate k b) (drop n bytes)) (sym (length-drop n bytes)) ∙ sym (all_same b (drop n bytes))

padded_if : (t : Bool) (text : List ℕ) (b : ℕ) (bytes : List ℕ) → t ≡ true → length text ≤ length bytes
    → bytes_eq (cond t (text ++ replicate (length bytes - length text) b) (replicate (length bytes) b)) bytes
    ≡ (bytes_eq text (take (length text) bytes) && all_are b (drop (length text) bytes))
padded_if true text b bytes e h =
    split_eq text (replicate (length bytes - length text) b) bytes h
    ∙ ap (λ (r : Bool). bytes_eq text (take (length text) bytes) && r) (rest_same b (length text) bytes)
padded_if false text b bytes e h = absurd (cc)

pub padded_same : (text : List ℕ) (b : ℕ) (bytes : List ℕ) → length text ≤ length bytes
    → bytes_eq (padded text b bytes) bytes ≡ (bytes_eq text (take (length text) bytes) && all_are b (drop (length text) bytes))
padded_same text b bytes h = padded_if (leb (length text) (length bytes)) text b bytes (grind (arith, nat_tests)) h

short_if : (t : Bool) (text : List ℕ) (b : ℕ) (bytes : List ℕ) → t ≡ false
    → bytes_eq (cond t (text ++ replicate (length bytes - length text) b) (replicate (length bytes) b)) bytes ≡ all_are b bytes
short_if true text b bytes e = absurd (cc)
short_if false text b bytes e = sym (all_same b bytes)

pub short_same : (text : List ℕ) (b : ℕ) (bytes : List ℕ) → length bytes < length text → bytes_eq (padded text b bytes) bytes ≡ all_are b bytes
short_same text b bytes h = short_if (leb (length text) (length bytes)) text b bytes (grind (arith, nat_tests))

-- ---- a box as free space

-- its name is the one of free space, and behind its header are zeros
record Free (front : ℕ) (bytes : List ℕ) : Type 0 where
  named : take 4 (drop 4 bytes) ≡ codes "free"
  empty : drop front bytes ≡ replicate (length bytes - front) 0

front_is : (bytes : List ℕ) → bytes ≡ take 4 bytes ++ (take 4 (drop 4 bytes) ++ drop 8 bytes)
front_is bytes =
    sym (take-append-drop 4 bytes)
    ∙ ap (λ (bs : List ℕ). take 4 bytes ++ bs) (sym (take-append-drop 4 (drop 4 bytes)) ∙ ap (λ (bs : List ℕ). take 4 (drop 4 bytes) ++ bs) (drop-drop 4 4 bytes))

-- bytes of free space become themselves
free_stays : (front : ℕ) (bytes : List ℕ) → Free front bytes → cleared_from front (renamed bytes) ≡ bytes
free_stays front bytes f =
    let same : renamed bytes ≡ bytes =
    ap (λ (name : List ℕ). take 4 bytes ++ (name ++ drop 8 bytes)) (sym f.named) ∙ sym (front_is bytes) in
    ap (cleared_from front) same ∙ ap (λ (bs : List ℕ). take front bytes ++ bs) (sym f.empty) ∙ take-append-drop front bytes

-- bytes that become themselves are free space
stays_free : (front : ℕ) (bytes : List ℕ) → 8 ≤ front → front ≤ length bytes → cleared_from front (renamed bytes) ≡ bytes → Free front bytes
stays_free front bytes least most e =
    let new = renamed bytes in
    let long : length new ≡ length bytes = renamed_long bytes (omega arith) in
    let zeros : List ℕ = replicate (length new - front) 0 in
    let fits : length (take front new) ≡ front = length-take-le front new (omega arith) in
    let four : length (take 4 bytes) ≡ 4 = length-take-le 4 bytes (omega arith) in
    let name : take 4 (drop 4 new) ≡ codes "free" = ap (take 4) (drop_at (take 4 bytes) (codes "free" ++ drop 8 bytes) 4 four) ∙ take_at (codes "free") (drop 8 bytes) 4 refl in
    let ahead : take 8 (cleared_from front new) ≡ take 8 new =
    take-append-le 8 (take front new) zeros (omega arith) ∙ take-take 8 front new least in
    let eight : take 8 bytes ≡ take 8 new = ap (take 8) (sym e) ∙ ahead in
    record {
      named = sym (drop-take 4 4 bytes) ∙ ap (drop 4) eight ∙ drop-take 4 4 new ∙ name;
      empty = ap (drop front) (sym e) ∙ drop_at (take front new) zeros front fits ∙ ap (λ n. replicate (n - front) 0) long;
    }

freed_if : (t : Bool) (front : ℕ) (bytes : List ℕ) → t ≡ false → cond t bytes (cleared_from front (renamed bytes)) ≡ cleared_from front (renamed bytes)
freed_if true front bytes e = absurd (cc)
freed_if false front bytes e = refl

freed_is : (front : ℕ) (bytes : List ℕ) → front ≤ length bytes → freed front bytes ≡ cleared_from front (renamed bytes)
freed_is front bytes h = freed_if (ltb (length bytes) front) front bytes (grind (arith, nat_tests))

zeros_Decides : (front : ℕ) (bytes : List ℕ) → Decides (all_are 0 (drop front bytes)) (drop front bytes ≡ replicate (length bytes - front) 0)
zeros_Decides front bytes =
    let d = bytes_eq-Decides (replicate (length bytes - front) 0) (drop front bytes) in
    let r = rest_same 0 front bytes in
    (λ e. sym (d.0 (r ∙ e)), λ e. sym r ∙ d.1 (sym e))

pub freed_same : (front : ℕ) (bytes : List ℕ) → 8 ≤ front → front ≤ length bytes
    → (bytes_eq (take 4 (drop 4 bytes)) (codes "free") && all_are 0 (drop front bytes)) ≡ bytes_eq (freed front bytes) bytes
freed_same front bytes least most =
    let d = bytes_eq-Decides (freed front bytes) bytes in
    let is = freed_is front bytes most in
    let p = Decides-and (bytes_eq (take 4 (drop 4 bytes)) (codes "free")) (all_are 0 (drop front bytes)) (bytes_eq-Decides (take 4 (drop 4 bytes)) (codes "free")) (zeros_Decides front bytes) in
    let both : Decides (bytes_eq (take 4 (drop 4 bytes)) (codes "free") && all_are 0 (drop front bytes)) (freed front bytes ≡ bytes) = (
      λ e. let two = p.0 e in is ∙ free_stays front bytes (record { named = two.0; empty = two.1 }),
      λ e. let f = stays_free front bytes least most (sym is ∙ e) in p.1 (f.named, f.empty),
    ) in
    same_from_decides _ _ both d
