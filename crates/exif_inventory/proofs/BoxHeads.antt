-- Whole boxes by their headers.
use Rattle.std.proofs.Common.{◌≡◌, ◌≤◌, ℕ, Bool, true, false, cond, eqb, ltb, List, length, take, drop, Option, None, Some, refl, sym, subst, arith}
use Rattle.std.specs.Int.{from_be_bytes, w32, w64}
use Rattle.std.proofs.lemmas.Bool.Decides.{nat_tests}
use Rattle.exif_inventory.specs.BoxHeaders.{box_header, checked, head_of, whole_head}
use Rattle.exif_inventory.specs.declared.boxes.Head.{Head}

-- the size in front of the type, and the one behind it
abbrev pub first_size : List ℕ → ℕ
first_size bytes = from_be_bytes w32 (take 4 bytes)

abbrev pub large_size : List ℕ → ℕ
large_size bytes = from_be_bytes w64 (take 8 (drop 8 bytes))

-- the header of a whole box of this size, where there is one
abbrev pub sized_head : ℕ → List ℕ → Option Head
sized_head size bytes =
    cond (eqb size 0) (checked 8 (length bytes) (length bytes))
    (cond (eqb size 1) (cond (ltb (length bytes) 16) None (checked 16 (large_size bytes) (length bytes))) (checked 8 size (length bytes)))

-- the header of a whole box, by tests on its size
pub head_is : (bytes : List ℕ) → head_of bytes ≡ cond (ltb (length bytes) 8) None (sized_head (first_size bytes) bytes)
unfolding head_of box_header
head_is bytes = by (ltb all 8) (eqb n 0) (eqb n 1) (ltb all 16)
  where
    all : ℕ
    all = length bytes

    n : ℕ
    n = first_size bytes

    m : ℕ
    m = large_size bytes

    by : (a b c d : Bool)
        → whole_head all (cond a None (cond b (Some (record { front = 8; size = None })) (cond c (cond d None (Some (record { front = 16; size = Some m }))) (Some (record { front = 8; size = Some n })))))
        ≡ cond a None (cond b (checked 8 all all) (cond c (cond d None (checked 16 m all)) (checked 8 n all)))
    by true b c d = refl
    by false true c d = refl
    by false false true true = refl
    by false false true false = refl
    by false false false d = refl

-- a header, if there is one, is in so many bytes
abbrev pub HeadIn : ℕ → Option Head → Type 0
HeadIn all None = Unit {0}
HeadIn all (Some head) = (8 ≤ head.front) × (head.front ≤ head.len) × (head.len ≤ all)

checked_if : (t : Bool) (front len all : ℕ) → 8 ≤ front → (t ≡ false → (front ≤ len) × (len ≤ all))
    → HeadIn all (cond t None (Some (record { front = front; len = len })))
checked_if true front len all least h = tt
checked_if false front len all least h = let p = h refl in (least, p.0, p.1)

checked_in : (front len all : ℕ) → 8 ≤ front → HeadIn all (checked front len all)
checked_in front len all least = checked_if _ front len all least (λ e. (grind (arith, nat_tests), grind (arith, nat_tests)))

either_in : (t : Bool) (all : ℕ) (x y : Option Head) → HeadIn all x → HeadIn all y → HeadIn all (cond t x y)
either_in true all x y h k = h
either_in false all x y h k = k

sized_in : (size : ℕ) (bytes : List ℕ) → HeadIn (length bytes) (sized_head size bytes)
sized_in size bytes =
    let all = length bytes in
    let large = checked 16 (large_size bytes) all in
    let one = cond (ltb all 16) None large in
    either_in (eqb size 0) all (checked 8 all all) (cond (eqb size 1) one (checked 8 size all)) (checked_in 8 all all (omega arith))
    (either_in (eqb size 1) all one (checked 8 size all)
    (either_in (ltb all 16) all None large tt (checked_in 16 (large_size bytes) all (omega arith)))
    (checked_in 8 size all (omega arith)))

-- the header of a whole box is in the box, and the box in the bytes
pub head_in : (bytes : List ℕ) → HeadIn (length bytes) (head_of bytes)
head_in bytes =
    subst (HeadIn (length bytes)) (sym (head_is bytes))
    (either_in (ltb (length bytes) 8) (length bytes) None (sized_head (first_size bytes) bytes) tt (sized_in (first_size bytes) bytes))
