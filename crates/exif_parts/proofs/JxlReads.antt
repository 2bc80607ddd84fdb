-- A box of a JPEG XL file that is read again, whatever follows it.
use Rattle.std.proofs.Common.{◌≡◌, ◌⊎◌, inl, inr, ◌<◌, ◌≤◌, ◌+◌, ℕ, Bool, true, false, cond, eqb, ltb, ◌||◌, List, ◌++◌, length, take, drop, codes, Option, None, Some, refl, ap, sym, ◌∙◌, arith, length-append}
use Rattle.std.specs.Int.{from_be_bytes, w32, w64}
use Rattle.std.specs.Option.{is_none}
use Rattle.std.specs.Str.{bytes_eq}
use Rattle.std.proofs.lemmas.Bool.{le-ltb}
use Rattle.std.proofs.lemmas.Bool.Decides.{nat_tests}
use Rattle.std.proofs.lemmas.List.{drop-take, length-take-le, take-append-drop, take-append-le, take_at}
use Rattle.exif_inventory.specs.BoxHeaders.{checked, head_of}
use Rattle.exif_inventory.specs.JxlPieces.{box_piece, exif_box, headed_box, is_cut_box, kind_box, other_box, rest_of_jxl, whole_box}
use Rattle.exif_inventory.specs.declared.boxes.Head.{Head}
use Rattle.exif_inventory.specs.declared.kind.Kind.TheVariants as kind
use Rattle.exif_inventory.specs.declared.piece.Piece.{Piece}
use Rattle.exif_inventory.proofs.BoxHeads.{first_size, head_is, large_size, sized_head}
use Rattle.exif_parts.specs.Jxl.{is_last}

-- ---- bytes that begin alike

pub shorter : (k s : ℕ) (xs zs : List ℕ) → k ≤ s → s ≤ length xs → s ≤ length zs → take s zs ≡ take s xs → take k zs ≡ take k xs
shorter k s xs zs h hx hz e = part zs hz ∙ ap (λ (l : List ℕ). take k l) e ∙ sym (part xs hx)
  where
    part : (l : List ℕ) → s ≤ length l → take k l ≡ take k (take s l)
    part l hl =
        let len : length (take s l) ≡ s = length-take-le s l hl in
        ap (λ (m : List ℕ). take k m) (sym (take-append-drop s l)) ∙ take-append-le k (take s l) (drop s l) (omega arith)

pub same_part : (j k s : ℕ) (xs zs : List ℕ) → j + k ≤ s → s ≤ length xs → s ≤ length zs → take s zs ≡ take s xs → take k (drop j zs) ≡ take k (drop j xs)
same_part j k s xs zs h hx hz e =
    sym (drop-take j k zs) ∙ ap (λ (l : List ℕ). drop j l) (shorter (j + k) s xs zs h hx hz e) ∙ drop-take j k xs

-- ---- a box of a known size

-- its length
pub whole_len : (xs : List ℕ) (header size : ℕ) → (whole_box xs header size).len ≡ size
whole_len xs header size = by (bytes_eq (take 4 (drop 4 xs)) (codes "Exif")) (ltb size (header + 4 + from_be_bytes w32 (take 4 (drop header xs))))
  where
    by : (t u : Bool) → (cond t (cond u (kind_box kind.Unknown size header) (kind_box kind.Exif size (header + 4 + from_be_bytes w32 (take 4 (drop header xs))))) (other_box (take 4 (drop 4 xs)) header size)).len ≡ size
    by true true = refl
    by true false = refl
    by false u = refl

-- one with Exif data, by the bytes that it has
exif_same : (xs zs : List ℕ) (header size : ℕ) → header ≤ size → size ≤ length xs → size ≤ length zs → take size zs ≡ take size xs
    → exif_box zs header size ≡ exif_box xs header size
exif_same xs zs header size h hx hz e = by (ltb size (header + 4)) refl
  where
    box_of : ℕ → Piece
    box_of n = cond (ltb size (header + 4 + n)) (kind_box kind.Unknown size header) (kind_box kind.Exif size (header + 4 + n))

    short : (n : ℕ) → size < header + 4 → box_of n ≡ kind_box kind.Unknown size header
    short n s =
        let t : ltb size (header + 4 + n) ≡ true = grind (arith, nat_tests) in
        ap (λ t. cond t (kind_box kind.Unknown size header) (kind_box kind.Exif size (header + 4 + n))) t

    by : (t : Bool) → ltb size (header + 4) ≡ t → exif_box zs header size ≡ exif_box xs header size
    by true s =
        let less : size < header + 4 = grind (arith, nat_tests) in
        short (from_be_bytes w32 (take 4 (drop header zs))) less ∙ sym (short (from_be_bytes w32 (take 4 (drop header xs))) less)
    by false s =
        let most : header + 4 ≤ size = grind (arith, nat_tests) in
        ap (λ (l : List ℕ). box_of (from_be_bytes w32 l)) (same_part header 4 size xs zs most hx hz e)

-- any one
whole_same : (xs zs : List ℕ) (header size : ℕ) → 8 ≤ header → header ≤ size → size ≤ length xs → size ≤ length zs → take size zs ≡ take size xs
    → whole_box zs header size ≡ whole_box xs header size
whole_same xs zs header size least h hx hz e =
    ap (λ (m : List ℕ). cond (bytes_eq m (codes "Exif")) (exif_box zs header size) (other_box m header size)) (same_part 4 4 size xs zs (omega arith) hx hz e)
    ∙ ap (λ (p : Piece). cond (bytes_eq (take 4 (drop 4 xs)) (codes "Exif")) p (other_box (take 4 (drop 4 xs)) header size)) (exif_same xs zs header size h hx hz e)

-- what is read of one: its piece; it is whole, and a box may be behind it
pub record Boxed (zs : List ℕ) (header size : ℕ) : Type 0 where
  pub piece : box_piece zs ≡ whole_box zs header size
  pub whole : is_cut_box zs ≡ false
  pub last : is_last zs ≡ false

-- the box at the front, by its header
given : (zs : List ℕ) → 8 ≤ length zs → box_piece zs ≡ headed_box zs (head_of zs)
unfolding box_piece
given zs h = ap (λ t. cond t (rest_of_jxl kind.Broken zs) (headed_box zs (head_of zs))) (le-ltb (length zs) 8 h)

by_head : (zs : List ℕ) (header size : ℕ) → 8 ≤ length zs → head_of zs ≡ Some (record { front = header; len = size }) → is_last zs ≡ false → Boxed zs header size
by_head zs header size h e last = record {
  piece = given zs h ∙ ap (λ (o : Option Head). headed_box zs o) e;
  whole = ap (λ (o : Option Head). is_none o) e;
  last = last;
}

-- its header, by its first four bytes
headed : (zs : List ℕ) (n : ℕ) → 8 ≤ length zs → first_size zs ≡ n → head_of zs ≡ sized_head n zs
headed zs n h is =
    head_is zs ∙ ap (λ t. cond {A = Option Head} t None (sized_head (first_size zs) zs)) (le-ltb (length zs) 8 h) ∙ ap (λ k. sized_head k zs) is

fitting : (header size all : ℕ) → header ≤ size → size ≤ all → checked header size all ≡ Some (record { front = header; len = size })
fitting header size all h w =
    ap (λ t. cond {A = Option Head} t None (Some (record { front = header; len = size })))
    (ap (λ t. t || ltb all size) (le-ltb size header h) ∙ le-ltb all size w)

pub plain : (zs : List ℕ) (n : ℕ) → from_be_bytes w32 (take 4 zs) ≡ n → eqb n 0 ≡ false → eqb n 1 ≡ false → 8 ≤ n → n ≤ length zs → Boxed zs 8 n
plain zs n is zero_not one_not least most =
    let all = length zs in
    let one : Option Head = cond (ltb all 16) None (checked 16 (large_size zs) all) in
    by_head zs 8 n (omega arith)
    (headed zs n (omega arith) is ∙ ap (λ t. cond t (checked 8 all all) (cond (eqb n 1) one (checked 8 n all))) zero_not
    ∙ ap (λ t. cond t one (checked 8 n all)) one_not ∙ fitting 8 n all least most)
    (ap (λ k. eqb k 0) is ∙ zero_not)

large : (zs : List ℕ) (m : ℕ) → from_be_bytes w32 (take 4 zs) ≡ 1 → from_be_bytes w64 (take 8 (drop 8 zs)) ≡ m → 16 ≤ m → m ≤ length zs → Boxed zs 16 m
large zs m is is' least most =
    let all = length zs in
    let sixteen : 16 ≤ length zs = omega arith in
    by_head zs 16 m (omega arith)
    (headed zs 1 (omega arith) is ∙ ap (λ t. cond {A = Option Head} t None (checked 16 (large_size zs) all)) (le-ltb all 16 sixteen)
    ∙ ap (λ k. checked 16 k all) is' ∙ fitting 16 m all least most)
    (ap (λ k. eqb k 0) is)

-- ---- a whole box that says its size

-- its header has eight bytes with its size, or 16 bytes with its size in the last eight
abbrev pub IsSpelled : List ℕ → ℕ → ℕ → Type 0
IsSpelled xs header size =
    ((header ≡ 8) × (from_be_bytes w32 (take 4 xs) ≡ size))
    ⊎ ((header ≡ 16) × (from_be_bytes w32 (take 4 xs) ≡ 1) × (from_be_bytes w64 (take 8 (drop 8 xs)) ≡ size))

pub record Found (xs : List ℕ) : Type 0 where
  pub header : ℕ
  pub size : ℕ
  pub least : 8 ≤ header
  pub fits : header ≤ size
  pub within : size ≤ length xs
  pub spelled : IsSpelled xs header size
  pub boxed : (zs : List ℕ) → size ≤ length zs → take size zs ≡ take size xs → Boxed zs header size

pub found : (xs : List ℕ) → is_cut_box xs ≡ false → is_last xs ≡ false → Found xs
found xs whole last =
    by (ltb (length xs) 8) (eqb n 0) (eqb n 1) (ltb (length xs) 16) refl refl refl refl (ap (λ (o : Option Head). is_none o) (sym (head_is xs)) ∙ whole) last
  where
    n : ℕ
    n = from_be_bytes w32 (take 4 xs)

    m : ℕ
    m = from_be_bytes w64 (take 8 (drop 8 xs))

    first : (a b : Bool) → (a || b) ≡ false → a ≡ false
    first true b e = absurd (cc)
    first false b e = refl

    second : (a b : Bool) → (a || b) ≡ false → b ≡ false
    second true b e = absurd (cc)
    second false b e = e

    fits : (t : Bool) (head : Head) → is_none (cond {A = Option Head} t None (Some head)) ≡ false → t ≡ false
    fits true head e = absurd (cc)
    fits false head e = refl

    by : (a b c d : Bool) → ltb (length xs) 8 ≡ a → eqb n 0 ≡ b → eqb n 1 ≡ c → ltb (length xs) 16 ≡ d
        → is_none (cond {A = Option Head} a None (cond b (checked 8 (length xs) (length xs)) (cond c (cond d None (checked 16 m (length xs))) (checked 8 n (length xs))))) ≡ false
        → b ≡ false → Found xs
    by true b c d ea eb ec ed w l = absurd (cc)
    by false true c d ea eb ec ed w l = absurd (cc)
    by false false true true ea eb ec ed w l = absurd (cc)
    by false false true false ea eb ec ed w l =
        let whole = fits (ltb m 16 || ltb (length xs) m) (record { front = 16; len = m }) w in
        let low = first (ltb m 16) (ltb (length xs) m) whole in
        let high = second (ltb m 16) (ltb (length xs) m) whole in
        let least : 16 ≤ m = grind (arith, nat_tests) in
        let most : m ≤ length xs = grind (arith, nat_tests) in
        let one : n ≡ 1 = grind (arith, nat_tests) in record {
          header = 16;
          size = m;
          least = omega arith;
          fits = least;
          within = most;
          spelled = inr (refl, one, refl);
          boxed = λ zs hz e. large zs m
              (ap (λ (l : List ℕ). from_be_bytes w32 l) (shorter 4 m xs zs (omega arith) most hz e) ∙ one)
              (ap (λ (l : List ℕ). from_be_bytes w64 l) (same_part 8 8 m xs zs (omega arith) most hz e)) least hz;
        }
    by false false false d ea eb ec ed w l =
        let whole = fits (ltb n 8 || ltb (length xs) n) (record { front = 8; len = n }) w in
        let low = first (ltb n 8) (ltb (length xs) n) whole in
        let high = second (ltb n 8) (ltb (length xs) n) whole in
        let least : 8 ≤ n = grind (arith, nat_tests) in
        let most : n ≤ length xs = grind (arith, nat_tests) in record {
          header = 8;
          size = n;
          least = omega arith;
          fits = least;
          within = most;
          spelled = inl (refl, refl);
          boxed = λ zs hz e. plain zs n
              (ap (λ (l : List ℕ). from_be_bytes w32 l) (shorter 4 n xs zs (omega arith) most hz e)) eb ec least hz;
        }

-- it is read again, whatever follows it
pub record Again (xs ys : List ℕ) : Type 0 where
  pub within : (box_piece xs).len ≤ length xs
  pub eight : 8 ≤ (box_piece xs).len
  pub piece : box_piece (take (box_piece xs).len xs ++ ys) ≡ box_piece xs
  pub whole : is_cut_box (take (box_piece xs).len xs ++ ys) ≡ false
  pub last : is_last (take (box_piece xs).len xs ++ ys) ≡ false

pub read_again : (xs ys : List ℕ) → is_cut_box xs ≡ false → is_last xs ≡ false → Again xs ys
read_again xs ys whole last =
    let f = found xs whole last in
    let own = f.boxed xs f.within refl in
    let len : (box_piece xs).len ≡ f.size = ap (λ (p : Piece). p.len) own.piece ∙ whole_len xs f.header f.size in
    let taken : length (take f.size xs) ≡ f.size = length-take-le f.size xs f.within in
    let all : length (take f.size xs ++ ys) ≡ length (take f.size xs) + length ys = length-append (take f.size xs) ys in
    let long : f.size ≤ length (take f.size xs ++ ys) = omega arith in
    let same : take f.size (take f.size xs ++ ys) ≡ take f.size xs = take_at (take f.size xs) ys f.size taken in
    let new = f.boxed (take f.size xs ++ ys) long same in
    let least = f.least in
    let fits = f.fits in
    let within = f.within in
    let is : take (box_piece xs).len xs ++ ys ≡ take f.size xs ++ ys = ap (λ k. take k xs ++ ys) len in record {
      within = omega arith;
      eight = omega arith;
      piece = ap (λ (l : List ℕ). box_piece l) is ∙ new.piece ∙ whole_same xs (take f.size xs ++ ys) f.header f.size least fits within long same ∙ sym own.piece;
      whole = ap (λ (l : List ℕ). is_cut_box l) is ∙ new.whole;
      last = ap (λ (l : List ℕ). is_last l) is ∙ new.last;
    }

-- a header of a whole box, by tests
abbrev head_by : ℕ → ℕ → ℕ → Bool → Bool → Bool → Bool → Bool → Bool → Bool → Option Head
head_by all n m a b d g p q r =
    cond a None (cond b (cond r None (Some (record { front = 8; len = all })))
    (cond d (cond g None (cond p None (Some (record { front = 16; len = m })))) (cond q None (Some (record { front = 8; len = n })))))

-- one that is cut off, or goes to the end of the file, has all bytes
pub box_is_all : (xs : List ℕ) (c t : Bool) → is_cut_box xs ≡ c → is_last xs ≡ t → (c || t) ≡ true → (box_piece xs).len ≡ length xs
unfolding box_piece
box_is_all xs c t e f h =
    ap (λ (o : Option Head). (cond (ltb (length xs) 8) (rest_of_jxl kind.Broken xs) (headed_box xs o)).len) (head_is xs)
    ∙ by (ltb (length xs) 8) (eqb n 0) (eqb n 1) (ltb (length xs) 16) (ltb m 16 || ltb (length xs) m) (ltb n 8 || ltb (length xs) n)
    (ltb (length xs) 8 || ltb (length xs) (length xs))
    (ap (λ (o : Option Head). is_none o || eqb n 0) (sym (head_is xs)) ∙ ap (λ x. x || is_last xs) e ∙ ap (λ x. c || x) f ∙ h)
  where
    n : ℕ
    n = from_be_bytes w32 (take 4 xs)

    m : ℕ
    m = from_be_bytes w64 (take 8 (drop 8 xs))

    by : (a b d g p q r : Bool) → (is_none (head_by (length xs) n m a b d g p q r) || b) ≡ true
        → (cond a (rest_of_jxl kind.Broken xs) (headed_box xs (head_by (length xs) n m a b d g p q r))).len ≡ length xs
    by true b d g p q r h = refl
    by false true d g p q true h = refl
    by false true d g p q false h = whole_len xs 8 (length xs)
    by false false true true p q r h = refl
    by false false true false true q r h = refl
    by false false true false false q r h = absurd (cc)
    by false false false g p true r h = refl
    by false false false g p false r h = absurd (cc)
