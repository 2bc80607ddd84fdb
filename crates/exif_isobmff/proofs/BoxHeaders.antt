-- The header that the inventory finds, by the definitions of this crate.
use Rattle.std.proofs.Common.{◌≡◌, ◌∙◌, ◌<◌, ◌≤◌, ◌-◌, ℕ, Bool, true, false, cond, eqb, leb, ltb, List, length, take, drop, Option, None, Some, is_some, Ok, Err, refl, sym, ap, arith}
use Rattle.std.specs.Int.{from_be_bytes, w32, w64}
use Rattle.std.specs.Option.{unwrap_or}
use Rattle.std.proofs.lemmas.Bool.{eqb-true, le-leb, le-ltb, lt-ltb}
use Rattle.std.proofs.lemmas.Bool.Decides.{nat_tests}
use Rattle.std.proofs.lemmas.List.{get_or-take}
use Rattle.byteorder.specs.Endian.{big_number}
use Rattle.exif_inventory.specs.BoxHeaders.{box_header, sized_header}
use Rattle.exif_inventory.specs.declared.boxes.BoxHeader.{BoxHeader}
use Rattle.exif_isobmff.specs.declared.kind.Kind.{Kind}
use Rattle.exif_isobmff.specs.declared.splitter.Header.{Header}
use Rattle.exif_isobmff.specs.HeifRefusals.{invalid_size}
use Rattle.exif_isobmff.specs.Kinds.{kind_of}
use Rattle.exif_isobmff.specs.Boxes.{box_size, header_at, header_len}

-- the number in the first four bytes, and the one in the first eight
number_4 : (text : List ℕ) → from_be_bytes w32 (take 4 text) ≡ big_number 4 text
number_4 text =
    omega (arith, get_or-take 4 text 0 0 (omega arith), get_or-take 4 text 1 0 (omega arith), get_or-take 4 text 2 0 (omega arith), get_or-take 4 text 3 0 (omega arith))

number_8 : (text : List ℕ) → from_be_bytes w64 (take 8 text) ≡ big_number 8 text
number_8 text =
    omega (arith, get_or-take 8 text 0 0 (omega arith), get_or-take 8 text 1 0 (omega arith), get_or-take 8 text 2 0 (omega arith), get_or-take 8 text 3 0 (omega arith), get_or-take 8 text 4 0 (omega arith), get_or-take 8 text 5 0 (omega arith), get_or-take 8 text 6 0 (omega arith), get_or-take 8 text 7 0 (omega arith))

-- a header of so many bytes, where they are there, and the size that it says
abbrev front_of : ℕ → List ℕ → Option ℕ → Option BoxHeader
front_of front text size = cond (ltb (length text) front) None (Some (record { front = front; size = size }))

-- the header, by tests on its size
abbrev by_size : ℕ → List ℕ → Option BoxHeader
by_size size text =
    cond (eqb size 0) (front_of 8 text None)
    (cond (eqb size 1) (front_of 16 text (Some (big_number 8 (drop 8 text)))) (front_of 8 text (Some size)))

header_is : (text : List ℕ) → box_header text ≡ by_size (big_number 4 text) text
unfolding box_header
header_is text =
    ap (λ n. cond (ltb (length text) 8) None (sized_header n text)) (number_4 text)
    ∙ by (ltb (length text) 8) (eqb n 0) (eqb n 1) (ltb (length text) 16) (grind (arith, nat_tests))
    ∙ ap large (number_8 (drop 8 text))
  where
    n : ℕ
    n = big_number 4 text

    large : ℕ → Option BoxHeader
    large m = cond (eqb n 0) (front_of 8 text None) (cond (eqb n 1) (front_of 16 text (Some m)) (front_of 8 text (Some n)))

    m : ℕ
    m = from_be_bytes w64 (take 8 (drop 8 text))

    found : ℕ → Option ℕ → Option BoxHeader
    found front size = Some (record { front = front; size = size })

    by : (short zero one cut : Bool) → (short ≡ true → cut ≡ true)
        → cond short None (cond zero (found 8 None) (cond one (cond cut None (found 16 (Some m))) (found 8 (Some n))))
        ≡ cond zero (cond short None (found 8 None)) (cond one (cond cut None (found 16 (Some m))) (cond short None (found 8 (Some n))))
    by true true one cut h = refl
    by true false true true h = refl
    by true false true false h = absurd (let all = h refl in cc)
    by true false false cut h = refl
    by false true one cut h = refl
    by false false true cut h = refl
    by false false false cut h = refl

some_same : {x y : BoxHeader} → let o : Option BoxHeader = Some x in o ≡ Some y → x ≡ y
some_same e = cc

-- a header is found where it is there
some_front : (front : ℕ) (text : List ℕ) (size : Option ℕ) → is_some (front_of front text size) ≡ leb front (length text)
some_front front text size = by (ltb (length text) front) refl
  where
    by : (short : Bool) → ltb (length text) front ≡ short → (let found : Option BoxHeader = cond short None (Some (record { front = front; size = size })) in is_some found) ≡ leb front (length text)
    by true e = grind (arith, nat_tests)
    by false e = grind (arith, nat_tests)

front_says : (short : Bool) (front : ℕ) (size : Option ℕ) (header : BoxHeader) → (let found : Option BoxHeader = cond short None (Some (record { front = front; size = size })) in found) ≡ Some header
    → (header.front ≡ front) × (header.size ≡ size)
front_says true front size header e = absurd cc
front_says false front size header e = let same = some_same e in (sym (ap (λ (h : BoxHeader). h.front) same), sym (ap (λ (h : BoxHeader). h.size) same))

-- whether a whole header is found
pub is_found : (text : List ℕ) → is_some (box_header text) ≡ leb (header_len text) (length text)
is_found text = ap (λ (h : Option BoxHeader). is_some h) (header_is text) ∙ by (eqb n 0) (eqb n 1) refl refl
  where
    n : ℕ
    n = big_number 4 text

    m : ℕ
    m = big_number 8 (drop 8 text)

    by : (zero one : Bool) → eqb n 0 ≡ zero → eqb n 1 ≡ one
        → is_some (cond zero (front_of 8 text None) (cond one (front_of 16 text (Some m)) (front_of 8 text (Some n)))) ≡ leb (cond one 16 8) (length text)
    by true true z o = absurd (omega (arith, eqb-true n 0 z, eqb-true n 1 o))
    by true false z o = some_front 8 text None
    by false true z o = some_front 16 text (Some m)
    by false false z o = some_front 8 text (Some n)

-- what a header that is found says
says : (text : List ℕ) (header : BoxHeader) → box_header text ≡ Some header
    → (header.front ≡ header_len text) × (unwrap_or header.size (length text) ≡ box_size text)
says text header e = by (eqb n 0) (eqb n 1) refl refl (sym (header_is text) ∙ e)
  where
    n : ℕ
    n = big_number 4 text

    m : ℕ
    m = big_number 8 (drop 8 text)

    sized : (front : ℕ) (size : Option ℕ) → front_of front text size ≡ Some header
        → (header.front ≡ front) × (unwrap_or header.size (length text) ≡ unwrap_or size (length text))
    sized front size e = let said = front_says (ltb (length text) front) front size header e in (said.0, ap (λ (s : Option ℕ). unwrap_or s (length text)) said.1)

    by : (zero one : Bool) → eqb n 0 ≡ zero → eqb n 1 ≡ one
        → cond zero (front_of 8 text None) (cond one (front_of 16 text (Some m)) (front_of 8 text (Some n))) ≡ Some header
        → (header.front ≡ cond one 16 8) × (unwrap_or header.size (length text) ≡ cond zero (length text) (cond one m n))
    by true true z o e = absurd (omega (arith, eqb-true n 0 z, eqb-true n 1 o))
    by true false z o e = sized 8 None e
    by false true z o e = sized 16 (Some m) e
    by false false z o e = sized 8 (Some n) e

-- a header that is there is found
pub not_none : (text : List ℕ) → header_len text ≤ length text → box_header text ≡ None → ⊥
not_none text h e =
    let found : is_some (box_header text) ≡ true = is_found text ∙ le-leb (header_len text) (length text) h in
    let none : is_some (box_header text) ≡ false = ap (λ (o : Option BoxHeader). is_some o) e in
    cc

-- a header of so many bytes of a box of this size, and what follows it
abbrev headed : List ℕ → ℕ → ℕ → Header × List ℕ
headed text front size = (record { kind = kind_of (take 4 (drop 4 text)); len = size - front }, drop front text)

-- a header that is found is read, where its size is not less than its own
pub is_read : (text : List ℕ) (header : BoxHeader) (size : ℕ) (kind : Kind) (rest : List ℕ) → box_header text ≡ Some header → size ≡ unwrap_or header.size (length text)
    → header.front ≤ size → kind ≡ kind_of (take 4 (drop 4 text)) → rest ≡ drop header.front text
    → header_at text ≡ Ok (record { kind = kind; len = size - header.front }, rest)
unfolding header_at
is_read text header size kind rest e s least k r =
    let said = says text header e in
    let front = said.0 in
    let same : size ≡ box_size text = s ∙ said.1 in
    ap (λ t. cond t (Err invalid_size) (Ok (headed text (header_len text) (box_size text)))) (le-ltb (box_size text) (header_len text) (omega (arith, front, same)))
    ∙ ap (λ n. Ok (headed text n (box_size text))) (sym front)
    ∙ ap (λ n. Ok (headed text header.front n)) (sym same)
    ∙ ap (λ k. Ok (record { kind = k; len = size - header.front }, drop header.front text)) (sym k)
    ∙ ap (λ t. Ok (record { kind = kind; len = size - header.front }, t)) (sym r)

-- a header whose size is less than its own is refused
pub is_refused : (text : List ℕ) (header : BoxHeader) (size : ℕ) → box_header text ≡ Some header → size ≡ unwrap_or header.size (length text) → size < header.front → header_at text ≡ Err invalid_size
unfolding header_at
is_refused text header size e s less =
    let said = says text header e in
    let front = said.0 in
    let same : size ≡ box_size text = s ∙ said.1 in
    ap (λ t. cond t (Err invalid_size) (Ok (headed text (header_len text) (box_size text)))) (lt-ltb (box_size text) (header_len text) (omega (arith, front, same)))
