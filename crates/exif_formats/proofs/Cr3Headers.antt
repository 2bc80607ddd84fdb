-- The box whose header these bytes are, whatever follows them.
use Rattle.std.proofs.Common.{◌≡◌, ℕ, ◌-◌, ◌<◌, ◌≤◌, Bool, true, false, cond, not, ◌&&◌, eqb, leb, ltb, List, ◌++◌, length, take, drop, Option, Some, None, Result, Ok, Err, IfOk, IfErr, MatchOption, refl, sym, ap, ◌∙◌, arith, length-append, length-drop}
use Rattle.std.proofs.lemmas.Bool.{eqb-true, ltb-false, ltb-true, le-ltb, lt-ltb, le-leb}
use Rattle.std.proofs.lemmas.List.{take-append-le, drop-append-le, take_all, drop_all, drop_at}
use Rattle.byteorder.specs.Endian.{big_number}
use Rattle.byteorder.specs.Numbers.{big_from-append}
use Rattle.exif_types.specs.Failures.{Failure}
use Rattle.exif_types.specs.Refusals.{Refusal, refusal_of, Answers, ◌>>=◌, Front}
use Rattle.exif_isobmff.specs.declared.kind.Kind.{Kind}
use Rattle.exif_isobmff.specs.HeifRefusals.{too_small, invalid_size}
use Rattle.exif_isobmff.specs.Kinds.{kind_of}
use Rattle.exif_isobmff.specs.Boxes.{bytes_at, sizes_itself, box_size, header_len, header_at}
use Rattle.exif_isobmff.proofs.SplitterBoxes.{eight, ok_same}
use Rattle.exif_isobmff.proofs.LawsBoxes.{head_of, with_body, after_head, head-read, box-headed, box-cut}
use Rattle.exif_formats.specs.Cr3.{Box, broken_cr3, box_read, first_box}
use Rattle.exif_formats.specs.Cr3Steps.{box_behind}
use Rattle.exif_formats.specs.Headers.{file_header}
use Rattle.exif_formats.specs.declared.headers.FileHeader.{FileHeader}

-- ---- a box by its header

behind-read : (text name : List ℕ) (kind : Kind) (len : ℕ) (rest : List ℕ) → take 4 (drop 4 text) ≡ name
    → box_read text (bytes_at len rest >>= with_body kind) ≡ box_behind name (Some len) rest
behind-read text name kind len rest e = by (ltb (length rest) len)
  where
    by : (t : Bool) → box_read text ((let body : Front (List ℕ) = cond t (Err too_small) (Ok (take len rest, drop len rest)) in body) >>= with_body kind)
        ≡ cond t (Err broken_cr3) (Ok (record { name = name; payload = take len rest; rest = drop len rest }))
    by true = refl
    by false = ap (λ n. let b : Result Box Refusal = Ok (record { name = n; payload = take len rest; rest = drop len rest }) in b) e

-- a box whose header is whole, and no longer than the box
pub headed : (text name rest : List ℕ) (len : ℕ) → header_len text ≤ length text → header_len text ≤ box_size text → box_size text - header_len text ≡ len
    → drop (header_len text) text ≡ rest → take 4 (drop 4 text) ≡ name → first_box text ≡ box_behind name (Some len) rest
headed text name rest len h k s d e =
    ap (box_read text) (box-headed text h)
    ∙ ap (λ r. box_read text (r >>= after_head)) (head-read text k)
    ∙ ap (λ n. box_read text (bytes_at n (drop (header_len text) text) >>= with_body (kind_of (take 4 (drop 4 text))))) s
    ∙ ap (λ t. box_read text (bytes_at len t >>= with_body (kind_of (take 4 (drop 4 text))))) d
    ∙ behind-read text name (kind_of (take 4 (drop 4 text))) len rest e

-- a box that has all that follows its header
all-behind : (name rest : List ℕ) → box_behind name (Some (length rest)) rest ≡ box_behind name None rest
all-behind name rest =
    ap (λ t. cond t (Err broken_cr3) (of (take (length rest) rest) (drop (length rest) rest))) (le-ltb (length rest) (length rest) (omega arith))
    ∙ ap (λ t. of t (drop (length rest) rest)) (take_all (length rest) rest (omega arith))
    ∙ ap (of rest) (drop_all (length rest) rest (omega arith))
  where
    of : List ℕ → List ℕ → Result Box Refusal
    of payload after = Ok (record { name = name; payload = payload; rest = after })

-- a size under that of the header
wrong : (text : List ℕ) → header_len text ≤ length text → box_size text < header_len text → first_box text ≡ Err broken_cr3
unfolding header_at
wrong text h k =
    ap (box_read text) (box-headed text h)
    ∙ ap (λ t. box_read text (cond t (Err invalid_size) (Ok (head_of text)) >>= after_head)) (lt-ltb (box_size text) (header_len text) k)

-- no whole header
pub first-cut : (text : List ℕ) → length text < header_len text → first_box text ≡ Err broken_cr3
first-cut text h = ap (box_read text) (box-cut text h)

-- ---- a header, and what follows it

number-append : (head rest : List ℕ) → 4 ≤ length head → big_number 4 (head ++ rest) ≡ big_number 4 head
number-append head rest h = big_from-append 4 head rest h

-- what bytes that are a whole header say of a box
record IsHead (head rest : List ℕ) : Type 0 where
  least : 8 ≤ length head
  len : header_len (head ++ rest) ≡ length head
  whole : header_len (head ++ rest) ≤ length (head ++ rest)
  name : take 4 (drop 4 (head ++ rest)) ≡ take 4 (drop 4 head)
  behind : drop (header_len (head ++ rest)) (head ++ rest) ≡ rest

is_head : (head rest : List ℕ) → length head ≡ header_len head → IsHead head rest
is_head head rest e =
    let long : 8 ≤ header_len head = eight (eqb (big_number 4 head) 1) in
    let same : header_len (head ++ rest) ≡ length head = ap (λ n. cond (eqb n 1) 16 8) (number-append head rest (omega arith)) ∙ sym e in
    let total = length-append head rest in
    record {
      least = omega arith;
      len = same;
      whole = omega arith;
      name = ap (take 4) (drop-append-le 4 head rest (omega arith)) ∙ take-append-le 4 (drop 4 head) rest (omega (arith, length-drop 4 head));
      behind = ap (λ n. drop n (head ++ rest)) same ∙ drop_at head rest (length head) refl;
    }

sized : (z o : Bool) (s l m x y : ℕ) → z ≡ false → (o ≡ true → x ≡ y) → cond z l (cond o x s) ≡ cond z m (cond o y s)
sized true o s l m x y e f = absurd cc
sized false true s l m x y e f = f refl
sized false false s l m x y e f = refl

-- a header that says a size says the same whatever follows
size-append : (head rest : List ℕ) → length head ≡ header_len head → eqb (big_number 4 head) 0 ≡ false → box_size (head ++ rest) ≡ box_size head
size-append head rest e z =
    let h = is_head head rest e in
    let least = h.least in
    ap (λ s. cond (eqb s 0) (length (head ++ rest)) (cond (eqb s 1) (big_number 8 (drop 8 (head ++ rest))) s)) (number-append head rest (omega arith))
    ∙ sized (eqb (big_number 4 head) 0) (eqb (big_number 4 head) 1) (big_number 4 head) (length (head ++ rest)) (length head) (big_number 8 (drop 8 (head ++ rest))) (big_number 8 (drop 8 head)) z large
  where
    large : eqb (big_number 4 head) 1 ≡ true → big_number 8 (drop 8 (head ++ rest)) ≡ big_number 8 (drop 8 head)
    large o =
        let sixteen : header_len head ≡ 16 = ap (λ b. cond b 16 8) o in
        ap (big_number 8) (drop-append-le 8 head rest (omega arith)) ∙ big_from-append 8 (drop 8 head) rest (omega (arith, length-drop 8 head))

zero-of : (long : Bool) (z : Bool) → long ≡ true → (long && not z) ≡ false → z ≡ true
zero-of true true e h = refl
zero-of true false e h = absurd cc
zero-of false z e h = absurd cc

nonzero-of : (long : Bool) (z : Bool) → (long && not z) ≡ true → z ≡ false
nonzero-of true true h = absurd cc
nonzero-of true false h = refl
nonzero-of false z h = absurd cc

-- a header that says no size is that of a box with all that follows
pub headed_to_end : (head name : List ℕ) → length head ≡ header_len head → sizes_itself head ≡ false → take 4 (drop 4 head) ≡ name
    → (rest : List ℕ) → first_box (head ++ rest) ≡ box_behind name None rest
headed_to_end head name e s n rest =
    let h = is_head head rest e in
    let least = h.least in
    let zero : eqb (big_number 4 head) 0 ≡ true = zero-of (leb 4 (length head)) (eqb (big_number 4 head) 0) (le-leb 4 (length head) (omega arith)) s in
    let size : box_size (head ++ rest) ≡ length (head ++ rest) = ap (size_by (head ++ rest)) (number-append head rest (omega arith) ∙ eqb-true (big_number 4 head) 0 zero) in
    let len = h.len in
    let total = length-append head rest in
    headed (head ++ rest) name rest (length rest) h.whole (omega arith) (omega arith) h.behind (h.name ∙ n) ∙ all-behind name rest
  where
    size_by : List ℕ → ℕ → ℕ
    size_by text s = cond (eqb s 0) (length text) (cond (eqb s 1) (big_number 8 (drop 8 text)) s)

-- a header that says a size
headed-sized : (head name : List ℕ) → length head ≡ header_len head → sizes_itself head ≡ true → header_len head ≤ box_size head → take 4 (drop 4 head) ≡ name
    → (rest : List ℕ) → first_box (head ++ rest) ≡ box_behind name (Some (box_size head - header_len head)) rest
headed-sized head name e s f n rest =
    let is = is_head head rest e in
    let size : box_size (head ++ rest) ≡ box_size head = size-append head rest e (nonzero-of (leb 4 (length head)) (eqb (big_number 4 head) 0) s) in
    let len : header_len (head ++ rest) ≡ header_len head = is.len ∙ e in
    headed (head ++ rest) name rest (box_size head - header_len head) is.whole (omega arith) (ap (λ n. n - header_len (head ++ rest)) size ∙ ap (λ n. box_size head - n) len) is.behind (is.name ∙ n)

-- a header whose size is less than that of the header
headed-wrong : (head : List ℕ) → length head ≡ header_len head → sizes_itself head ≡ true → box_size head < header_len head
    → (rest : List ℕ) → first_box (head ++ rest) ≡ Err broken_cr3
headed-wrong head l s small rest =
    let is = is_head head rest l in
    let size : box_size (head ++ rest) ≡ box_size head = size-append head rest l (nonzero-of (leb 4 (length head)) (eqb (big_number 4 head) 0) s) in
    let len = is.len in
    wrong (head ++ rest) is.whole (omega arith)

-- what a header says, by tests on its size
abbrev by_tests : List ℕ → Bool → Bool → Result FileHeader Refusal
by_tests head sizes small =
    cond (sizes && small) (Err broken_cr3) (Ok (record { name = take 4 (drop 4 head); len = cond sizes (Some (box_size head - header_len head)) None }))

header-is : (head : List ℕ) (h : FileHeader) → length head ≡ header_len head → file_header broken_cr3 head ≡ Ok h
    → (rest : List ℕ) → first_box (head ++ rest) ≡ box_behind h.name h.len rest
header-is head h l r rest = by (sizes_itself head) (ltb (box_size head) (header_len head)) refl refl r
  where
    by : (sizes small : Bool) → sizes_itself head ≡ sizes → ltb (box_size head) (header_len head) ≡ small → by_tests head sizes small ≡ Ok h
        → first_box (head ++ rest) ≡ box_behind h.name h.len rest
    by false small s t e = headed_to_end head (take 4 (drop 4 head)) l s refl rest ∙ ap (λ (h : FileHeader). box_behind h.name h.len rest) (ok_same e)
    by true true s t e = absurd cc
    by true false s t e =
        headed-sized head (take 4 (drop 4 head)) l s (ltb-false (box_size head) (header_len head) t) refl rest ∙ ap (λ (h : FileHeader). box_behind h.name h.len rest) (ok_same e)

-- the box behind a header that says it
pub boxed_header : (head : List ℕ) (r : Result FileHeader Failure) → length head ≡ header_len head → Answers (λ h. h) r (file_header broken_cr3 head)
    → IfOk r (λ h. (rest : List ℕ) → first_box (head ++ rest) ≡ box_behind h.name h.len rest)
boxed_header head (Ok h) l e = header-is head h l e
boxed_header head (Err e) l r = tt

header-wrong : (head : List ℕ) (o : Option Refusal) → length head ≡ header_len head → MatchOption o ⊥ (λ r. file_header broken_cr3 head ≡ Err r)
    → (o ≡ Some broken_cr3) × ((rest : List ℕ) → first_box (head ++ rest) ≡ Err broken_cr3)
header-wrong head None l r = absurd r
header-wrong head (Some d) l r = by (sizes_itself head) (ltb (box_size head) (header_len head)) refl refl r
  where
    by : (sizes small : Bool) → sizes_itself head ≡ sizes → ltb (box_size head) (header_len head) ≡ small → by_tests head sizes small ≡ Err d
        → (Some d ≡ Some broken_cr3) × ((rest : List ℕ) → first_box (head ++ rest) ≡ Err broken_cr3)
    by false small s t e = absurd cc
    by true true s t e = (cc, headed-wrong head l s (ltb-true (box_size head) (header_len head) t))
    by true false s t e = absurd cc

-- the same of a header that is wrong
pub wrong_header : (head : List ℕ) (r : Result FileHeader Failure) → length head ≡ header_len head → Answers (λ h. h) r (file_header broken_cr3 head)
    → IfErr r (λ e. (refusal_of e ≡ Some broken_cr3) × ((rest : List ℕ) → first_box (head ++ rest) ≡ Err broken_cr3))
wrong_header head (Ok h) l e = tt
wrong_header head (Err e) l r = header-wrong head (refusal_of e) l r
