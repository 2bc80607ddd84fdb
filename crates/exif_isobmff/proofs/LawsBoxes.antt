-- Boxes are read as their trees say, and all bytes in a box have a tree.
use Rattle.std.proofs.Common.{◌≡◌, ◌≢◌, ◌⊎◌, inl, inr, subst, ℕ, zero, suc, ◌+◌, ◌-◌, ◌<◌, ◌≤◌, Bool, true, false, cond, eqb, ltb, leb, List, [], ◌∷◌, ◌++◌, length, map, take, drop, Option, None, Some, Ok, Err, ap, sym, ◌∙◌, refl, arith, append_assoc, length-append, length-drop}
use Rattle.std.specs.List.{flat_map}
use Rattle.std.proofs.lemmas.Bool.{ne_eqb, eqb-true, eqb-false, lt-ltb, le-ltb, ltb-true, ltb-false, le-leb, leb-true}
use Rattle.std.proofs.lemmas.List.{take_at, drop_at, take-append-drop, length-take-le, drop-drop}
use Rattle.byteorder.specs.Endian.{big_number}
use Rattle.byteorder.specs.Numbers.{big_from-append, big_from-take}
use Rattle.exif_types.specs.Refusals.{Refusal, ◌>>=◌, Front}
use Rattle.exif_isobmff.specs.declared.kind.Kind.{Kind}
use Rattle.exif_isobmff.specs.declared.splitter.Header.{Header}
use Rattle.exif_isobmff.specs.HeifRefusals.{too_small, invalid_size}
use Rattle.exif_isobmff.specs.Kinds.{kind_of}
use Rattle.exif_isobmff.specs.Boxes.{Part, ended, before, and_then, whole_part, bytes_at, box_size, header_len, header_at, box_at, boxes, all_boxes, children}
use Rattle.exif_isobmff.specs.BoxGrammar.{BoxHeader, sized, large, to_end, print_header, type_of, said_size, IsHeader, BoxTree, print_box, IsBox, box_part, AreBoxes, NoBox, cut, cut_large, too_long, too_short, print_no_box, IsNoBox, no_box_refusal, Parent, filled, broken, BoxIsRead, IsABox, CountedAreRead, ParentIsRead, IsAParent}
use Rattle.exif_isobmff.proofs.SplitterBoxes.{all_boxes_end, all_boxes_more, box_shorter, ok_same, after}

-- ---- what the definition makes of the front of a text

-- the header at the front of a text, and what follows it
abbrev pub head_of : List ℕ → Header × List ℕ
head_of text = (record { kind = kind_of (take 4 (drop 4 text)); len = box_size text - header_len text }, drop (header_len text) text)

-- a box of this type
abbrev pub with_body : Kind → List ℕ × List ℕ → Front Part
with_body kind body = Ok (whole_part kind body.0, body.1)

-- the box behind a header
abbrev pub after_head : Header × List ℕ → Front Part
after_head header = bytes_at header.0.len header.1 >>= with_body header.0.kind

-- a header whose size is no less than its own is read
pub head-read : (text : List ℕ) → header_len text ≤ box_size text → header_at text ≡ Ok (head_of text)
unfolding header_at
head-read text h = ap (λ t. cond t (Err invalid_size) (Ok (head_of text))) (le-ltb (box_size text) (header_len text) h)

-- a box with a whole header
pub box-headed : (text : List ℕ) → header_len text ≤ length text → box_at text ≡ (header_at text >>= after_head)
unfolding box_at
box-headed text h = ap (λ t. cond t (header_at text >>= after_head) (Err too_small)) (le-leb (header_len text) (length text) h)

-- no whole header
pub box-cut : (text : List ℕ) → length text < header_len text → box_at text ≡ Err too_small
unfolding box_at
box-cut text h = ap (λ t. cond t (header_at text >>= after_head) (Err too_small)) (not_le (header_len text) (length text) h)
  where
    not_le : (a b : ℕ) → b < a → leb a b ≡ false
    not_le a b h = by (leb a b) refl
      where
        by : (t : Bool) → leb a b ≡ t → t ≡ false
        by true e = absurd (let k = leb-true a b e in omega arith)
        by false e = refl

-- a size under that of the header
box-wrong : (text : List ℕ) → header_len text ≤ length text → box_size text < header_len text → box_at text ≡ Err invalid_size
unfolding header_at
box-wrong text h k =
    box-headed text h ∙ ap (λ t. cond t (Err invalid_size) (Ok (head_of text)) >>= after_head) (lt-ltb (box_size text) (header_len text) k)

-- a body that is longer than what is there
box-over : (text : List ℕ) → header_len text ≤ length text → header_len text ≤ box_size text → length text < box_size text → box_at text ≡ Err too_small
box-over text h k l =
    box-headed text h
    ∙ ap (λ r. r >>= after_head) (head-read text k)
    ∙ ap (λ t. cond t (Err too_small) (Ok (take (box_size text - header_len text) (drop (header_len text) text), drop (box_size text - header_len text) (drop (header_len text) text))) >>= with_body (kind_of (take 4 (drop 4 text))))
    (lt-ltb (length (drop (header_len text) text)) (box_size text - header_len text) (omega (arith, length-drop (header_len text) text)))

-- bytes at the front are read
pub bytes-there : (body rest : List ℕ) → bytes_at (length body) (body ++ rest) ≡ Ok (body, rest)
bytes-there body rest =
    ap (λ t. cond t (Err too_small) (Ok (take (length body) (body ++ rest), drop (length body) (body ++ rest)))) (le-ltb (length (body ++ rest)) (length body) (omega (arith, length-append body rest)))
    ∙ ap (λ t. ok_pair t (drop (length body) (body ++ rest))) (take_at body rest (length body) refl)
    ∙ ap (λ t. ok_pair body t) (drop_at body rest (length body) refl)
  where
    ok_pair : List ℕ → List ℕ → Front (List ℕ)
    ok_pair a b = Ok (a, b)

-- a whole box
box-read : (text body rest : List ℕ) → header_len text ≤ length text → drop (header_len text) text ≡ body ++ rest → box_size text ≡ header_len text + length body
    → box_at text ≡ Ok (whole_part (kind_of (take 4 (drop 4 text))) body, rest)
box-read text body rest h e s =
    let n : box_size text - header_len text ≡ length body = omega arith in
    box-headed text h
    ∙ ap (λ r. r >>= after_head) (head-read text (omega arith))
    ∙ ap (λ t. bytes_at t (drop (header_len text) text) >>= with_body (kind_of (take 4 (drop 4 text)))) n
    ∙ ap (λ t. bytes_at (length body) t >>= with_body (kind_of (take 4 (drop 4 text)))) e
    ∙ ap (λ r. r >>= with_body (kind_of (take 4 (drop 4 text)))) (bytes-there body rest)

-- ---- headers

-- a header is read as its tree says
pub record Reads (h : BoxHeader) (text more : List ℕ) : Type 0 where
  pub len : header_len text ≡ length (print_header h)
  pub size : box_size text ≡ said_size h (length text)
  pub kind : take 4 (drop 4 text) ≡ type_of h
  pub behind : drop (header_len text) text ≡ more

-- a header of two texts of 4 bytes
abbrev size_by : ℕ → List ℕ → ℕ
size_by n text = cond (eqb n 0) (length text) (cond (eqb n 1) (big_number 8 (drop 8 text)) n)

-- the number in the first 4 bytes
pub two-number : (size type more : List ℕ) → length size ≡ 4 → big_number 4 (size ++ (type ++ more)) ≡ big_number 4 size
two-number size type more h = big_from-append 4 size (type ++ more) (omega arith)

two-kind : (size type more : List ℕ) → length size ≡ 4 → length type ≡ 4 → take 4 (drop 4 (size ++ (type ++ more))) ≡ type
two-kind size type more h k = ap (take 4) (drop_at size (type ++ more) 4 h) ∙ take_at type more 4 k

two-behind : (size type more : List ℕ) → length size ≡ 4 → length type ≡ 4 → drop 8 (size ++ (type ++ more)) ≡ more
two-behind size type more h k =
    sym (drop-drop 4 4 (size ++ (type ++ more))) ∙ ap (drop 4) (drop_at size (type ++ more) 4 h) ∙ drop_at type more 4 k

short-reads : (h : BoxHeader) (size type more : List ℕ) (n : ℕ) → length size ≡ 4 → length type ≡ 4 → big_number 4 size ≡ n → n ≢ 1
    → length (print_header h) ≡ 8 → type ≡ type_of h → size_by n (size ++ (type ++ more)) ≡ said_size h (length (size ++ (type ++ more)))
    → Reads h (size ++ (type ++ more)) more
short-reads h size type more n sl tl e ne len kind said =
    let text : List ℕ = size ++ (type ++ more) in
    let number : big_number 4 (size ++ (type ++ more)) ≡ n = two-number size type more sl ∙ e in
    let eight : header_len (size ++ (type ++ more)) ≡ 8 = ap (λ m. cond (eqb m 1) 16 8) number ∙ ap (λ t. cond t 16 8) (ne_eqb n 1 ne) in
    record {
      len = eight ∙ sym len;
      size = ap (λ m. size_by m text) number ∙ said;
      kind = two-kind size type more sl tl ∙ kind;
      behind = ap (λ m. drop m text) eight ∙ two-behind size type more sl tl;
    }

large-reads : (one type size more : List ℕ) → length one ≡ 4 → length type ≡ 4 → length size ≡ 8 → big_number 4 one ≡ 1
    → Reads (large one type size) (one ++ (type ++ (size ++ more))) more
large-reads one type size more ol tl sl e =
    let text : List ℕ = one ++ (type ++ (size ++ more)) in
    let number : big_number 4 (one ++ (type ++ (size ++ more))) ≡ 1 = two-number one type (size ++ more) ol ∙ e in
    let sixteen : header_len (one ++ (type ++ (size ++ more))) ≡ 16 = ap (λ m. cond (eqb m 1) 16 8) number in
    let there : drop 8 (one ++ (type ++ (size ++ more))) ≡ size ++ more = two-behind one type (size ++ more) ol tl in
    record {
      len = sixteen ∙ omega (arith, length-append one (type ++ size), length-append type size);
      size = ap (λ m. size_by m text) number ∙ ap (big_number 8) there ∙ big_from-append 8 size more (omega arith);
      kind = two-kind one type (size ++ more) ol tl;
      behind = ap (λ m. drop m text) sixteen ∙ sym (drop-drop 8 8 text) ∙ ap (drop 8) there ∙ drop_at size more 8 sl;
    }

-- a valid header is read
pub header-reads : (h : BoxHeader) (more : List ℕ) → IsHeader h → Reads h (print_header h ++ more) more
header-reads (sized size type) more h =
    let ne : big_number 4 size ≢ 1 = λ e. omega (arith, h.2) in
    subst (λ t. Reads (sized size type) t more) (sym (append_assoc size type more))
    (short-reads (sized size type) size type more (big_number 4 size) h.0 h.1 refl ne (omega (arith, h.0, h.1, length-append size type)) refl
    (ap (λ t. cond t (length (size ++ (type ++ more))) (cond (eqb (big_number 4 size) 1) (big_number 8 (drop 8 (size ++ (type ++ more)))) (big_number 4 size))) (ne_eqb (big_number 4 size) 0 (λ e. omega (arith, h.2)))
    ∙ ap (λ t. cond t (big_number 8 (drop 8 (size ++ (type ++ more)))) (big_number 4 size)) (ne_eqb (big_number 4 size) 1 ne)))
header-reads (large one type size) more h =
    subst (λ t. Reads (large one type size) t more) (sym (append_assoc one (type ++ size) more ∙ ap (λ t. one ++ t) (append_assoc type size more)))
    (large-reads one type size more h.0 h.1 h.2 h.3)
header-reads (to_end size type) more h =
    subst (λ t. Reads (to_end size type) t more) (sym (append_assoc size type more))
    (short-reads (to_end size type) size type more 0 h.0 h.1 h.2 (λ e. omega arith) (omega (arith, h.0, h.1, length-append size type)) refl refl)

-- ---- a box is read as its tree says

box_is_read_at : (h : BoxHeader) (body rest : List ℕ) → IsHeader h → said_size h (length (print_header h ++ (body ++ rest))) ≡ length (print_header h ++ body)
    → box_at (print_header h ++ (body ++ rest)) ≡ Ok (whole_part (kind_of (type_of h)) body, rest)
box_is_read_at h body rest is said =
    let r = header-reads h (body ++ rest) is in
    let text : List ℕ = print_header h ++ (body ++ rest) in
    let total : length (print_header h ++ (body ++ rest)) ≡ length (print_header h) + length (body ++ rest) = length-append (print_header h) (body ++ rest) in
    let size : box_size (print_header h ++ (body ++ rest)) ≡ header_len (print_header h ++ (body ++ rest)) + length body =
    r.size ∙ said ∙ length-append (print_header h) body ∙ ap (λ n. n + length body) (sym r.len) in
    let len = r.len in
    box-read text body rest (omega arith) r.behind size ∙ ap (λ t. read_as (kind_of t) body rest) r.kind
  where
    read_as : Kind → List ℕ → List ℕ → Front Part
    read_as kind body rest = Ok (whole_part kind body, rest)

-- a valid box is read as its tree says
pub box_is_read : (b : BoxTree) (rest : List ℕ) → BoxIsRead b rest
box_is_read b rest h =
    let e : print_box b ++ rest ≡ print_header b.header ++ (b.body ++ rest) = append_assoc (print_header b.header) b.body rest in
    ap box_at e ∙ box_is_read_at b.header b.body rest h.0 (ap (λ (t : List ℕ). said_size b.header (length t)) (sym e) ∙ h.1)

-- bytes that begin no box are refused as their tree says
pub no_box_is_refused : (end : NoBox) → IsNoBox end → box_at (print_no_box end) ≡ Err (no_box_refusal end)
no_box_is_refused (cut bytes) h = box-cut bytes (let k = least (eqb (big_number 4 bytes) 1) in omega (arith, h.1))
  where
    least : (t : Bool) → 8 ≤ cond t 16 8
    least true = omega arith
    least false = omega arith
no_box_is_refused (cut_large one type bytes) h =
    let number : big_number 4 (one ++ (type ++ bytes)) ≡ 1 = two-number one type bytes h.0 ∙ h.2 in
    let sixteen : header_len (one ++ (type ++ bytes)) ≡ 16 = ap (λ m. cond (eqb m 1) 16 8) number in
    box-cut (one ++ (type ++ bytes)) (omega (arith, h.0, h.1, h.3, length-append one (type ++ bytes), length-append type bytes))
no_box_is_refused (too_long head bytes) h =
    let r = header-reads head bytes h.0 in
    let total : length (print_header head ++ bytes) ≡ length (print_header head) + length bytes = length-append (print_header head) bytes in
    let len = r.len in
    let size = r.size in
    box-over (print_header head ++ bytes) (omega arith) (omega (arith, h.1)) (omega (arith, h.1))
no_box_is_refused (too_short head bytes) h =
    let r = header-reads head bytes h.0 in
    let total : length (print_header head ++ bytes) ≡ length (print_header head) + length bytes = length-append (print_header head) bytes in
    let len = r.len in
    let size = r.size in
    box-wrong (print_header head ++ bytes) (omega arith) (omega (arith, h.1))

-- ---- all bytes have a tree

record HeaderOf (text : List ℕ) : Type 0 where
  header : BoxHeader
  is : IsHeader header
  whole : print_header header ++ drop (header_len text) text ≡ text

four-number : (text : List ℕ) → big_number 4 (take 4 text) ≡ big_number 4 text
four-number text = big_from-take 0 4 4 text (omega arith)

-- two texts of four bytes and what follows them are the text
pub eight-split : (text : List ℕ) → take 4 text ++ (take 4 (drop 4 text) ++ drop 8 text) ≡ text
eight-split text =
    ap (λ t. take 4 text ++ (take 4 (drop 4 text) ++ t)) (sym (drop-drop 4 4 text))
    ∙ ap (λ t. take 4 text ++ t) (take-append-drop 4 (drop 4 text)) ∙ take-append-drop 4 text

short-whole : (text : List ℕ) → header_len text ≡ 8 → (take 4 text ++ take 4 (drop 4 text)) ++ drop (header_len text) text ≡ text
short-whole text e =
    ap (λ n. (take 4 text ++ take 4 (drop 4 text)) ++ drop n text) e
    ∙ append_assoc (take 4 text) (take 4 (drop 4 text)) (drop 8 text) ∙ eight-split text

large-whole : (text : List ℕ) → header_len text ≡ 16 → (take 4 text ++ (take 4 (drop 4 text) ++ take 8 (drop 8 text))) ++ drop (header_len text) text ≡ text
large-whole text e =
    ap (λ n. (take 4 text ++ (take 4 (drop 4 text) ++ take 8 (drop 8 text))) ++ drop n text) e
    ∙ append_assoc (take 4 text) (take 4 (drop 4 text) ++ take 8 (drop 8 text)) (drop 16 text)
    ∙ ap (λ t. take 4 text ++ t) (append_assoc (take 4 (drop 4 text)) (take 8 (drop 8 text)) (drop 16 text))
    ∙ ap (λ t. take 4 text ++ (take 4 (drop 4 text) ++ (take 8 (drop 8 text) ++ t))) (sym (drop-drop 8 8 text))
    ∙ ap (λ t. take 4 text ++ (take 4 (drop 4 text) ++ t)) (take-append-drop 8 (drop 8 text))
    ∙ eight-split text

header-of : (text : List ℕ) → 8 ≤ length text → header_len text ≤ length text → HeaderOf text
header-of text long h = by-zero (eqb (big_number 4 text) 0) refl
  where
    first : length (take 4 text) ≡ 4
    first = length-take-le 4 text (omega arith)

    second : length (take 4 (drop 4 text)) ≡ 4
    second = length-take-le 4 (drop 4 text) (omega (arith, length-drop 4 text))

    as-short : big_number 4 text ≢ 1 → header_len text ≡ 8
    as-short ne = ap (λ t. cond t 16 8) (ne_eqb (big_number 4 text) 1 ne)

    as-large : big_number 4 text ≡ 1 → header_len text ≡ 16
    as-large e = ap (λ n. cond (eqb n 1) 16 8) e

    by-one : (t : Bool) → eqb (big_number 4 text) 1 ≡ t → big_number 4 text ≢ 0 → HeaderOf text
    by-one true e z =
        let one = eqb-true (big_number 4 text) 1 e in
        let wide = as-large one in
        record {
          header = large (take 4 text) (take 4 (drop 4 text)) (take 8 (drop 8 text));
          is = (first, second, length-take-le 8 (drop 8 text) (omega (arith, length-drop 8 text)), four-number text ∙ one);
          whole = large-whole text wide;
        }
    by-one false e z =
        let one = eqb-false (big_number 4 text) 1 e in
        let same = four-number text in
        record {
          header = sized (take 4 text) (take 4 (drop 4 text));
          is = (first, second, omega (arith, same));
          whole = short-whole text (as-short one);
        }

    by-zero : (t : Bool) → eqb (big_number 4 text) 0 ≡ t → HeaderOf text
    by-zero true e =
        let zero-is = eqb-true (big_number 4 text) 0 e in
        record {
          header = to_end (take 4 text) (take 4 (drop 4 text));
          is = (first, second, four-number text ∙ zero-is);
          whole = short-whole text (as-short (λ o. omega arith));
        }
    by-zero false e = by-one (eqb (big_number 4 text) 1) refl (eqb-false (big_number 4 text) 0 e)

-- a box, and the bytes behind it
pub record Boxed (text : List ℕ) : Type 0 where
  pub tree : BoxTree
  pub rest : List ℕ
  pub is : IsBox tree rest
  pub whole : print_box tree ++ rest ≡ text

-- the tree of bytes that begin no box
pub record Unboxed (text : List ℕ) : Type 0 where
  pub end : NoBox
  pub is : IsNoBox end
  pub whole : print_no_box end ≡ text

boxed-at : (head : BoxHeader) (more : List ℕ) → IsHeader head → length (print_header head) ≤ said_size head (length (print_header head ++ more))
    → said_size head (length (print_header head ++ more)) ≤ length (print_header head ++ more) → Boxed (print_header head ++ more)
boxed-at head more is least most =
    let total : length (print_header head ++ more) ≡ length (print_header head) + length more = length-append (print_header head) more in
    let n = said_size head (length (print_header head ++ more)) - length (print_header head) in
    let body : List ℕ = take n more in
    let len : length (take n more) ≡ n = length-take-le n more (omega arith) in
    let whole : (print_header head ++ take n more) ++ drop n more ≡ print_header head ++ more = append_assoc (print_header head) (take n more) (drop n more) ∙ ap (λ t. print_header head ++ t) (take-append-drop n more) in
    record {
      tree = record { header = head; body = body };
      rest = drop n more;
      is = (is, ap (λ (t : List ℕ). said_size head (length t)) whole ∙ omega (arith, length-append (print_header head) (take n more)));
      whole = whole;
    }

at-header : (head : BoxHeader) (more : List ℕ) → IsHeader head → Unboxed (print_header head ++ more) ⊎ Boxed (print_header head ++ more)
at-header head more is = by-least (ltb (said_size head (length (print_header head ++ more))) (length (print_header head))) refl
  where
    by-most : (t : Bool) → ltb (length (print_header head ++ more)) (said_size head (length (print_header head ++ more))) ≡ t
        → length (print_header head) ≤ said_size head (length (print_header head ++ more)) → Unboxed (print_header head ++ more) ⊎ Boxed (print_header head ++ more)
    by-most true e least = inl (record { end = too_long head more; is = (is, ltb-true (length (print_header head ++ more)) (said_size head (length (print_header head ++ more))) e); whole = refl })
    by-most false e least = inr (boxed-at head more is least (ltb-false (length (print_header head ++ more)) (said_size head (length (print_header head ++ more))) e))

    by-least : (t : Bool) → ltb (said_size head (length (print_header head ++ more))) (length (print_header head)) ≡ t → Unboxed (print_header head ++ more) ⊎ Boxed (print_header head ++ more)
    by-least true e = inl (record { end = too_short head more; is = (is, ltb-true (said_size head (length (print_header head ++ more))) (length (print_header head)) e); whole = refl })
    by-least false e = by-most (ltb (length (print_header head ++ more)) (said_size head (length (print_header head ++ more)))) refl (ltb-false (said_size head (length (print_header head ++ more))) (length (print_header head)) e)

-- bytes begin a box or none
pub boxed_or_not : (text : List ℕ) → 0 < length text → Unboxed text ⊎ Boxed text
boxed_or_not text some = by-eight (ltb (length text) 8) refl
  where
    cut-header : (t : Bool) → eqb (big_number 4 text) 1 ≡ t → 8 ≤ length text → length text < cond t 16 8 → Unboxed text
    cut-header true e long h = record {
      end = cut_large (take 4 text) (take 4 (drop 4 text)) (drop 8 text);
      is = (
        length-take-le 4 text (omega arith),
        length-take-le 4 (drop 4 text) (omega (arith, length-drop 4 text)),
        four-number text ∙ eqb-true (big_number 4 text) 1 e,
        omega (arith, length-drop 8 text),
      );
      whole = eight-split text;
    }
    cut-header false e long h = absurd (omega arith)

    by-header : (t : Bool) → ltb (length text) (header_len text) ≡ t → 8 ≤ length text → Unboxed text ⊎ Boxed text
    by-header true e long = inl (cut-header (eqb (big_number 4 text) 1) refl long (ltb-true (length text) (header_len text) e))
    by-header false e long =
        let h = header-of text long (ltb-false (length text) (header_len text) e) in
        let P : List ℕ → Type 0 = λ t. Unboxed t ⊎ Boxed t in
        subst P h.whole (at-header h.header (drop (header_len text) text) h.is)

    by-eight : (t : Bool) → ltb (length text) 8 ≡ t → Unboxed text ⊎ Boxed text
    by-eight true e = inl (record { end = cut text; is = (some, ltb-true (length text) 8 e); whole = refl })
    by-eight false e = by-header (ltb (length text) (header_len text)) refl (ltb-false (length text) 8 e)

empty-no_box : (p : Part) (rest : List ℕ) → box_at [] ≡ Ok (p, rest) → ⊥
empty-no_box p rest e =
    let none : Front Part = Err too_small in
    let both : none ≡ Ok (p, rest) = sym (box-cut [] (omega arith)) ∙ e in
    cc

abbrev part_of : Part × List ℕ → Part
part_of x = x.0

pair-same : (p q : Part) (xs ys : List ℕ) → let a : Front Part = Ok (p, xs) in a ≡ Ok (q, ys) → (p ≡ q) × (xs ≡ ys)
pair-same p q xs ys h = let same = ok_same h in (ap part_of same, ap after same)

-- what is read is a box
pub is_a_box : (text : List ℕ) (p : Part) (rest : List ℕ) → IsABox text p rest
is_a_box [] p rest e = absurd (empty-no_box p rest e)
is_a_box (b ∷ text) p rest e = of (boxed_or_not (b ∷ text) (omega arith))
  where
    boxed : (t : Boxed (b ∷ text)) → (box_part t.tree ≡ p) × (t.rest ≡ rest) → (c : BoxTree) × IsBox c rest × (box_part c ≡ p) × (b ∷ text ≡ print_box c ++ rest)
    boxed t same = (t.tree, subst (λ r. IsBox t.tree r) same.1 t.is, same.0, sym t.whole ∙ ap (λ r. print_box t.tree ++ r) same.1)

    of : Unboxed (b ∷ text) ⊎ Boxed (b ∷ text) → (c : BoxTree) × IsBox c rest × (box_part c ≡ p) × (b ∷ text ≡ print_box c ++ rest)
    of (inl u) = let r : Front Part = Err (no_box_refusal u.end) in let k : r ≡ Ok (p, rest) = sym (no_box_is_refused u.end u.is) ∙ ap box_at u.whole ∙ e in absurd (cc)
    of (inr t) = boxed t (pair-same (box_part t.tree) p t.rest rest (sym (box_is_read t.tree t.rest t.is) ∙ ap box_at t.whole ∙ e))

-- ---- boxes one after the other

-- the first box of those that are counted
pub counted_more : (b : BoxTree) (n : ℕ) (text rest : List ℕ) → box_at text ≡ Ok (box_part b, rest) → boxes (suc n) text ≡ before (box_part b) (boxes n rest)
unfolding boxes
counted_more b n text rest e = ap (λ r. and_then r (boxes n)) e

-- valid boxes are read, as many as are counted
pub counted_are_read : (bs : List BoxTree) (rest : List ℕ) → CountedAreRead bs rest
unfolding boxes
counted_are_read [] rest h = refl
counted_are_read (b ∷ bs) rest h =
    ap (boxes (suc (length bs))) (append_assoc (print_box b) (flat_map print_box bs) rest)
    ∙ counted_more b (length bs) (print_box b ++ (flat_map print_box bs ++ rest)) (flat_map print_box bs ++ rest) (box_is_read b (flat_map print_box bs ++ rest) h.0)
    ∙ ap (before (box_part b)) (counted_are_read bs rest h.1)

-- a header has 8 bytes or more
pub header-some : (h : BoxHeader) → IsHeader h → 8 ≤ length (print_header h)
header-some (sized size type) h = omega (arith, h.0, h.1, length-append size type)
header-some (large one type size) h = omega (arith, h.0, h.1, length-append one (type ++ size), length-append type size)
header-some (to_end size type) h = omega (arith, h.0, h.1, length-append size type)

children-more : (b : BoxTree) (rest : List ℕ) → IsBox b rest → children (print_box b ++ rest) ≡ before (box_part b) (children rest)
children-more b rest h =
    let some = header-some b.header h.0 in
    all_boxes_more box_at box_shorter (print_box b ++ rest) (omega (arith, length-append (print_box b) rest, length-append (print_header b.header) b.body))
    ∙ ap (λ r. and_then r (all_boxes box_at)) (box_is_read b rest h)

children-boxes : (bs : List BoxTree) (rest : List ℕ) (fault : Option Refusal) → AreBoxes bs rest → children rest ≡ record { whole = []; fault = fault }
    → children (flat_map print_box bs ++ rest) ≡ record { whole = map box_part bs; fault = fault }
children-boxes [] rest fault h e = e
children-boxes (b ∷ bs) rest fault h e =
    ap children (append_assoc (print_box b) (flat_map print_box bs) rest)
    ∙ children-more b (flat_map print_box bs ++ rest) h.0
    ∙ ap (before (box_part b)) (children-boxes bs rest fault h.1 e)

-- bytes that begin no box are some
pub no_box-some : (end : NoBox) → IsNoBox end → 0 < length (print_no_box end)
no_box-some (cut bytes) h = h.0
no_box-some (cut_large one type bytes) h = omega (arith, h.0, length-append one (type ++ bytes))
no_box-some (too_long head bytes) h = let some = header-some head h.0 in omega (arith, length-append (print_header head) bytes)
no_box-some (too_short head bytes) h = let some = header-some head h.0 in omega (arith, length-append (print_header head) bytes)

children-broken : (end : NoBox) → IsNoBox end → children (print_no_box end) ≡ ended (no_box_refusal end)
children-broken end h =
    all_boxes_more box_at box_shorter (print_no_box end) (no_box-some end h) ∙ ap (λ r. and_then r (all_boxes box_at)) (no_box_is_refused end h)

-- what is in a box is read as its tree says
pub parent_is_read : (p : Parent) → ParentIsRead p
parent_is_read (filled bs) h = children-boxes bs [] None h (all_boxes_end box_at [] refl)
parent_is_read (broken bs end) h = children-boxes bs (print_no_box end) (Some (no_box_refusal end)) h.0 (children-broken end h.1)

parent-boxed : (text : List ℕ) (b : Boxed text) → IsAParent b.rest → IsAParent text
parent-boxed text b (filled bs, is, whole) = (
  filled (b.tree ∷ bs),
  (subst (λ r. IsBox b.tree r) (sym whole) b.is, is),
  append_assoc (print_box b.tree) (flat_map print_box bs) [] ∙ ap (λ r. print_box b.tree ++ r) whole ∙ b.whole,
)
parent-boxed text b (broken bs end, is, whole) = (
  broken (b.tree ∷ bs) end,
  ((subst (λ r. IsBox b.tree r) (sym whole) b.is, is.0), is.1),
  append_assoc (print_box b.tree) (flat_map print_box bs) (print_no_box end) ∙ ap (λ r. print_box b.tree ++ r) whole ∙ b.whole,
)

-- a box has a byte
pub boxed-shorter : (text : List ℕ) (b : Boxed text) → length b.rest < length text
boxed-shorter text b =
    let some = header-some b.tree.header b.is.0 in
    let total : length (print_box b.tree ++ b.rest) ≡ length text = ap (λ (t : List ℕ). length t) b.whole in
    omega (arith, length-append (print_box b.tree) b.rest, length-append (print_header b.tree.header) b.tree.body)

parent-within : (n : ℕ) (text : List ℕ) → length text < n → IsAParent text
parent-within zero text h = absurd (omega arith)
parent-within (suc n) [] h = (filled [], tt, refl)
parent-within (suc n) (b ∷ text) h = first n (b ∷ text) h (boxed_or_not (b ∷ text) (omega arith)) (parent-within n)
  where
    first : (n : ℕ) (text : List ℕ) → length text < suc n → Unboxed text ⊎ Boxed text → ((rest : List ℕ) → length rest < n → IsAParent rest) → IsAParent text
    first n text h (inl u) ih = (broken [] u.end, (tt, u.is), u.whole)
    first n text h (inr b) ih = parent-boxed text b (ih b.rest (let lt = boxed-shorter text b in omega arith))

-- all bytes are those of boxes, and of bytes that begin none
pub is_a_parent : (bytes : List ℕ) → IsAParent bytes
is_a_parent bytes = parent-within (suc (length bytes)) bytes (omega arith)
