-- All bytes are those of a JPEG XL file's tree.
use Rattle.std.proofs.Common.{◌≡◌, ◌≢◌, ◌⊎◌, inl, inr, subst, ℕ, zero, suc, ◌+◌, ◌-◌, ◌<◌, ◌≤◌, Bool, true, false, eqb, ltb, List, [], ◌∷◌, ◌++◌, length, take, drop, codes, ap, sym, ◌∙◌, refl, arith, append_assoc, append-nil, length-drop}
use Rattle.std.specs.List.{flat_map}
use Rattle.std.specs.Str.{bytes_eq}
use Rattle.std.proofs.lemmas.Bool.{eqb-true, eqb-false, ltb-true, ltb-false}
use Rattle.std.proofs.lemmas.List.{take-append-drop, length-take-le, drop-drop}
use Rattle.byteorder.specs.Endian.{big_number}
use Rattle.byteorder.specs.Numbers.{big_from-take}
use Rattle.exif_formats.specs.Jxl.{before_tiff, max_boxes, signature, begins_jxl, begins_codestream}
use Rattle.exif_formats.specs.JxlGrammar.{Header, print_header, Gives, IsOpen, Holds, BoxTree, print_box, IsOtherBody, IsOther, AreOthers, IsShortBody, BoxesEnd, exif, compressed, last, used_up, short_body, too_small, cut_header, cut_large, cut_body, too_many, print_end, IsEnd, container, codestream, short, foreign, IsNoCodestream, IsAFile}
use Rattle.exif_formats.proofs.LawsJxl.{unlike, alike, print-header, same-end, code-split, signature-split}

record ExifParts (name body : List ℕ) : Type 0 where
  offset : List ℕ
  before : List ℕ
  tiff : List ℕ
  whole : offset ++ (before ++ tiff) ≡ body
  name_is : name ≡ codes "Exif"
  offset_len : length offset ≡ 4
  counts : big_number 4 offset ≡ length before

record PackedParts (name body : List ℕ) : Type 0 where
  packed : List ℕ
  whole : codes "Exif" ++ packed ≡ body
  name_is : name ≡ codes "brob"

abbrev BodyKind : List ℕ → List ℕ → Type 0
BodyKind name body = ExifParts name body ⊎ (PackedParts name body ⊎ (IsShortBody name body ⊎ IsOtherBody name body))

exif-kind : (name body : List ℕ) → name ≡ codes "Exif" → BodyKind name body
exif-kind name body e = by (ltb (length body) (before_tiff body)) refl
  where
    by : (t : Bool) → ltb (length body) (before_tiff body) ≡ t → BodyKind name body
    by true l = inr (inr (inl (inl (e, ltb-true (length body) (before_tiff body) l))))
    by false l =
        let n = big_number 4 body in
        let fits : 4 + big_number 4 body ≤ length body = ltb-false (length body) (before_tiff body) l in
        let more : List ℕ = drop 4 body in
        let before-len : length (take (big_number 4 body) (drop 4 body)) ≡ big_number 4 body = length-take-le (big_number 4 body) (drop 4 body) (omega (arith, length-drop 4 body)) in
        inl (record {
          offset = take 4 body;
          before = take n more;
          tiff = drop n more;
          whole = ap (λ t. take 4 body ++ t) (take-append-drop n more) ∙ take-append-drop 4 body;
          name_is = e;
          offset_len = length-take-le 4 body (omega arith);
          counts = big_from-take 0 4 4 body (omega arith) ∙ sym before-len;
        })

brotli-kind : (name body : List ℕ) → name ≡ codes "brob" → name ≢ codes "Exif" → BodyKind name body
brotli-kind name body e n = by (ltb (length body) 4) refl
  where
    held : (t : Bool) → bytes_eq (take 4 body) (codes "Exif") ≡ t → 4 ≤ length body → BodyKind name body
    held true k l = inr (inl (record {
      packed = drop 4 body;
      whole = ap (λ t. t ++ drop 4 body) (sym (alike (take 4 body) (codes "Exif") k)) ∙ take-append-drop 4 body;
      name_is = e;
    }))
    held false k l = inr (inr (inr (n, λ _. (l, unlike (take 4 body) (codes "Exif") k))))

    by : (t : Bool) → ltb (length body) 4 ≡ t → BodyKind name body
    by true l = inr (inr (inl (inr (e, ltb-true (length body) 4 l))))
    by false l = held (bytes_eq (take 4 body) (codes "Exif")) refl (ltb-false (length body) 4 l)

body-kind : (name body : List ℕ) → BodyKind name body
body-kind name body = by (bytes_eq name (codes "Exif")) refl
  where
    others : (t : Bool) → bytes_eq name (codes "brob") ≡ t → name ≢ codes "Exif" → BodyKind name body
    others true e n = brotli-kind name body (alike name (codes "brob") e) n
    others false e n = inr (inr (inr (n, λ is. absurd (unlike name (codes "brob") e is))))

    by : (t : Bool) → bytes_eq name (codes "Exif") ≡ t → BodyKind name body
    by true e = exif-kind name body (alike name (codes "Exif") e)
    by false e = others (bytes_eq name (codes "brob")) refl (unlike name (codes "Exif") e)

record Ended (bytes : List ℕ) : Type 0 where
  end : BoxesEnd
  is : (n most : ℕ) → n < most → IsEnd n most end
  whole : print_end end ≡ bytes

record Passed (bytes : List ℕ) : Type 0 where
  box : BoxTree
  rest : List ℕ
  is : IsOther box
  whole : print_box box ++ rest ≡ bytes

-- a body that ends the boxes
exif-ends : (h : Header) (body rest : List ℕ) → Holds h (length body) rest → ExifParts h.name body → Ended (print_header h ++ (body ++ rest))
exif-ends h body rest holds p =
    let P : List ℕ → Type 0 = λ t. Holds h (length t) rest in
    record {
      end = exif h p.offset p.before p.tiff rest;
      is = λ n most l. (l, subst P (sym p.whole) holds, p.name_is, p.offset_len, p.counts);
      whole = ap (λ t. print_header h ++ (t ++ rest)) p.whole;
    }

packed-ends : (h : Header) (body rest : List ℕ) → Holds h (length body) rest → PackedParts h.name body → Ended (print_header h ++ (body ++ rest))
packed-ends h body rest holds p =
    let P : List ℕ → Type 0 = λ t. Holds h (length t) rest in
    record {
      end = compressed h p.packed rest;
      is = λ n most l. (l, subst P (sym p.whole) holds, p.name_is);
      whole = ap (λ t. print_header h ++ (t ++ rest)) p.whole;
    }

short-ends : (h : Header) (body rest : List ℕ) → Holds h (length body) rest → IsShortBody h.name body → Ended (print_header h ++ (body ++ rest))
short-ends h body rest holds p = record { end = short_body h body rest; is = λ n most l. (l, holds, p); whole = refl }

closed : (h : Header) (body rest : List ℕ) → Gives h (length body) → BodyKind h.name body → Ended (print_header h ++ (body ++ rest)) ⊎ Passed (print_header h ++ (body ++ rest))
closed h body rest g (inl p) = inl (exif-ends h body rest (inl g) p)
closed h body rest g (inr (inl p)) = inl (packed-ends h body rest (inl g) p)
closed h body rest g (inr (inr (inl p))) = inl (short-ends h body rest (inl g) p)
closed h body rest g (inr (inr (inr p))) = inr (record {
  box = record { header = h; body = body };
  rest = rest;
  is = (g, p);
  whole = append_assoc (print_header h) body rest;
})

opened : (h : Header) (body : List ℕ) → IsOpen h → BodyKind h.name body → Ended (print_header h ++ body)
opened h body o k = by k
  where
    by : BodyKind h.name body → Ended (print_header h ++ body)
    by (inl p) = subst (λ t. Ended (print_header h ++ t)) (append-nil body) (exif-ends h body [] (inr (o, refl)) p)
    by (inr (inl p)) = subst (λ t. Ended (print_header h ++ t)) (append-nil body) (packed-ends h body [] (inr (o, refl)) p)
    by (inr (inr (inl p))) = subst (λ t. Ended (print_header h ++ t)) (append-nil body) (short-ends h body [] (inr (o, refl)) p)
    by (inr (inr (inr p))) = record { end = last h body; is = λ n most l. (l, o, p); whole = refl }

abbrev Sorted : List ℕ → Type 0
Sorted bytes = Ended bytes ⊎ Passed bytes

sized : (h : Header) (len : ℕ) (more : List ℕ) → Gives h len → Sorted (print_header h ++ more)
sized h len more g = by (ltb (length more) len) refl
  where
    by : (t : Bool) → ltb (length more) len ≡ t → Sorted (print_header h ++ more)
    by true e = inl (record { end = cut_body h len more; is = λ n most l. (l, g, ltb-true (length more) len e); whole = refl })
    by false e =
        let fits = ltb-false (length more) len e in
        let P : ℕ → Type 0 = λ n. Gives h n in
        let Q : List ℕ → Type 0 = λ t. Sorted (print_header h ++ t) in
        subst Q (take-append-drop len more)
        (closed h (take len more) (drop len more) (subst P (sym (length-take-le len more fits)) g) (body-kind h.name (take len more)))

large : (size name more : List ℕ) → length size ≡ 4 → length name ≡ 4 → big_number 4 size ≡ 1 → Sorted (size ++ (name ++ more))
large size name more sl nl one = by (ltb (length more) 8) refl
  where
    given : (front rest : List ℕ) → length front ≡ 8 → (t : Bool) → ltb (big_number 8 front) 16 ≡ t → Sorted (print_header (record { size = size; name = name; large = front }) ++ rest)
    given front rest l true e =
        let h : Header = record { size = size; name = name; large = front } in
        inl (record {
          end = too_small h rest;
          is = λ n most k. (k, inr (record { size_len = sl; name_len = nl }, one, l, ltb-true (big_number 8 front) 16 e));
          whole = refl;
        })
    given front rest l false e =
        let h : Header = record { size = size; name = name; large = front } in
        let least = ltb-false (big_number 8 front) 16 e in
        sized h (big_number 8 front - 16) rest (inr (record {
          header = record { size_len = sl; name_len = nl };
          one = one;
          large_len = l;
          size_is = omega arith;
        }))

    by : (t : Bool) → ltb (length more) 8 ≡ t → Sorted (size ++ (name ++ more))
    by true e =
        let h : Header = record { size = size; name = name; large = more } in
        inl (record {
          end = cut_large h;
          is = λ n most k. (k, record { size_len = sl; name_len = nl }, one, ltb-true (length more) 8 e);
          whole = refl;
        })
    by false e =
        let l = length-take-le 8 more (ltb-false (length more) 8 e) in
        subst Sorted
        (print-header (record { size = size; name = name; large = take 8 more }) (drop 8 more) ∙ ap (λ t. size ++ (name ++ t)) (take-append-drop 8 more))
        (given (take 8 more) (drop 8 more) l (ltb (big_number 8 (take 8 more)) 16) refl)

headed : (size name more : List ℕ) → length size ≡ 4 → length name ≡ 4 → Sorted (size ++ (name ++ more))
headed size name more sl nl = by (eqb (big_number 4 size) 0) refl
  where
    small : (t : Bool) → ltb (big_number 4 size) 8 ≡ t → 1 < big_number 4 size → Sorted (print_header (record { size = size; name = name; large = [] }) ++ more)
    small true e k = inl (record {
      end = too_small (record { size = size; name = name; large = [] }) more;
      is = λ n most l. (l, inl (record { size_len = sl; name_len = nl }, refl, k, ltb-true (big_number 4 size) 8 e));
      whole = refl;
    })
    small false e k =
        let least = ltb-false (big_number 4 size) 8 e in
        sized (record { size = size; name = name; large = [] }) (big_number 4 size - 8) more (inl (record {
          header = record { size_len = sl; name_len = nl };
          none = refl;
          size_is = omega arith;
        }))

    unzero : (t : Bool) → eqb (big_number 4 size) 1 ≡ t → big_number 4 size ≢ 0 → Sorted (size ++ (name ++ more))
    unzero true e z = large size name more sl nl (eqb-true (big_number 4 size) 1 e)
    unzero false e z =
        let o : big_number 4 size ≢ 1 = eqb-false (big_number 4 size) 1 e in
        subst Sorted (print-header (record { size = size; name = name; large = [] }) more) (small (ltb (big_number 4 size) 8) refl (omega arith))

    by : (t : Bool) → eqb (big_number 4 size) 0 ≡ t → Sorted (size ++ (name ++ more))
    by true e =
        let h : Header = record { size = size; name = name; large = [] } in
        subst Sorted (print-header h more)
        (inl (opened h more (record { header = record { size_len = sl; name_len = nl }; none = refl; zero = eqb-true (big_number 4 size) 0 e }) (body-kind name more)))
    by false e = unzero (eqb (big_number 4 size) 1) refl (eqb-false (big_number 4 size) 0 e)

size-name-rest : (bytes : List ℕ) → take 4 bytes ++ (take 4 (drop 4 bytes) ++ drop 8 bytes) ≡ bytes
size-name-rest bytes =
    ap (λ t. take 4 bytes ++ (take 4 (drop 4 bytes) ++ t)) (sym (drop-drop 4 4 bytes))
    ∙ ap (λ t. take 4 bytes ++ t) (take-append-drop 4 (drop 4 bytes)) ∙ take-append-drop 4 bytes

-- what a box at the front of bytes is
sorted : (bytes : List ℕ) → Sorted bytes
sorted bytes = by-none bytes
  where
    by-eight : (xs : List ℕ) → 0 < length xs → (t : Bool) → ltb (length xs) 8 ≡ t → Sorted xs
    by-eight xs some true e = inl (record { end = cut_header xs; is = λ n most l. (l, some, ltb-true (length xs) 8 e); whole = refl })
    by-eight xs some false e =
        let long = ltb-false (length xs) 8 e in
        subst Sorted (size-name-rest xs)
        (headed (take 4 xs) (take 4 (drop 4 xs)) (drop 8 xs) (length-take-le 4 xs (omega arith)) (length-take-le 4 (drop 4 xs) (omega (arith, length-drop 4 xs))))

    by-none : (xs : List ℕ) → Sorted xs
    by-none [] = inl (record { end = used_up; is = λ n most l. l; whole = refl })
    by-none (x ∷ xs) = by-eight (x ∷ xs) (omega arith) (ltb (length (x ∷ xs)) 8) refl

record Boxes (n most : ℕ) (bytes : List ℕ) : Type 0 where
  before : List BoxTree
  end : BoxesEnd
  others : AreOthers before
  ends : IsEnd (n + length before) most end
  whole : flat_map print_box before ++ print_end end ≡ bytes

boxes-of : (left n most : ℕ) (bytes : List ℕ) → left + n ≡ most → Boxes n most bytes
boxes-of zero n most bytes s = record { before = []; end = too_many bytes; others = tt; ends = omega arith; whole = refl }
boxes-of (suc left) n most bytes s = first (sorted bytes) (boxes-of left)
  where
    first : Sorted bytes → ((n most : ℕ) (bytes : List ℕ) → left + n ≡ most → Boxes n most bytes) → Boxes n most bytes
    first (inl e) ih = record { before = []; end = e.end; others = tt; ends = e.is (n + 0) most (omega arith); whole = e.whole }
    first (inr p) ih =
        let b = ih (suc n) most p.rest (omega arith) in
        record {
          before = p.box ∷ b.before;
          end = b.end;
          others = (p.is, b.others);
          ends = same-end (suc n + length b.before) (n + suc (length b.before)) most b.end (omega arith) b.ends;
          whole = append_assoc (print_box p.box) (flat_map print_box b.before) (print_end b.end) ∙ ap (λ t. print_box p.box ++ t) b.whole ∙ p.whole;
        }

-- all bytes are those of a file
pub is_a_file : (bytes : List ℕ) → IsAFile bytes
is_a_file bytes = by-code (begins_codestream bytes) refl
  where
    coded : begins_codestream bytes ≡ false → IsNoCodestream bytes
    coded e rest is = let k : true ≡ false = ap begins_codestream (sym is) ∙ e in cc

    by-signature : (t : Bool) → begins_jxl bytes ≡ t → 12 ≤ length bytes → begins_codestream bytes ≡ false → IsAFile bytes
    by-signature true e l c =
        let b = boxes-of max_boxes 0 max_boxes (drop 12 bytes) refl in (
          container b.before b.end,
          (b.others, same-end (0 + length b.before) (length b.before) max_boxes b.end (omega arith) b.ends),
          ap (λ t. signature ++ t) b.whole ∙ signature-split bytes e,
        )
    by-signature false e l c =
        (foreign bytes, (l, coded c, λ rest is. let k : true ≡ false = ap begins_jxl (sym is) ∙ e in cc), refl)

    by-len : (t : Bool) → ltb (length bytes) 12 ≡ t → begins_codestream bytes ≡ false → IsAFile bytes
    by-len true e c = (short bytes, (ltb-true (length bytes) 12 e, coded c), refl)
    by-len false e c = by-signature (begins_jxl bytes) refl (ltb-false (length bytes) 12 e) c

    by-code : (t : Bool) → begins_codestream bytes ≡ t → IsAFile bytes
    by-code true e = (codestream (drop 2 bytes), tt, code-split bytes e)
    by-code false e = by-len (ltb (length bytes) 12) refl e
