-- The items and extents of item locations are read as their trees say, and what is read is the print of a tree.
use Rattle.std.proofs.Common.{◌≡◌, ℕ, zero, suc, ◌+◌, ◌-◌, ◌*◌, ◌%◌, ◌<◌, ◌≤◌, Bool, true, false, cond, ◌&&◌, not, eqb, ltb, List, [], ◌∷◌, ◌++◌, length, map, take, drop, slice_index, Ok, Err, ap, sym, ◌∙◌, refl, arith, append_assoc, length-append, length-drop}
use Rattle.std.specs.List.{All, flat_map}
use Rattle.std.proofs.Math.Nat.{mul-suc}
use Rattle.std.proofs.lemmas.Bool.{eq-eqb, eqb-true, eqb-false, le-ltb, ltb-false}
use Rattle.std.proofs.lemmas.List.{drop_at, take-append-drop, length-take-le}
use Rattle.std.proofs.lemmas.List.Elements.{All-nil, All-cons, All-head, All-tail}
use Rattle.byteorder.specs.Endian.{big_number}
use Rattle.exif_types.specs.Refusals.{◌>>=◌, Front}
use Rattle.exif_isobmff.specs.declared.locations.Extent.{Extent}
use Rattle.exif_isobmff.specs.declared.locations.ItemHead.{ItemHead}
use Rattle.exif_isobmff.specs.declared.locations.Sizes.{Sizes}
use Rattle.exif_isobmff.specs.HeifRefusals.{too_small, external_data, invalid_base_size, invalid_index_size, invalid_offset_size, invalid_length_size}
use Rattle.exif_isobmff.specs.Boxes.{bytes_at, pass_at, number_at, times}
use Rattle.exif_isobmff.specs.ItemLocations.{ItemExtents, item_width, sized_at, extent_at, method_at, item_head_at, location_at}
use Rattle.exif_isobmff.specs.LocationGrammar.{IsSize, ExtentTree, print_extent, IsExtent, extent_of, LocationTree, print_location, method_len, method_said, IsLocation, location_of, location_said}
use Rattle.exif_isobmff.proofs.SplitterBoxes.{bind_ok, ok_same}
use Rattle.exif_isobmff.proofs.LawsSteps.{then_ok, unless-ok, bytes_read, number_read, times-read, times-only, sized-read, number-taken, sized-taken, bytes-taken}

-- ---- extents

abbrev AreSizes : Sizes → Type 0
AreSizes s = IsSize s.index × IsSize s.offset × IsSize s.len

extent-read : (s : Sizes) → AreSizes s → (e : ExtentTree) (rest : List ℕ) → IsExtent s e → extent_at s (print_extent e ++ rest) ≡ Ok (extent_of e, rest)
unfolding extent_at
extent-read s h e rest is =
    ap (λ t. extent_at s t) (append_assoc e.index (e.offset ++ e.len) rest ∙ ap (λ t. e.index ++ t) (append_assoc e.offset e.len rest))
    ∙ then_ok (sized_at invalid_index_size s.index (e.index ++ (e.offset ++ (e.len ++ rest)))) (big_number (length e.index) e.index, e.offset ++ (e.len ++ rest)) _ (sized-read invalid_index_size s.index e.index (e.offset ++ (e.len ++ rest)) h.0 is.index)
    ∙ then_ok (sized_at invalid_offset_size s.offset (e.offset ++ (e.len ++ rest))) (big_number (length e.offset) e.offset, e.len ++ rest) _ (sized-read invalid_offset_size s.offset e.offset (e.len ++ rest) h.1 is.offset)
    ∙ then_ok (sized_at invalid_length_size s.len (e.len ++ rest)) (big_number (length e.len) e.len, rest) _ (sized-read invalid_length_size s.len e.len rest h.2 is.len)

extent-only : (s : Sizes) (text : List ℕ) (x : Extent × List ℕ) → extent_at s text ≡ Ok x
    → (e : ExtentTree) × (IsExtent s e × AreSizes s) × (extent_of e ≡ x.0) × (print_extent e ++ x.1 ≡ text)
unfolding extent_at
extent-only s text x h =
    let i = bind_ok (sized_at invalid_index_size s.index text) _ x h in
    let o = bind_ok (sized_at invalid_offset_size s.offset i.0.1) _ x i.2 in
    let l = bind_ok (sized_at invalid_length_size s.len o.0.1) _ x o.2 in
    let it = sized-taken invalid_index_size s.index text i.0 i.1 in
    let ot = sized-taken invalid_offset_size s.offset i.0.1 o.0 o.1 in
    let lt = sized-taken invalid_length_size s.len o.0.1 l.0 l.1 in
    let made : Extent = record { offset = o.0.0; len = l.0.0 } in
    let same : (record { offset = o.0.0; len = l.0.0 }, l.0.1) ≡ x = ok_same l.2 in (
      record { index = it.1.bytes; offset = ot.1.bytes; len = lt.1.bytes },
      (record { index = it.1.len; offset = ot.1.len; len = lt.1.len }, (it.0, ot.0, lt.0)),
      ap (λ n. with_offset n (big_number (length lt.1.bytes) lt.1.bytes)) ot.1.value ∙ ap (λ n. with_offset o.0.0 n) lt.1.value ∙ ap (λ (y : Extent × List ℕ). y.0) same,
      append_assoc it.1.bytes (ot.1.bytes ++ lt.1.bytes) x.1
          ∙ ap (λ t. it.1.bytes ++ t) (append_assoc ot.1.bytes lt.1.bytes x.1
          ∙ ap (λ t. ot.1.bytes ++ t) (ap (λ t. lt.1.bytes ++ t) (sym (ap (λ (y : Extent × List ℕ). y.1) same)) ∙ lt.1.whole) ∙ ot.1.whole)
          ∙ it.1.whole,
    )
  where
    with_offset : ℕ → ℕ → Extent
    with_offset offset len = record { offset = offset; len = len }

-- extents that are skipped
extents-len : (s : Sizes) (es : List ExtentTree) → All (IsExtent s) es → length (flat_map print_extent es) ≡ (s.index + s.offset + s.len) * length es
extents-len s [] h = none (s.index + s.offset + s.len)
  where
    none : (n : ℕ) → 0 ≡ n * 0
    none n = omega arith
extents-len s (e ∷ es) h =
    let is = All-head (IsExtent s) e es h in
    let ih = extents-len s es (All-tail (IsExtent s) e es h) in
    let a = is.index in
    let b = is.offset in
    let c = is.len in
    omega (arith, length-append (print_extent e) (flat_map print_extent es), length-append e.index (e.offset ++ e.len), length-append e.offset e.len, mul-suc (s.index + s.offset + s.len) (length es))

record Passed (s : Sizes) (n : ℕ) (text rest : List ℕ) : Type 0 where
  extents : List ExtentTree
  count : length extents ≡ n
  are : All (IsExtent s) extents
  whole : flat_map print_extent extents ++ rest ≡ text

-- one extent of bytes that have space for it
record OneExtent (s : Sizes) (bytes : List ℕ) : Type 0 where
  tree : ExtentTree
  rest : List ℕ
  is : IsExtent s tree
  whole : print_extent tree ++ rest ≡ bytes

one-extent : (s : Sizes) (bytes : List ℕ) → s.index + s.offset + s.len ≤ length bytes → OneExtent s bytes
one-extent s bytes room = of (drop s.index bytes) (drop s.offset (drop s.index bytes)) (length-drop s.index bytes) (length-drop s.offset (drop s.index bytes)) (take-append-drop s.index bytes) (take-append-drop s.offset (drop s.index bytes))
  where
    of : (one two : List ℕ) → length one ≡ length bytes - s.index → length two ≡ length one - s.offset → take s.index bytes ++ one ≡ bytes → take s.offset one ++ two ≡ one → OneExtent s bytes
    of one two a b p q = record {
      tree = record { index = take s.index bytes; offset = take s.offset one; len = take s.len two };
      rest = drop s.len two;
      is = record {
        index = length-take-le s.index bytes (omega arith);
        offset = length-take-le s.offset one (omega arith);
        len = length-take-le s.len two (omega arith);
      };
      whole = append_assoc (take s.index bytes) (take s.offset one ++ take s.len two) (drop s.len two)
          ∙ ap (λ t. take s.index bytes ++ t) (append_assoc (take s.offset one) (take s.len two) (drop s.len two) ∙ ap (λ t. take s.offset one ++ t) (take-append-drop s.len two) ∙ q)
          ∙ p;
    }

extent-len : (s : Sizes) (e : ExtentTree) → IsExtent s e → length (print_extent e) ≡ s.index + s.offset + s.len
extent-len s e is = omega (arith, is.index, is.offset, is.len, length-append e.index (e.offset ++ e.len), length-append e.offset e.len)

passed-of : (s : Sizes) (n : ℕ) (text rest bytes : List ℕ) → length bytes ≡ (s.index + s.offset + s.len) * n → bytes ++ rest ≡ text → Passed s n text rest
passed-of s zero text rest [] h e = record { extents = []; count = refl; are = All-nil (IsExtent s); whole = e }
passed-of s zero text rest (b ∷ bytes) h e = absurd (none (s.index + s.offset + s.len) h)
  where
    none : (n : ℕ) → length (b ∷ bytes) ≡ n * 0 → ⊥
    none n k = omega arith
passed-of s (suc n) text rest bytes h e =
    let total : length bytes ≡ (s.index + s.offset + s.len) * n + (s.index + s.offset + s.len) = h ∙ mul-suc (s.index + s.offset + s.len) n in
    more (one-extent s bytes (omega arith)) total (passed-of s n)
  where
    more : (x : OneExtent s bytes) → length bytes ≡ (s.index + s.offset + s.len) * n + (s.index + s.offset + s.len)
        → ((text rest bytes : List ℕ) → length bytes ≡ (s.index + s.offset + s.len) * n → bytes ++ rest ≡ text → Passed s n text rest) → Passed s (suc n) text rest
    more x total ih =
        let all : length (print_extent x.tree ++ x.rest) ≡ length bytes = ap (λ (t : List ℕ). length t) x.whole in
        let p = ih (x.rest ++ rest) rest x.rest (omega (arith, length-append (print_extent x.tree) x.rest, extent-len s x.tree x.is)) refl in
        record {
          extents = x.tree ∷ p.extents;
          count = ap suc p.count;
          are = All-cons (IsExtent s) x.tree p.extents x.is p.are;
          whole = append_assoc (print_extent x.tree) (flat_map print_extent p.extents) rest ∙ ap (λ r. print_extent x.tree ++ r) p.whole
              ∙ sym (append_assoc (print_extent x.tree) x.rest rest) ∙ ap (λ t. t ++ rest) x.whole ∙ e;
        }

-- ---- what is in front of an item's extents

method-read : (version : ℕ) (method rest : List ℕ) → length method ≡ method_len version → method_at version (method ++ rest) ≡ Ok (method_said version method, rest)
method-read version method rest e = by (eqb version 0) method e
  where
    by : (t : Bool) (method : List ℕ) → length method ≡ cond t 0 2
        → cond {A = Front ℕ} t (Ok (0, method ++ rest)) (bytes_at 2 (method ++ rest) >>= λ b. Ok (slice_index b.0 1 % 16, b.1)) ≡ Ok (cond t 0 (slice_index method 1 % 16), rest)
    by true [] e = refl
    by true (b ∷ method) e = absurd (omega arith)
    by false method e = then_ok (bytes_at 2 (method ++ rest)) (method, rest) _ (bytes_read 2 method rest e)

method-only : (version : ℕ) (text : List ℕ) (x : ℕ × List ℕ) → method_at version text ≡ Ok x
    → (m : List ℕ) × (length m ≡ method_len version) × (method_said version m ≡ x.0) × (m ++ x.1 ≡ text)
method-only version text x e = by (eqb version 0) e
  where
    by : (t : Bool) → cond {A = Front ℕ} t (Ok (0, text)) (bytes_at 2 text >>= λ b. Ok (slice_index b.0 1 % 16, b.1)) ≡ Ok x
        → (m : List ℕ) × (length m ≡ cond t 0 2) × (cond t 0 (slice_index m 1 % 16) ≡ x.0) × (m ++ x.1 ≡ text)
    by true e =
        let same : (0, text) ≡ x = ok_same e in
        ([], refl, ap (λ (y : ℕ × List ℕ). y.0) same, sym (ap (λ (y : ℕ × List ℕ). y.1) same))
    by false e =
        let b = bind_ok (bytes_at 2 text) _ x e in
        let t = bytes-taken 2 text b.0 b.1 in
        let same : (slice_index b.0.0 1 % 16, b.0.1) ≡ x = ok_same b.2 in
        (b.0.0, t.0, ap (λ (y : ℕ × List ℕ). y.0) same, ap (λ r. b.0.0 ++ r) (sym (ap (λ (y : ℕ × List ℕ). y.1) same)) ∙ t.1)

in-file : (m r : ℕ) → (m ≡ 0 → r ≡ 0) → (eqb m 0 && not (eqb r 0)) ≡ false
in-file m r h = by (eqb m 0) (eqb r 0) refl refl
  where
    by : (a b : Bool) → eqb m 0 ≡ a → eqb r 0 ≡ b → (a && not b) ≡ false
    by true true p q = refl
    by true false p q = absurd (eqb-false r 0 q (h (eqb-true m 0 p)))
    by false b p q = refl

file-in : (m r : ℕ) → (eqb m 0 && not (eqb r 0)) ≡ false → m ≡ 0 → r ≡ 0
file-in m r h z = by (eqb r 0) refl
  where
    by : (b : Bool) → eqb r 0 ≡ b → r ≡ 0
    by true q = eqb-true r 0 q
    by false q = let k : true ≡ false = sym (ap (λ t. t && not (eqb r 0)) (eq-eqb m 0 z) ∙ ap not q) ∙ h in absurd cc

abbrev head_said : ℕ → LocationTree → ItemHead
head_said version p = record {
  number = big_number (length p.number) p.number;
  method = method_said version p.method;
  base = big_number (length p.base) p.base;
  count = big_number 2 p.count;
}

head-read : (wanted version : ℕ) (s : Sizes) (p : LocationTree) (rest : List ℕ) → IsLocation wanted version s p
    → item_head_at version s (p.number ++ (p.method ++ (p.reference ++ (p.base ++ (p.count ++ rest))))) ≡ Ok (head_said version p, rest)
unfolding item_head_at
head-read wanted version s p rest is =
    then_ok (number_at (item_width version) (p.number ++ (p.method ++ (p.reference ++ (p.base ++ (p.count ++ rest)))))) (big_number (length p.number) p.number, p.method ++ (p.reference ++ (p.base ++ (p.count ++ rest)))) _
    (ap (λ n. number_at n (p.number ++ (p.method ++ (p.reference ++ (p.base ++ (p.count ++ rest)))))) (sym is.number)
    ∙ number_read (length p.number) p.number (p.method ++ (p.reference ++ (p.base ++ (p.count ++ rest)))) refl)
    ∙ then_ok (method_at version (p.method ++ (p.reference ++ (p.base ++ (p.count ++ rest))))) (method_said version p.method, p.reference ++ (p.base ++ (p.count ++ rest))) _ (method-read version p.method (p.reference ++ (p.base ++ (p.count ++ rest))) is.method)
    ∙ then_ok (number_at 2 (p.reference ++ (p.base ++ (p.count ++ rest)))) (big_number 2 p.reference, p.base ++ (p.count ++ rest)) _ (number_read 2 p.reference (p.base ++ (p.count ++ rest)) is.reference)
    ∙ then_ok (cond (eqb (method_said version p.method) 0 && not (eqb (big_number 2 p.reference) 0)) (Err external_data) (sized_at invalid_base_size s.base (p.base ++ (p.count ++ rest)))) (big_number (length p.base) p.base, p.count ++ rest) _
    (ap (λ t. cond t (Err external_data) (sized_at invalid_base_size s.base (p.base ++ (p.count ++ rest)))) (in-file (method_said version p.method) (big_number 2 p.reference) is.in_file)
    ∙ sized-read invalid_base_size s.base p.base (p.count ++ rest) is.base_size is.base)
    ∙ then_ok (number_at 2 (p.count ++ rest)) (big_number 2 p.count, rest) _ (number_read 2 p.count rest is.count)

record Headed (version : ℕ) (s : Sizes) (text : List ℕ) (x : ItemHead × List ℕ) : Type 0 where
  number : List ℕ
  method : List ℕ
  reference : List ℕ
  base : List ℕ
  count : List ℕ
  number_len : length number ≡ item_width version
  method_is : length method ≡ method_len version
  reference_len : length reference ≡ 2
  in_file : method_said version method ≡ 0 → big_number 2 reference ≡ 0
  base_len : length base ≡ s.base
  base_size : IsSize s.base
  count_len : length count ≡ 2
  value : head_said version (record { number = number; method = method; reference = reference; base = base; count = count; extents = [] }) ≡ x.0
  whole : number ++ (method ++ (reference ++ (base ++ (count ++ x.1)))) ≡ text

head-only : (version : ℕ) (s : Sizes) (text : List ℕ) (x : ItemHead × List ℕ) → item_head_at version s text ≡ Ok x → Headed version s text x
unfolding item_head_at
head-only version s text x e =
    let n = bind_ok (number_at (item_width version) text) _ x e in
    let m = bind_ok (method_at version n.0.1) _ x n.2 in
    let r = bind_ok (number_at 2 m.0.1) _ x m.2 in
    let b = bind_ok (cond (eqb m.0.0 0 && not (eqb r.0.0 0)) (Err external_data) (sized_at invalid_base_size s.base r.0.1)) _ x r.2 in
    let c = bind_ok (number_at 2 b.0.1) _ x b.2 in
    let u = unless-ok (eqb m.0.0 0 && not (eqb r.0.0 0)) external_data (sized_at invalid_base_size s.base r.0.1) b.0 b.1 in
    let nt = number-taken (item_width version) text n.0 n.1 in
    let mt = method-only version n.0.1 m.0 m.1 in
    let rt = number-taken 2 m.0.1 r.0 r.1 in
    let bt = sized-taken invalid_base_size s.base r.0.1 b.0 u.1 in
    let ct = number-taken 2 b.0.1 c.0 c.1 in
    let rv : big_number 2 rt.bytes ≡ r.0.0 = ap (λ k. big_number k rt.bytes) (sym rt.len) ∙ rt.value in
    let cv : big_number 2 ct.bytes ≡ c.0.0 = ap (λ k. big_number k ct.bytes) (sym ct.len) ∙ ct.value in
    let same : (record { number = n.0.0; method = m.0.0; base = b.0.0; count = c.0.0 }, c.0.1) ≡ x = ok_same c.2 in
    record {
      number = nt.bytes;
      method = mt.0;
      reference = rt.bytes;
      base = bt.1.bytes;
      count = ct.bytes;
      number_len = nt.len;
      method_is = mt.1;
      reference_len = rt.len;
      in_file = λ z. rv ∙ file-in m.0.0 r.0.0 u.0 (sym mt.2 ∙ z);
      base_len = bt.1.len;
      base_size = bt.0;
      count_len = ct.len;
      value = ap (λ k. made k (method_said version mt.0) (big_number (length bt.1.bytes) bt.1.bytes) (big_number 2 ct.bytes)) nt.value
          ∙ ap (λ k. made n.0.0 k (big_number (length bt.1.bytes) bt.1.bytes) (big_number 2 ct.bytes)) mt.2
          ∙ ap (λ k. made n.0.0 m.0.0 k (big_number 2 ct.bytes)) bt.1.value
          ∙ ap (λ k. made n.0.0 m.0.0 b.0.0 k) cv
          ∙ ap (λ (y : ItemHead × List ℕ). y.0) same;
      whole = ap (λ t. nt.bytes ++ (mt.0 ++ (rt.bytes ++ (bt.1.bytes ++ (ct.bytes ++ t))))) (sym (ap (λ (y : ItemHead × List ℕ). y.1) same))
          ∙ ap (λ t. nt.bytes ++ (mt.0 ++ (rt.bytes ++ (bt.1.bytes ++ t)))) ct.whole
          ∙ ap (λ t. nt.bytes ++ (mt.0 ++ (rt.bytes ++ t))) bt.1.whole
          ∙ ap (λ t. nt.bytes ++ (mt.0 ++ t)) rt.whole
          ∙ ap (λ t. nt.bytes ++ t) mt.3 ∙ nt.whole;
    }
  where
    made : ℕ → ℕ → ℕ → ℕ → ItemHead
    made number method base count = record { number = number; method = method; base = base; count = count }

-- ---- an item

all-sized : (s : Sizes) (es : List ExtentTree) → All (IsExtent s) es → (0 < length es → AreSizes s) → All (λ e. IsExtent s e × AreSizes s) es
all-sized s [] h k = All-nil (λ e. IsExtent s e × AreSizes s)
all-sized s (e ∷ es) h k =
    let sizes = k (omega arith) in
    All-cons (λ e. IsExtent s e × AreSizes s) e es (All-head (IsExtent s) e es h, sizes) (all-sized s es (All-tail (IsExtent s) e es h) (λ lt. sizes))

all-extents : (s : Sizes) (es : List ExtentTree) → All (λ e. IsExtent s e × AreSizes s) es → All (IsExtent s) es × (0 < length es → AreSizes s)
all-extents s [] h = (All-nil (IsExtent s), λ lt. absurd (omega arith))
all-extents s (e ∷ es) h =
    let one = All-head (λ e. IsExtent s e × AreSizes s) e es h in
    (All-cons (IsExtent s) e es one.0 (all-extents s es (All-tail (λ e. IsExtent s e × AreSizes s) e es h)).0, λ lt. one.1)

abbrev locations_if : Bool → ItemExtents → List ItemExtents
locations_if t p = cond t (p ∷ []) []

abbrev located : ℕ → Sizes → ItemHead × List ℕ → Bool → Front (List ItemExtents)
located wanted s h t =
    cond t (times h.0.count (extent_at s) h.1 >>= λ extents. Ok (record { method = h.0.method; base = h.0.base; extents = extents.0 } ∷ [], extents.1))
    (pass_at ((s.index + s.offset + s.len) * h.0.count) h.1 >>= λ passed. Ok ([], passed.1))

location-headed : (wanted version : ℕ) (s : Sizes) (text : List ℕ) → location_at wanted version s text ≡ (item_head_at version s text >>= λ h. located wanted s h (eqb h.0.number wanted))
unfolding location_at
location-headed wanted version s text = refl

pass-read : (n : ℕ) (bytes rest : List ℕ) → length bytes ≡ n → pass_at n (bytes ++ rest) ≡ Ok (tt, rest)
pass-read n bytes rest e =
    ap (λ t. passed t (drop n (bytes ++ rest))) (le-ltb (length (bytes ++ rest)) n (omega (arith, length-append bytes rest)))
    ∙ ap (λ r. passed false r) (drop_at bytes rest n e)
  where
    passed : Bool → List ℕ → Front (Unit {0})
    passed t rest = cond t (Err too_small) (Ok (tt, rest))

location-behind : (p : LocationTree) (rest : List ℕ)
    → print_location p ++ rest ≡ p.number ++ (p.method ++ (p.reference ++ (p.base ++ (p.count ++ (flat_map print_extent p.extents ++ rest)))))
location-behind p rest =
    append_assoc p.number (p.method ++ (p.reference ++ (p.base ++ (p.count ++ flat_map print_extent p.extents)))) rest
    ∙ ap (λ t. p.number ++ t) (append_assoc p.method (p.reference ++ (p.base ++ (p.count ++ flat_map print_extent p.extents))) rest)
    ∙ ap (λ t. p.number ++ (p.method ++ t)) (append_assoc p.reference (p.base ++ (p.count ++ flat_map print_extent p.extents)) rest)
    ∙ ap (λ t. p.number ++ (p.method ++ (p.reference ++ t))) (append_assoc p.base (p.count ++ flat_map print_extent p.extents) rest)
    ∙ ap (λ t. p.number ++ (p.method ++ (p.reference ++ (p.base ++ t)))) (append_assoc p.count (flat_map print_extent p.extents) rest)

located-read : (wanted version : ℕ) (s : Sizes) (p : LocationTree) (rest : List ℕ) (t : Bool) → IsLocation wanted version s p
    → eqb (big_number (length p.number) p.number) wanted ≡ t
    → located wanted s (head_said version p, flat_map print_extent p.extents ++ rest) t ≡ Ok (locations_if t (location_of version p), rest)
located-read wanted version s p rest true is e =
    let sized = is.sized (eqb-true (big_number (length p.number) p.number) wanted e) in
    then_ok (times (big_number 2 p.count) (extent_at s) (flat_map print_extent p.extents ++ rest)) (map extent_of p.extents, rest) _
    (ap (λ n. times n (extent_at s) (flat_map print_extent p.extents ++ rest)) is.counted
    ∙ times-read (extent_at s) print_extent extent_of (λ e. IsExtent s e × AreSizes s) (λ x r k. extent-read s k.1 x r k.0) p.extents rest (all-sized s p.extents is.extents sized))
located-read wanted version s p rest false is e =
    then_ok (pass_at ((s.index + s.offset + s.len) * big_number 2 p.count) (flat_map print_extent p.extents ++ rest)) (tt, rest) _
    (pass-read ((s.index + s.offset + s.len) * big_number 2 p.count) (flat_map print_extent p.extents) rest
    (extents-len s p.extents is.extents ∙ ap (λ n. (s.index + s.offset + s.len) * n) (sym is.counted)))

-- an item of an `iloc` is read as its tree says
pub location-read : (wanted version : ℕ) (s : Sizes) (p : LocationTree) (rest : List ℕ) → IsLocation wanted version s p
    → location_at wanted version s (print_location p ++ rest) ≡ Ok (location_said wanted version p, rest)
location-read wanted version s p rest is =
    ap (location_at wanted version s) (location-behind p rest)
    ∙ location-headed wanted version s (p.number ++ (p.method ++ (p.reference ++ (p.base ++ (p.count ++ (flat_map print_extent p.extents ++ rest))))))
    ∙ then_ok (item_head_at version s (p.number ++ (p.method ++ (p.reference ++ (p.base ++ (p.count ++ (flat_map print_extent p.extents ++ rest))))))) (head_said version p, flat_map print_extent p.extents ++ rest)
    (λ h. located wanted s h (eqb h.0.number wanted)) (head-read wanted version s p (flat_map print_extent p.extents ++ rest) is)
    ∙ located-read wanted version s p rest (eqb (big_number (length p.number) p.number) wanted) is refl

-- the extents of an item that was read or skipped
record Located (wanted version : ℕ) (s : Sizes) (text : List ℕ) (x : List ItemExtents × List ℕ) : Type 0 where
  tree : LocationTree
  is : IsLocation wanted version s tree
  said : location_said wanted version tree ≡ x.0
  whole : print_location tree ++ x.1 ≡ text

abbrev with_extents : {version : ℕ} {s : Sizes} {text : List ℕ} {y : ItemHead × List ℕ} → Headed version s text y → List ExtentTree → LocationTree
with_extents h es = record { number = h.number; method = h.method; reference = h.reference; base = h.base; count = h.count; extents = es }

located-by : (wanted version : ℕ) (s : Sizes) (text : List ℕ) (y : ItemHead × List ℕ) (h : Headed version s text y) (x : List ItemExtents × List ℕ) (es : List ExtentTree)
    → y.0.count ≡ length es → All (IsExtent s) es → (y.0.number ≡ wanted → 0 < length es → AreSizes s) → flat_map print_extent es ++ x.1 ≡ y.1
    → location_said wanted version (with_extents h es) ≡ x.0 → Located wanted version s text x
located-by wanted version s text y h x es count are sized whole said = record {
  tree = with_extents h es;
  is = record {
    number = h.number_len;
    method = h.method_is;
    reference = h.reference_len;
    in_file = h.in_file;
    base = h.base_len;
    base_size = h.base_size;
    count = h.count_len;
    counted = ap (λ (i : ItemHead). i.count) h.value ∙ count;
    extents = are;
    sized = λ e. sized (sym (ap (λ (i : ItemHead). i.number) h.value) ∙ e);
  };
  said = said;
  whole = location-behind (with_extents h es) x.1
      ∙ ap (λ t. h.number ++ (h.method ++ (h.reference ++ (h.base ++ (h.count ++ t))))) whole ∙ h.whole;
}

pass-only : (n : ℕ) (text : List ℕ) (x : Unit {0} × List ℕ) → pass_at n text ≡ Ok x → (bytes : List ℕ) × (length bytes ≡ n) × (bytes ++ x.1 ≡ text)
pass-only n text x e =
    let u = unless-ok (ltb (length text) n) too_small (Ok (tt, drop n text)) x e in
    let room = ltb-false (length text) n u.0 in
    let same : (tt, drop n text) ≡ x = ok_same u.1 in
    (take n text, length-take-le n text room, ap (λ r. take n text ++ r) (sym (ap (λ (y : Unit {0} × List ℕ). y.1) same)) ∙ take-append-drop n text)

located-only : (wanted version : ℕ) (s : Sizes) (text : List ℕ) (y : ItemHead × List ℕ) (h : Headed version s text y) (x : List ItemExtents × List ℕ) (t : Bool)
    → eqb y.0.number wanted ≡ t → located wanted s y t ≡ Ok x → Located wanted version s text x
located-only wanted version s text y h x true q e =
    let b = bind_ok (times y.0.count (extent_at s) y.1) _ x e in
    let ts = times-only (extent_at s) print_extent extent_of (λ e. IsExtent s e × AreSizes s) (extent-only s) y.0.count y.1 b.0 b.1 in
    let all = all-extents s ts.trees ts.are in
    let same : (record { method = y.0.method; base = y.0.base; extents = b.0.0 } ∷ [], b.0.1) ≡ x = ok_same b.2 in
    let here : eqb (big_number (length h.number) h.number) wanted ≡ true = ap (λ (i : ItemHead). eqb i.number wanted) h.value ∙ q in
    located-by wanted version s text y h x ts.trees (sym ts.count) all.0 (λ e. all.1)
    (ap (λ r. flat_map print_extent ts.trees ++ r) (sym (ap (λ (z : List ItemExtents × List ℕ). z.1) same)) ∙ ts.whole)
    (ap (λ t. locations_if t (location_of version (with_extents h ts.trees))) here
    ∙ ap (λ (i : ItemHead). made i.method i.base (map extent_of ts.trees)) h.value
    ∙ ap (λ es. made y.0.method y.0.base es) ts.vals
    ∙ ap (λ (z : List ItemExtents × List ℕ). z.0) same)
  where
    made : ℕ → ℕ → List Extent → List ItemExtents
    made method base extents = record { method = method; base = base; extents = extents } ∷ []
located-only wanted version s text y h x false q e =
    let b = bind_ok (pass_at ((s.index + s.offset + s.len) * y.0.count) y.1) _ x e in
    let p = pass-only ((s.index + s.offset + s.len) * y.0.count) y.1 b.0 b.1 in
    let ps = passed-of s y.0.count y.1 b.0.1 p.0 p.1 p.2 in
    let same : ([], b.0.1) ≡ x = ok_same b.2 in
    let here : eqb (big_number (length h.number) h.number) wanted ≡ false = ap (λ (i : ItemHead). eqb i.number wanted) h.value ∙ q in
    located-by wanted version s text y h x ps.extents (sym ps.count) ps.are (λ e. absurd (eqb-false y.0.number wanted q e))
    (ap (λ r. flat_map print_extent ps.extents ++ r) (sym (ap (λ (z : List ItemExtents × List ℕ). z.1) same)) ∙ ps.whole)
    (ap (λ t. locations_if t (location_of version (with_extents h ps.extents))) here ∙ ap (λ (z : List ItemExtents × List ℕ). z.0) same)

-- an item that is read has a tree
pub location-only : (wanted version : ℕ) (s : Sizes) (text : List ℕ) (x : List ItemExtents × List ℕ) → location_at wanted version s text ≡ Ok x
    → (p : LocationTree) × IsLocation wanted version s p × (location_said wanted version p ≡ x.0) × (print_location p ++ x.1 ≡ text)
location-only wanted version s text x e =
    let b = bind_ok (item_head_at version s text) (λ h. located wanted s h (eqb h.0.number wanted)) x (sym (location-headed wanted version s text) ∙ e) in
    let l = located-only wanted version s text b.0 (head-only version s text b.0 b.1) x (eqb b.0.0.number wanted) refl b.2 in
    (l.tree, l.is, l.said, l.whole)
