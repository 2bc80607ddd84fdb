-- Spans in order stay so where an extent is cut out.
use Rattle.std.proofs.Common.{◌≡◌, ◌<◌, ◌≤◌, ◌+◌, ◌-◌, ℕ, Bool, true, false, cond, ◌&&◌, ltb, List, [], ◌∷◌, ◌++◌, drop, Option, Some, None, refl, sym, subst, arith}
use Rattle.std.proofs.lemmas.Bool.Decides.{nat_tests}
use Rattle.exif_inventory.specs.declared.kind.Kind.{Kind}
use Rattle.exif_inventory.specs.declared.kind.Kind.TheVariants as kind
use Rattle.exif_inventory_heif.specs.Numbers.{number}
use Rattle.exif_inventory_heif.specs.Carving.{before, behind, carve_each, carve_one, carved, cut, cut_one, exif_content, exif_span, holds, is_held, item_span, kind_span, offset_behind, pieces, some_span}
use Rattle.exif_inventory_heif.specs.Gaps.{gaps_cut, gaps_of}
use Rattle.exif_inventory_heif.specs.Walks.{AreSpans}
use Rattle.exif_inventory_heif.specs.declared.extents.Extent.{Extent}
use Rattle.exif_inventory_heif.specs.declared.span.Span.{Span}

-- spans behind spans
spans_join : (from : ℕ) (xs ys : List Span) (mid end : ℕ) → AreSpans from xs mid → AreSpans mid ys end → AreSpans from (xs ++ ys) end
spans_join from [] ys mid end x y = let e : from ≡ mid = x in subst (λ n. AreSpans n ys end) (sym e) y
spans_join from (s ∷ xs) ys mid end x y = (x.0, x.1, x.2, spans_join s.end xs ys mid end x.3 y)

-- ---- the span of an item's data

-- an offset, if there is one, is within an extent
abbrev IsContent : Extent → Option ℕ → Type 0
IsContent extent None = Unit {0}
IsContent extent (Some content) = (extent.from ≤ content) × (content ≤ extent.end)

behind_in : (t : Bool) (extent : Extent) (n : ℕ) → (t ≡ false → extent.from + 4 + n ≤ extent.end)
    → IsContent extent (cond t None (Some (extent.from + 4 + n)))
behind_in true extent n h = tt
behind_in false extent n h = (omega arith, h refl)

content_in : (t : Bool) (extent : Extent) (n : ℕ) → (t ≡ false → 4 ≤ extent.end - extent.from)
    → IsContent extent (cond t None (offset_behind extent n))
content_in true extent n h = tt
content_in false extent n h =
    let least : 4 ≤ extent.end - extent.from = h refl in
    behind_in (ltb (extent.end - extent.from - 4) n) extent n (λ e. grind (arith, nat_tests))

exif_in : (extent : Extent) (file : List ℕ) → IsContent extent (exif_content extent file)
unfolding exif_content
exif_in extent file = content_in _ extent (number 4 (drop extent.from file)) (λ e. grind (arith, nat_tests))

exif_ordered : (extent : Extent) (content : Option ℕ) → extent.from ≤ extent.end → IsContent extent content
    → AreSpans extent.from (exif_span extent content ∷ []) extent.end
exif_ordered extent None h i = (refl, omega arith, h, refl)
exif_ordered extent (Some content) h i = (refl, i.0, i.1, refl)

kind_ordered : (k : Kind) (extent : Extent) (file : List ℕ) → extent.from ≤ extent.end
    → AreSpans extent.from (kind_span k extent file ∷ []) extent.end
kind_ordered kind.Exif extent file h = exif_ordered extent (exif_content extent file) h (exif_in extent file)
kind_ordered _ extent file h = (refl, omega arith, h, refl)

item_ordered : (extent : Extent) (file : List ℕ) → extent.from ≤ extent.end
    → AreSpans extent.from (item_span extent file ∷ []) extent.end
unfolding item_span
item_ordered extent file h = kind_ordered extent.kind extent file h

-- ---- a span with an extent cut out

pub record Held (extent : Extent) (span : Span) : Type 0 where
  pub least : span.content ≤ extent.from
  pub some : extent.from < extent.end
  pub most : extent.end ≤ span.end

pub held_of : (extent : Extent) (span : Span) → holds extent span ≡ true → Held extent span
held_of extent span h = record {
  least = grind (arith, nat_tests);
  some = grind (arith, nat_tests);
  most = grind (arith, nat_tests);
}

some_if : (t : Bool) (span : Span) → span.from ≤ span.content → span.content ≤ span.end → (t ≡ false → span.from ≡ span.end)
    → AreSpans span.from (cond t (span ∷ []) []) span.end
some_if true span f c e = (refl, f, c, refl)
some_if false span f c e = e refl

some_ordered : (span : Span) → span.from ≤ span.content → span.content ≤ span.end → AreSpans span.from (some_span span) span.end
some_ordered span f c = some_if (ltb span.from span.end) span f c (λ e. grind (arith, nat_tests))

pieces_ordered : (file : List ℕ) (extent : Extent) (span : Span) → span.from ≤ span.content → Held extent span
    → AreSpans span.from (pieces file extent span) span.end
pieces_ordered file extent span f h =
    let l = h.least in
    let s = h.some in
    let m = h.most in
    let front = some_ordered (before extent span) f l in
    let item = item_ordered extent file (omega arith) in
    let back = some_ordered (behind extent span) (omega arith) m in
    spans_join span.from (some_span (before extent span) ++ item_span extent file ∷ []) (some_span (behind extent span)) extent.end span.end
    (spans_join span.from (some_span (before extent span)) (item_span extent file ∷ []) extent.from extent.end front item) back

one_if : (t : Bool) (file : List ℕ) (extent : Extent) (span : Span) → span.from ≤ span.content → span.content ≤ span.end
    → (t ≡ true → Held extent span) → AreSpans span.from (cond t (pieces file extent span) (span ∷ [])) span.end
one_if true file extent span f c h = pieces_ordered file extent span f (h refl)
one_if false file extent span f c h = (refl, f, c, refl)

one_ordered : (file : List ℕ) (extent : Extent) (span : Span) → span.from ≤ span.content → span.content ≤ span.end
    → AreSpans span.from (cut_one file extent span) span.end
unfolding cut_one
one_ordered file extent span f c = one_if (holds extent span) file extent span f c (held_of extent span)

cut_ordered : (file : List ℕ) (extent : Extent) (from : ℕ) (spans : List Span) (end : ℕ) → AreSpans from spans end
    → AreSpans from (cut file extent spans) end
cut_ordered file extent from [] end h = h
cut_ordered file extent from (s ∷ spans) end h =
    let e : s.from ≡ from = h.0 in
    let one = subst (λ n. AreSpans n (cut_one file extent s) s.end) e (one_ordered file extent s h.1 h.2) in
    spans_join from (cut_one file extent s) (cut file extent spans) s.end end one (cut_ordered file extent s.end spans end h.3)

-- ---- all extents

carve_if : (a b k : Bool) (file : List ℕ) (extent : Extent) (spans : List Span) (judged : Bool) (end : ℕ) → AreSpans 0 spans end
    → let made : List Span × Bool = cond a (spans, judged && k) (cond b (cut file extent spans, judged) (spans, false)) in
    AreSpans 0 made.0 end
carve_if true b k file extent spans judged end h = h
carve_if false true k file extent spans judged end h = cut_ordered file extent 0 spans end h
carve_if false false k file extent spans judged end h = h

pub one_carved : (file : List ℕ) (all : List Extent) (extent : Extent) (carving : List Span × Bool) (end : ℕ) → AreSpans 0 carving.0 end
    → AreSpans 0 (carve_one file all extent carving).0 end
unfolding carve_one
one_carved file all extent (spans, judged) end h = carve_if _ _ (is_held extent spans) file extent spans judged end h

each_carved : (file : List ℕ) (all extents : List Extent) (carving : List Span × Bool) (end : ℕ) → AreSpans 0 carving.0 end
    → AreSpans 0 (carve_each file all extents carving).0 end
each_carved file all [] carving end h = h
each_carved file all (extent ∷ extents) carving end h =
    each_carved file all extents (carve_one file all extent carving) end (one_carved file all extent carving end h)

carved_if : (t : Bool) (file : List ℕ) (extents : List Extent) (spans : List Span) (judged : Bool) (end : ℕ) → AreSpans 0 spans end
    → let made : List Span × Bool = cond t (spans, false) (carve_each file extents extents (spans, judged)) in AreSpans 0 made.0 end
carved_if true file extents spans judged end h = h
carved_if false file extents spans judged end h = each_carved file extents extents (spans, judged) end h

-- spans in order are in order where all extents are cut out
pub carved_ordered : (file : List ℕ) (extents : List Extent) (spans : List Span) (judged : Bool) (end : ℕ) → AreSpans 0 spans end
    → AreSpans 0 (carved file extents (spans, judged)).0 end
unfolding carved
carved_ordered file extents spans judged end h = carved_if _ file extents spans judged end h

gaps_if : (t : Bool) (file : List ℕ) (gaps : List Extent) (spans : List Span) (judged : Bool) (end : ℕ) → AreSpans 0 spans end
    → let made : List Span × Bool = cond t (spans, false) (carved file gaps (spans, judged)) in AreSpans 0 made.0 end
gaps_if true file gaps spans judged end h = h
gaps_if false file gaps spans judged end h = carved_ordered file gaps spans judged end h

-- the same where what no extent has is cut out
pub gaps_ordered : (file : List ℕ) (extents : List Extent) (c : List Span × Bool) (end : ℕ) → AreSpans 0 c.0 end
    → AreSpans 0 (gaps_cut file extents c).0 end
gaps_ordered file extents (spans, judged) end h = gaps_if _ file (gaps_of file extents spans) spans judged end h
