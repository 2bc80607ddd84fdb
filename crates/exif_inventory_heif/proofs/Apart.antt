-- Where the items are understood, the picture shares no byte with data of an item that is none.
use Rattle.std.proofs.Common.{◌≡◌, ◌≤◌, ◌⊎◌, ℕ, suc, Bool, true, false, cond, not, ◌&&◌, ◌||◌, List, [], ◌∷◌, ◌++◌, length, All, Option, Some, None, refl, ap, sym, ◌∙◌, subst, inl, inr, arith}
use Rattle.std.proofs.lemmas.List.Elements.{All-append, All-cons, All-nil, All-weaker}
use Rattle.exif_inventory.specs.declared.kind.Kind.{Kind}
use Rattle.exif_inventory.specs.declared.kind.Kind.TheVariants as kind
use Rattle.exif_inventory_heif.specs.Carving.{before, behind, carve_each, carve_one, carved, cut, cut_one, exif_content, exif_span, holds, is_alone, is_held, is_picture, item_span, kind_span, pieces, some_span}
use Rattle.exif_inventory_heif.specs.Gaps.{gaps_cut, gaps_of}
use Rattle.exif_inventory_heif.specs.Inventories.{extents_in, settled}
use Rattle.exif_inventory_heif.specs.Promises.{Avoids, IsApart, PictureIsApart}
use Rattle.exif_inventory_heif.specs.Spans.{has, part_kind}
use Rattle.exif_inventory_heif.specs.Walks.{AreSpans, spans_of}
use Rattle.exif_inventory_heif.specs.declared.extents.Extent.{Extent}
use Rattle.exif_inventory_heif.specs.declared.role.Role.TheVariants.{Movie}
use Rattle.exif_inventory_heif.specs.declared.span.Span.{Span}
use Rattle.exif_inventory_heif.proofs.SpanOrder.{Held, carved_ordered, held_of, one_carved}

clash : (b : Bool) → b ≡ true → b ≡ false → ⊥
clash b p q = cc

either_of : (a b : Bool) → (a || b) ≡ true → (a ≡ true) ⊎ (b ≡ true)
either_of true b h = inl refl
either_of false b h = inr h

first_of : (a b : Bool) → (a && b) ≡ true → a ≡ true
first_of true b h = refl
first_of false b h = cc

second_of : (a b : Bool) → (a && b) ≡ true → b ≡ true
second_of true b h = h
second_of false b h = cc

abbrev Clear : Extent → List Span → Type 0
Clear extent spans = All (Avoids extent) spans

one_clear : (e : Extent) (s : Span) → Avoids e s → Clear e (s ∷ [])
one_clear e s a = All-cons (Avoids e) s [] a (All-nil (Avoids e))

some_clear : (t : Bool) (e : Extent) (s : Span) → Avoids e s → Clear e (cond t (s ∷ []) [])
some_clear true e s a = one_clear e s a
some_clear false e s a = All-nil (Avoids e)

-- ---- the data of an item are no picture

exif_other : (e : Extent) (o : Option ℕ) → is_picture (part_kind true (exif_span e o).role) ≡ false
exif_other e None = refl
exif_other e (Some content) = refl

kind_other : (k : Kind) (e : Extent) (file : List ℕ) → is_picture k ≡ false → is_picture (part_kind true (kind_span k e file).role) ≡ false
kind_other kind.Exif e file h = exif_other e (exif_content e file)
kind_other _ e file h = h

item_avoids : (file : List ℕ) (c e : Extent) → is_picture c.kind ≡ false → Avoids e (item_span c file)
unfolding item_span
item_avoids file c e h = λ p. absurd (clash _ p (kind_other c.kind c file h))

pieces_clear : (file : List ℕ) (c e : Extent) (s : Span) → Avoids e (before c s) → is_picture c.kind ≡ false → Avoids e (behind c s)
    → Clear e (pieces file c s)
pieces_clear file c e s b h a =
    All-append (Avoids e) (some_span (before c s) ++ item_span c file ∷ []) (some_span (behind c s))
    (All-append (Avoids e) (some_span (before c s)) (item_span c file ∷ []) (some_clear _ e (before c s) b) (one_clear e (item_span c file) (item_avoids file c e h)))
    (some_clear _ e (behind c s) a)

-- ---- spans that avoid an extent avoid it where another one is cut out

narrow : (e : Extent) (s t : Span) → s.from ≤ t.from → t.end ≤ s.end → IsApart e s → IsApart e t
narrow e s t f l (inl x) = inl (omega arith)
narrow e s t f l (inr y) = inr (omega arith)

kept_if : (t : Bool) (file : List ℕ) (c e : Extent) (s : Span) → (t ≡ true → Held c s) → s.from ≤ s.content → is_picture c.kind ≡ false
    → Avoids e s → Clear e (cond t (pieces file c s) (s ∷ []))
kept_if true file c e s h f other a =
    let held = h refl in
    let l = held.least in
    let m = held.some in
    let r = held.most in
    pieces_clear file c e s
    (λ p. narrow e s (before c s) (omega arith) (omega arith) (a p)) other
    (λ p. narrow e s (behind c s) (omega arith) (omega arith) (a p))
kept_if false file c e s h f other a = one_clear e s a

one_kept : (file : List ℕ) (c e : Extent) (s : Span) → s.from ≤ s.content → is_picture c.kind ≡ false → Avoids e s → Clear e (cut_one file c s)
unfolding cut_one
one_kept file c e s f other a = kept_if (holds c s) file c e s (held_of c s) f other a

cut_kept : (file : List ℕ) (c e : Extent) (from : ℕ) (spans : List Span) (end : ℕ) → AreSpans from spans end → is_picture c.kind ≡ false
    → Clear e spans → Clear e (cut file c spans)
cut_kept file c e from [] end o other a = All-nil (Avoids e)
cut_kept file c e from (s ∷ spans) end o other a =
    All-append (Avoids e) (cut_one file c s) (cut file c spans)
    (one_kept file c e s o.1 other (a 0 s (omega arith)))
    (cut_kept file c e s.end spans end o.3 other (λ k d h. a (suc k) d (omega arith)))

-- ---- spans avoid an extent that was cut out of them

own_clear : (file : List ℕ) (e : Extent) (s : Span) → is_picture e.kind ≡ false → Clear e (pieces file e s)
own_clear file e s other = pieces_clear file e e s (λ p. inr (omega arith)) other (λ p. inl (omega arith))

behind_if : (t : Bool) (file : List ℕ) (e : Extent) (s : Span) → e.end ≤ s.from → is_picture e.kind ≡ false
    → Clear e (cond t (pieces file e s) (s ∷ []))
behind_if true file e s h other = own_clear file e s other
behind_if false file e s h other = one_clear e s (λ p. inl h)

one_behind : (file : List ℕ) (e : Extent) (s : Span) → e.end ≤ s.from → is_picture e.kind ≡ false → Clear e (cut_one file e s)
unfolding cut_one
one_behind file e s h other = behind_if (holds e s) file e s h other

behind_clear : (file : List ℕ) (e : Extent) (from : ℕ) (spans : List Span) (end : ℕ) → AreSpans from spans end → e.end ≤ from
    → is_picture e.kind ≡ false → Clear e (cut file e spans)
behind_clear file e from [] end o h other = All-nil (Avoids e)
behind_clear file e from (s ∷ spans) end o h other =
    let at : s.from ≡ from = o.0 in
    let c : s.from ≤ s.content = o.1 in
    let l : s.content ≤ s.end = o.2 in
    All-append (Avoids e) (cut_one file e s) (cut file e spans) (one_behind file e s (omega arith) other)
    (behind_clear file e s.end spans end o.3 (omega arith) other)

held_from : (e : Extent) (s : Span) (spans : List Span) (from : ℕ) → s.from ≡ from → s.from ≤ s.content → s.content ≤ s.end
    → (holds e s ≡ true) ⊎ (is_held e spans ≡ true) → (is_held e spans ≡ true → s.end ≤ e.from) → from ≤ e.from
held_from e s spans from at c l (inl x) rest =
    let held = held_of e s x in
    let m = held.least in
    omega arith
held_from e s spans from at c l (inr y) rest =
    let m = rest y in
    omega arith

held_behind : (e : Extent) (from : ℕ) (spans : List Span) (end : ℕ) → AreSpans from spans end → is_held e spans ≡ true → from ≤ e.from
held_behind e from [] end o h = cc
held_behind e from (s ∷ spans) end o h =
    held_from e s spans from o.0 o.1 o.2 (either_of (holds e s) (is_held e spans) h) (λ y. held_behind e s.end spans end o.3 y)

clear_if : (t : Bool) (file : List ℕ) (e : Extent) (s : Span) (spans : List Span) (end : ℕ) → (t ≡ true → Held e s) → AreSpans s.end spans end
    → (t || is_held e spans) ≡ true → is_picture e.kind ≡ false → (is_held e spans ≡ true → Clear e (cut file e spans))
    → Clear e (cond t (pieces file e s) (s ∷ []) ++ cut file e spans)
clear_if true file e s spans end h o any other rest =
    let held = h refl in
    All-append (Avoids e) (pieces file e s) (cut file e spans) (own_clear file e s other) (behind_clear file e s.end spans end o held.most other)
clear_if false file e s spans end h o any other rest =
    let l = held_behind e s.end spans end o any in
    All-append (Avoids e) (s ∷ []) (cut file e spans) (one_clear e s (λ p. inr l)) (rest any)

first_clear : (file : List ℕ) (e : Extent) (s : Span) (spans : List Span) (end : ℕ) → AreSpans s.end spans end
    → (holds e s || is_held e spans) ≡ true → is_picture e.kind ≡ false → (is_held e spans ≡ true → Clear e (cut file e spans))
    → Clear e (cut_one file e s ++ cut file e spans)
unfolding cut_one
first_clear file e s spans end o any other rest = clear_if (holds e s) file e s spans end (held_of e s) o any other rest

cut_clear : (file : List ℕ) (e : Extent) (from : ℕ) (spans : List Span) (end : ℕ) → AreSpans from spans end → is_held e spans ≡ true
    → is_picture e.kind ≡ false → Clear e (cut file e spans)
cut_clear file e from [] end o any other = cc
cut_clear file e from (s ∷ spans) end o any other =
    first_clear file e s spans end o.3 any other (λ h. cut_clear file e s.end spans end o.3 h other)

-- ---- all extents

judged_if : (a b k : Bool) (file : List ℕ) (e : Extent) (spans : List Span) (judged : Bool)
    → (let made : List Span × Bool = cond a (spans, judged && k) (cond b (cut file e spans, judged) (spans, false)) in made.1 ≡ true) → judged ≡ true
judged_if true b k file e spans judged h = first_of judged k h
judged_if false true k file e spans judged h = h
judged_if false false k file e spans judged h = cc

one_judged : (file : List ℕ) (all : List Extent) (e : Extent) (c : List Span × Bool) → (carve_one file all e c).1 ≡ true → c.1 ≡ true
unfolding carve_one
one_judged file all e (spans, judged) h = judged_if _ _ (is_held e spans) file e spans judged h

made_clear : (a b k : Bool) (file : List ℕ) (e : Extent) (spans : List Span) (judged : Bool) (end : ℕ) → AreSpans 0 spans end → is_picture e.kind ≡ false
    → a ≡ false → (b ≡ true → is_held e spans ≡ true)
    → (let made : List Span × Bool = cond a (spans, judged && k) (cond b (cut file e spans, judged) (spans, false)) in made.1 ≡ true)
    → let made : List Span × Bool = cond a (spans, judged && k) (cond b (cut file e spans, judged) (spans, false)) in Clear e made.0
made_clear true b k file e spans judged end o other n held h = absurd (clash true refl n)
made_clear false true k file e spans judged end o other n held h = cut_clear file e 0 spans end o (held refl) other
made_clear false false k file e spans judged end o other n held h = absurd (clash false h refl)

one_carved_clear : (file : List ℕ) (all : List Extent) (e : Extent) (c : List Span × Bool) (end : ℕ) → AreSpans 0 c.0 end → is_picture e.kind ≡ false
    → (carve_one file all e c).1 ≡ true → Clear e (carve_one file all e c).0
unfolding carve_one
one_carved_clear file all e (spans, judged) end o other h =
    made_clear (is_picture e.kind) (is_alone e all && is_held e spans) (is_held e spans) file e spans judged end o other other (second_of (is_alone e all) (is_held e spans)) h

made_kept : (a b k : Bool) (file : List ℕ) (e z : Extent) (spans : List Span) (judged : Bool) (end : ℕ) → AreSpans 0 spans end
    → (a ≡ false → is_picture e.kind ≡ false) → Clear z spans
    → let made : List Span × Bool = cond a (spans, judged && k) (cond b (cut file e spans, judged) (spans, false)) in Clear z made.0
made_kept true b k file e z spans judged end o other a = a
made_kept false true k file e z spans judged end o other a = cut_kept file e z 0 spans end o (other refl) a
made_kept false false k file e z spans judged end o other a = a

one_carved_kept : (file : List ℕ) (all : List Extent) (e z : Extent) (c : List Span × Bool) (end : ℕ) → AreSpans 0 c.0 end → Clear z c.0
    → Clear z (carve_one file all e c).0
unfolding carve_one
one_carved_kept file all e z (spans, judged) end o a = made_kept (is_picture e.kind) _ (is_held e spans) file e z spans judged end o (λ n. n) a

each_judged : (file : List ℕ) (all es : List Extent) (c : List Span × Bool) → (carve_each file all es c).1 ≡ true → c.1 ≡ true
each_judged file all [] c h = h
each_judged file all (e ∷ es) c h = one_judged file all e c (each_judged file all es (carve_one file all e c) h)

each_kept : (file : List ℕ) (all es : List Extent) (z : Extent) (c : List Span × Bool) (end : ℕ) → AreSpans 0 c.0 end → Clear z c.0
    → Clear z (carve_each file all es c).0
each_kept file all [] z c end o a = a
each_kept file all (e ∷ es) z c end o a =
    each_kept file all es z (carve_one file all e c) end (one_carved file all e c end o) (one_carved_kept file all e z c end o a)

abbrev IsClear : List Span → Extent → Type 0
IsClear spans e = is_picture e.kind ≡ false → Clear e spans

each_clear : (file : List ℕ) (all es : List Extent) (c : List Span × Bool) (end : ℕ) → AreSpans 0 c.0 end → (carve_each file all es c).1 ≡ true
    → All (IsClear (carve_each file all es c).0) es
each_clear file all [] c end o h = All-nil (IsClear c.0)
each_clear file all (e ∷ es) c end o h =
    let next = carve_one file all e c in
    let ordered = one_carved file all e c end o in
    All-cons (IsClear (carve_each file all es next).0) e es
    (λ other. each_kept file all es e next end ordered (one_carved_clear file all e c end o other (each_judged file all es next h)))
    (each_clear file all es next end ordered h)

carved_if : (t : Bool) (file : List ℕ) (es : List Extent) (spans : List Span) (judged : Bool) (end : ℕ) → AreSpans 0 spans end
    → (let made : List Span × Bool = cond t (spans, false) (carve_each file es es (spans, judged)) in made.1 ≡ true)
    → let made : List Span × Bool = cond t (spans, false) (carve_each file es es (spans, judged)) in All (IsClear made.0) es
carved_if true file es spans judged end o h = absurd (clash false h refl)
carved_if false file es spans judged end o h = each_clear file es es (spans, judged) end o h

carved_clear : (file : List ℕ) (es : List Extent) (spans : List Span) (judged : Bool) (end : ℕ) → AreSpans 0 spans end
    → (carved file es (spans, judged)).1 ≡ true → All (IsClear (carved file es (spans, judged)).0) es
unfolding carved
carved_clear file es spans judged end o h = carved_if _ file es spans judged end o h

-- ---- what no extent has

kept_if_carved : (t : Bool) (file : List ℕ) (gaps : List Extent) (spans : List Span) (judged : Bool) (z : Extent) (end : ℕ) → AreSpans 0 spans end → Clear z spans
    → let made : List Span × Bool = cond t (spans, false) (carve_each file gaps gaps (spans, judged)) in Clear z made.0
kept_if_carved true file gaps spans judged z end o a = a
kept_if_carved false file gaps spans judged z end o a = each_kept file gaps gaps z (spans, judged) end o a

carved_kept : (file : List ℕ) (gaps : List Extent) (spans : List Span) (judged : Bool) (z : Extent) (end : ℕ) → AreSpans 0 spans end → Clear z spans
    → Clear z (carved file gaps (spans, judged)).0
unfolding carved
carved_kept file gaps spans judged z end o a = kept_if_carved _ file gaps spans judged z end o a

gaps_if : (t : Bool) (file : List ℕ) (gaps : List Extent) (spans : List Span) (judged : Bool) (z : Extent) (end : ℕ) → AreSpans 0 spans end → Clear z spans
    → let made : List Span × Bool = cond t (spans, false) (carved file gaps (spans, judged)) in Clear z made.0
gaps_if true file gaps spans judged z end o a = a
gaps_if false file gaps spans judged z end o a = carved_kept file gaps spans judged z end o a

gaps_kept : (file : List ℕ) (es : List Extent) (c : List Span × Bool) (z : Extent) (end : ℕ) → AreSpans 0 c.0 end → Clear z c.0
    → Clear z (gaps_cut file es c).0
gaps_kept file es (spans, judged) z end o a = gaps_if _ file (gaps_of file es spans) spans judged z end o a

judged_first : (judged many : Bool) (file : List ℕ) (gaps : List Extent) (spans : List Span)
    → (let made : List Span × Bool = cond (not judged || many) (spans, false) (carved file gaps (spans, judged)) in made.1 ≡ true) → judged ≡ true
judged_first true many file gaps spans h = refl
judged_first false many file gaps spans h = absurd (clash false h refl)

gaps_judged : (file : List ℕ) (es : List Extent) (c : List Span × Bool) → (gaps_cut file es c).1 ≡ true → c.1 ≡ true
gaps_judged file es (spans, judged) h = judged_first judged _ file (gaps_of file es spans) spans h

same_list : (xs ys : List Extent) → ◌≡◌ {A = Option (List Extent)} (Some xs) (Some ys) → xs ≡ ys
same_list xs ys e = cc

settled_clear : (file : List ℕ) (found : List Span) (o : Option (List Extent)) (es : List Extent) (end : ℕ) → AreSpans 0 found end
    → (settled file found o).1 ≡ true → o ≡ Some es → All (IsClear (settled file found o).0) es
settled_clear file found None es end o h e = absurd (clash false h refl)
settled_clear file found (Some xs) es end o h e =
    let judged = not (has Movie found) in
    let c = carved file xs (found, judged) in
    let clear = carved_clear file xs found judged end o (gaps_judged file xs c h) in
    let ordered = carved_ordered file xs found judged end o in
    subst (λ (ys : List Extent). All (IsClear (settled file found (Some xs)).0) ys) (same_list xs es e)
    (All-weaker (IsClear c.0) (IsClear (gaps_cut file xs c).0) (λ z a. λ other. gaps_kept file xs c z end ordered (a other)) xs clear)

-- the layout of a file is so
pub picture_apart : (file : List ℕ) (found spans : List Span) (judged : Bool) → found ≡ spans_of file → AreSpans 0 found (length file)
    → (spans, judged) ≡ settled file found (extents_in file found) → PictureIsApart file (spans, judged)
picture_apart file found spans judged f o s j es e =
    let same : extents_in file found ≡ Some es = ap (extents_in file) f ∙ e in
    let h : (settled file found (extents_in file found)).1 ≡ true = ap (λ (c : List Span × Bool). c.1) (sym s) ∙ j in
    subst (λ (c : List Span × Bool). All (IsClear c.0) es) (sym s) (settled_clear file found (extents_in file found) es (length file) o h same)
