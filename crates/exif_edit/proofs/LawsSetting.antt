-- The old value set again gives the old bytes.
use Rattle.std.proofs.Common.{◌≡◌, ◌≤◌, ◌<◌, ◌+◌, ◌==◌, ℕ, Bool, true, false, List, [], ◌∷◌, ◌++◌, length, get_or, All, Some, Option, Result, Ok, inl, inr, ◌⊎◌, refl, sym, ap, subst, ◌∙◌, arith}
use Rattle.std.specs.Prelude.{if◌then◌else◌, nat_lt}
use Rattle.std.proofs.lemmas.Bool.{false≢true}
use Rattle.std.proofs.lemmas.Grind.{common_steps}
use Rattle.std.proofs.lemmas.Bool.Decides.{nat_tests}
use Rattle.std.proofs.lemmas.List.{ext_get_or}
use Rattle.std.proofs.lemmas.List.Elements.{All-nil, All-cons, All-head, All-tail}
use Rattle.exif_base.specs.Orders.{number_of, order_named}
use Rattle.exif_base.specs.declared.endian.Order.{Order}
use Rattle.exif_text.specs.declared.ifd.In.{In}
use Rattle.exif_types.specs.declared.tag.Tag.{Tag}
use Rattle.exif_types.specs.declared.value.Value.{Value}
use Rattle.exif_tiff.specs.Trace.{header}
use Rattle.exif_tiff.specs.declared.fault.Fault.{Fault}
use Rattle.exif_layout.specs.Encoding.{encode}
use Rattle.exif_edit_base.specs.Locations.{Located, located}
use Rattle.exif_edit_base.specs.Finding.{last_located}
use Rattle.exif_edit_base.specs.Patches.{FitsIn, patched, put_at}
use Rattle.exif_edit_base.specs.declared.patch.Patch.{Patch}
use Rattle.exif_edit_base.specs.declared.patch.Span.{Span}
use Rattle.exif_edit_base.proofs.CauseSteps.{bound, ok_same}
use Rattle.exif_edit_base.proofs.FindSteps.{header_named}
use Rattle.exif_edit_base.proofs.PatchSteps.{Misses, fit_behind, fit_in, length-patched, patched_outside, put_before, put_behind, put_on}
use Rattle.exif_edit.specs.Promises.{SetsBack}
use Rattle.exif_edit_base.specs.Spans.{value_space}
use Rattle.exif_edit.specs.Setting.{entry_bytes, space_bytes, set_answer, set_patches, value_patches}
use Rattle.exif_edit.proofs.SetSound.{Fits, WasSet, both, value_fits, value_lengths, was_set}

-- whether a patch touches the byte at i
touched : (p : Patch) (i : ℕ) → Misses i p ⊎ ((p.offset ≤ i) × (i < p.offset + length p.bytes))
touched p i = by_test (nat_lt i p.offset) (nat_lt i (p.offset + length p.bytes)) refl refl
  where
    by_test : (a b : Bool) → nat_lt i p.offset ≡ a → nat_lt i (p.offset + length p.bytes) ≡ b
        → Misses i p ⊎ ((p.offset ≤ i) × (i < p.offset + length p.bytes))
    by_test true b e f = inl (inl (grind (arith, nat_tests)))
    by_test false true e f = inr (grind (arith, nat_tests), grind (arith, nat_tests))
    by_test false false e f = inl (inr (grind (arith, nat_tests)))

-- what patches make of two bytes is the same where they are the same, or a patch touches them
same_at : (qs : List Patch) (xs ys : List ℕ) (i : ℕ) → length xs ≡ length ys
    → All (FitsIn (length xs)) qs
    → (All (Misses i) qs → get_or xs i 0 ≡ get_or ys i 0)
    → get_or (patched qs xs) i 0 ≡ get_or (patched qs ys) i 0
same_at [] xs ys i l f k = k (All-nil (Misses i))
same_at (q ∷ qs) xs ys i l f k =
    let fx = All-head (FitsIn (length xs)) q qs f in
    let g = fit_in (length xs) (length ys) (q ∷ qs) l f in
    let fy = All-head (FitsIn (length ys)) q qs g in
    let m : length (put_at q.offset q.bytes xs) ≡ length (put_at q.offset q.bytes ys) =
    grind (arith, common_steps) in
    same_at qs (put_at q.offset q.bytes xs) (put_at q.offset q.bytes ys) i m (fit_behind q qs xs f)
    (by_touch (touched q i) fx fy)
  where
    by_touch : Misses i q ⊎ ((q.offset ≤ i) × (i < q.offset + length q.bytes))
        → q.offset + length q.bytes ≤ length xs → q.offset + length q.bytes ≤ length ys
        → All (Misses i) qs
        → get_or (put_at q.offset q.bytes xs) i 0 ≡ get_or (put_at q.offset q.bytes ys) i 0
    by_touch (inl (inl a)) fx fy m =
        put_before q.offset q.bytes xs i fx a
        ∙ (k (All-cons (Misses i) q qs (inl a) m) ∙ sym (put_before q.offset q.bytes ys i fy a))
    by_touch (inl (inr a)) fx fy m =
        put_behind q.offset q.bytes xs i fx a
        ∙ (k (All-cons (Misses i) q qs (inr a) m) ∙ sym (put_behind q.offset q.bytes ys i fy a))
    by_touch (inr a) fx fy m =
        put_on q.offset q.bytes xs i fx a.0 a.1 ∙ sym (put_on q.offset q.bytes ys i fy a.0 a.1)

-- ---- patches of one space and one entry

-- what holds of all holds of each
parts : (P : Patch → Type 0) (order : Order) (value : Value) (e : ℕ) (s : Span)
    → All P (value_patches order value e s)
    → ((s.len == 0) ≡ false
    → P (record { offset = s.offset; bytes = space_bytes s.len (encode order value) }))
    × P (record { offset = e + 2; bytes = entry_bytes order value s.offset (encode order value) })
parts P order value e s h =
    by_test (s.len == 0) refl
    (record { offset = s.offset; bytes = space_bytes s.len (encode order value) })
    (record { offset = e + 2; bytes = entry_bytes order value s.offset (encode order value) }) h
  where
    by_test : (z : Bool) → (s.len == 0) ≡ z → (space entry : Patch)
        → All P ((if z then [] else space ∷ []) ++ entry ∷ [])
        → ((s.len == 0) ≡ false → P space) × P entry
    by_test true e space entry h = (λ f. absurd (false≢true (sym f ∙ e)), All-head P entry [] h)
    by_test false e space entry h =
        (λ f. All-head P space (entry ∷ []) h, All-head P entry [] (All-tail P space (entry ∷ []) h))

-- a byte that one value's patches miss is missed by another's of the same space
misses_too : (order : Order) (first value : Value) (e : ℕ) (s : Span) (i : ℕ)
    → length (space_bytes s.len (encode order first)) ≡ s.len
    → length (space_bytes s.len (encode order value)) ≡ s.len
    → length (entry_bytes order first s.offset (encode order first)) ≡ 10
    → length (entry_bytes order value s.offset (encode order value)) ≡ 10
    → All (Misses i) (value_patches order first e s)
    → All (Misses i) (value_patches order value e s)
misses_too order first value e s i a b c d h =
    let p = parts (Misses i) order first e s h in
    both (Misses i) order value e s
    (λ f. subst (λ n. (i < s.offset) ⊎ (s.offset + n ≤ i)) (a ∙ sym b) (p.0 f))
    (subst (λ n. (i < e + 2) ⊎ (e + 2 + n ≤ i)) (c ∙ sym d) p.1)

-- ---- the law

-- the same header has one order
one_order : (bytes : List ℕ) (a b : Order) → header bytes ≡ Ok a → header bytes ≡ Ok b → a ≡ b
one_order bytes a b h k = same (sym h ∙ k)
  where
    same : ◌≡◌ {A = Result Order Fault} (Ok a) (Ok b) → a ≡ b
    same e = cc

one_located : (x : Option Located) (a b : Located) → x ≡ Some a → x ≡ Some b → a ≡ b
one_located x a b h k = same (sym h ∙ k)
  where
    same : ◌≡◌ {A = Option Located} (Some a) (Some b) → a ≡ b
    same e = cc

-- the answer's patches
answered : (bytes out : List ℕ) (tag : Tag) (k : In) (value : Value)
    → set_answer bytes tag k value ≡ Ok out
    → (ps : List Patch) × (set_patches bytes tag k value ≡ Ok ps) × (patched ps bytes ≡ out)
answered bytes out tag k value h =
    let a = bound (set_patches bytes tag k value) (λ ps. Ok (patched ps bytes)) out h in
    (a.0, a.1, ok_same (patched a.0 bytes) out a.2)

-- patches that fit, in the words of an order and an entry that are known
fits_at : (bytes : List ℕ) (ps : List Patch) (tag : Tag) (k : In) (value : Value) (order : Order)
    (at : Located) → WasSet bytes tag k value ps → header bytes ≡ Ok order
    → last_located tag k (located bytes) ≡ Some at → Fits order value at.entry bytes ps
fits_at bytes ps tag k value order at w h l =
    let o = one_order bytes (order_named w.read.little) order (header_named bytes w.read w.reads)
    h in
    let a = one_located (last_located tag k (located bytes)) w.at at w.last l in
    subst (λ (x : Located). Fits order value x.entry bytes ps) a
    (subst (λ x. Fits x value w.at.entry bytes ps) o w.fits)

-- patches put over others of the same space make what they make of the bytes before
overwritten : (order : Order) (first value : Value) (e : ℕ) (old : List ℕ) (ps rs : List Patch)
    → Fits order first e old rs → Fits order value e old ps
    → patched rs (patched ps old) ≡ patched rs old
overwritten order first value e old ps rs f g =
    let fr = value_fits order first e old rs f in
    let fp = value_fits order value e old ps g in
    let l = length-patched ps old fp in
    let frp = fit_in (length old) (length (patched ps old)) rs (sym l) fr in
    let s = value_space (number_of order) old e in
    let a = value_lengths order first s f.encoded in
    let b = value_lengths order value s g.encoded in
    ext_get_or 0 (patched rs (patched ps old)) (patched rs old)
    (length-patched rs (patched ps old) frp ∙ (l ∙ sym (length-patched rs old fr)))
    (λ i h. same_at rs (patched ps old) old i l frp (λ m. patched_outside ps old i fp
    (subst (λ qs. All (Misses i) qs) (sym g.is)
    (misses_too order first value e s i a.0 b.0 a.1 b.1
    (subst (λ qs. All (Misses i) qs) f.is m)))))

-- the old value, set again after another, gives the bytes from before if the field keeps its offset
pub set_back : (old : List ℕ) (tag : Tag) (k : In) (value first : Value)
    → SetsBack tag k value first old
set_back old tag k value first new back h0 h1 keep h2 =
    let r = answered old old tag k first h0 in
    let p = answered old new tag k value h1 in
    let q = answered new back tag k first h2 in
    let f0 = fits_at old r.0 tag k first keep.order keep.at (was_set old r.0 tag k first r.1)
    keep.before keep.was in
    let f1 = fits_at old p.0 tag k value keep.order keep.at (was_set old p.0 tag k value p.1)
    keep.before keep.was in
    let f2 = fits_at new q.0 tag k first keep.order keep.now (was_set new q.0 tag k first q.1)
    keep.after keep.is in
    let same : q.0 ≡ r.0 =
    f2.is ∙ (ap (λ x. value_patches keep.order first x (value_space (number_of keep.order) new x))
    keep.entry
    ∙ (ap (λ s. value_patches keep.order first keep.at.entry s) keep.space ∙ sym f0.is)) in
    sym q.2 ∙ (ap (λ ps. patched ps new) same ∙ (ap (λ xs. patched r.0 xs) (sym p.2)
    ∙ (overwritten keep.order first value keep.at.entry old p.0 r.0 f0 f1 ∙ r.2)))
