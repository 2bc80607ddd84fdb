-- One value, set at one position of two data.
use Rattle.std.proofs.Common.{◌≡◌, ◌≤◌, ◌<◌, ◌+◌, ◌==◌, ℕ, Bool, true, false, List, [], ◌∷◌, ◌++◌, length, get_or, All, inl, inr, ◌⊎◌, refl, sym, ap, subst, ◌∙◌, arith}
use Rattle.std.specs.Prelude.{◌&&◌, if◌then◌else◌, nat_le, nat_lt}
use Rattle.std.proofs.lemmas.Bool.{false≢true}
use Rattle.std.proofs.lemmas.Grind.{common_steps}
use Rattle.std.proofs.lemmas.Bool.Decides.{nat_tests}
use Rattle.std.proofs.lemmas.List.Elements.{All-nil, All-cons, All-head, All-tail}
use Rattle.exif_base.specs.Orders.{number_of}
use Rattle.exif_base.specs.declared.endian.Order.{Order}
use Rattle.exif_types.specs.declared.value.Value.{Value}
use Rattle.exif_layout.specs.Encoding.{encode}
use Rattle.exif_edit_base.specs.Patches.{FitsIn, inside, patched, put_at}
use Rattle.exif_edit_base.specs.declared.patch.Patch.{Patch}
use Rattle.exif_edit_base.specs.declared.patch.Span.{Span}
use Rattle.exif_edit_base.proofs.PatchSteps.{Misses, fit_behind, fit_in, put_before, put_behind, put_on}
use Rattle.exif_edit_base.specs.Spans.{value_space}
use Rattle.exif_edit.specs.Setting.{entry_bytes, space_bytes, value_patches}
use Rattle.exif_edit.proofs.SetSound.{Fits, value_fits, value_lengths}

-- whether a patch touches the byte at i
touched : (p : Patch) (i : ℕ) → Misses i p ⊎ ((p.offset ≤ i) × (i < p.offset + length p.bytes))
touched p i = by_test (nat_lt i p.offset) (nat_lt i (p.offset + length p.bytes)) refl refl
  where
    by_test : (a b : Bool) → nat_lt i p.offset ≡ a → nat_lt i (p.offset + length p.bytes) ≡ b
        → Misses i p ⊎ ((p.offset ≤ i) × (i < p.offset + length p.bytes))
    by_test true b e f = inl (inl (grind (arith, nat_tests)))
    by_test false true e f = inr (grind (arith, nat_tests), grind (arith, nat_tests))
    by_test false false e f = inl (inr (grind (arith, nat_tests)))

-- what patches make of two bytes is the same where they are the same, or a patch touches them
same_at : (qs : List Patch) (xs ys : List ℕ) (i : ℕ) → length xs ≡ length ys
    → All (FitsIn (length xs)) qs
    → (All (Misses i) qs → get_or xs i 0 ≡ get_or ys i 0)
    → get_or (patched qs xs) i 0 ≡ get_or (patched qs ys) i 0
same_at [] xs ys i l f k = k (All-nil (Misses i))
same_at (q ∷ qs) xs ys i l f k =
    let fx = All-head (FitsIn (length xs)) q qs f in
    let g = fit_in (length xs) (length ys) (q ∷ qs) l f in
    let fy = All-head (FitsIn (length ys)) q qs g in
    let m : length (put_at q.offset q.bytes xs) ≡ length (put_at q.offset q.bytes ys) =
    grind (arith, common_steps) in
    same_at qs (put_at q.offset q.bytes xs) (put_at q.offset q.bytes ys) i m (fit_behind q qs xs f)
    (by_touch (touched q i) fx fy)
  where
    by_touch : Misses i q ⊎ ((q.offset ≤ i) × (i < q.offset + length q.bytes))
        → q.offset + length q.bytes ≤ length xs → q.offset + length q.bytes ≤ length ys
        → All (Misses i) qs
        → get_or (put_at q.offset q.bytes xs) i 0 ≡ get_or (put_at q.offset q.bytes ys) i 0
    by_touch (inl (inl a)) fx fy m =
        put_before q.offset q.bytes xs i fx a
        ∙ (k (All-cons (Misses i) q qs (inl a) m) ∙ sym (put_before q.offset q.bytes ys i fy a))
    by_touch (inl (inr a)) fx fy m =
        put_behind q.offset q.bytes xs i fx a
        ∙ (k (All-cons (Misses i) q qs (inr a) m) ∙ sym (put_behind q.offset q.bytes ys i fy a))
    by_touch (inr a) fx fy m =
        put_on q.offset q.bytes xs i fx a.0 a.1 ∙ sym (put_on q.offset q.bytes ys i fy a.0 a.1)

-- what holds of all patches of a value holds of each
parts : (P : Patch → Type 0) (order : Order) (value : Value) (e : ℕ) (s : Span)
    → All P (value_patches order value e s)
    → ((s.len == 0) ≡ false
    → P (record { offset = s.offset; bytes = space_bytes s.len (encode order value) }))
    × P (record { offset = e + 2; bytes = entry_bytes order value s.offset (encode order value) })
parts P order value e s h =
    by_test (s.len == 0) refl
    (record { offset = s.offset; bytes = space_bytes s.len (encode order value) })
    (record { offset = e + 2; bytes = entry_bytes order value s.offset (encode order value) }) h
  where
    by_test : (z : Bool) → (s.len == 0) ≡ z → (space entry : Patch)
        → All P ((if z then [] else space ∷ []) ++ entry ∷ [])
        → ((s.len == 0) ≡ false → P space) × P entry
    by_test true e space entry h = (λ f. absurd (false≢true (sym f ∙ e)), All-head P entry [] h)
    by_test false e space entry h =
        (λ f. All-head P space (entry ∷ []) h, All-head P entry [] (All-tail P space (entry ∷ []) h))

-- an offset that is not within a span
beyond : (i : ℕ) (s : Span) → (i < s.offset) ⊎ (s.offset + s.len ≤ i) → inside i s ≡ false
beyond i s (inl a) = let no : nat_le s.offset i ≡ false = grind (arith, nat_tests, a) in rw no refl
beyond i s (inr a) =
    let no : nat_lt i (s.offset + s.len) ≡ false = grind (arith, nat_tests, a) in
    by_test (nat_le s.offset i) no
  where
    by_test : (b : Bool) → nat_lt i (s.offset + s.len) ≡ false → (b && nat_lt i (s.offset + s.len)) ≡ false
    by_test true x = x
    by_test false x = refl

-- the same value set at one position of data that are the same elsewhere
pub set_two : (order : Order) (value : Value) (e : ℕ) (xs ys : List ℕ) (ps qs : List Patch)
    → Fits order value e xs ps → Fits order value e ys qs
    → value_space (number_of order) ys e ≡ value_space (number_of order) xs e
    → length xs ≡ length ys → (i : ℕ)
    → (inside i (record { offset = e + 2; len = 10 }) ≡ false → inside i (value_space (number_of order) xs e) ≡ false
    → get_or xs i 0 ≡ get_or ys i 0)
    → get_or (patched ps xs) i 0 ≡ get_or (patched qs ys) i 0
set_two order value e xs ys ps qs f g same l i k =
    let s = value_space (number_of order) xs e in
    let one : qs ≡ ps = g.is ∙ (ap (λ (t : Span). value_patches order value e t) same ∙ sym f.is) in
    let lens = value_lengths order value s f.encoded in
    same_at ps xs ys i l (value_fits order value e xs ps f)
    (λ m. let p = parts (Misses i) order value e s (subst (λ (rs : List Patch). All (Misses i) rs) f.is m) in
    k (beyond i (record { offset = e + 2; len = 10 }) (subst (λ (n : ℕ). (i < e + 2) ⊎ (e + 2 + n ≤ i)) lens.1 p.1))
    (by_len s (s.len == 0) refl (λ z. subst (λ (n : ℕ). (i < s.offset) ⊎ (s.offset + n ≤ i)) lens.0 (p.0 z))))
    ∙ ap (λ (rs : List Patch). get_or (patched rs ys) i 0) (sym one)
  where
    by_len : (s : Span) (z : Bool) → (s.len == 0) ≡ z → ((s.len == 0) ≡ false → (i < s.offset) ⊎ (s.offset + s.len ≤ i)) → inside i s ≡ false
    by_len s false e h = beyond i s (h e)
    by_len s true e h =
        let none : s.len ≡ 0 = grind (arith, nat_tests, e) in
        by_side (nat_lt i s.offset) refl none
      where
        by_side : (b : Bool) → nat_lt i s.offset ≡ b → s.len ≡ 0 → inside i s ≡ false
        by_side true t none = beyond i s (inl (grind (arith, nat_tests, t)))
        by_side false t none = let low : s.offset ≤ i = grind (arith, nat_tests, t) in beyond i s (inr (omega (arith, none, low)))
