-- Patches that are spread over the extents of data.
use Rattle.std.proofs.Common.{◌≡◌, ◌≤◌, ◌<◌, ◌+◌, ◌-◌, ◌^◌, min, ℕ, Bool, true, false, List, [], ◌∷◌, ◌++◌, length, take, drop, All, inl, inr, refl, sym, ap, ◌∙◌, arith, append_assoc}
use Rattle.std.specs.Prelude.{if◌then◌else◌, nat_le}
use Rattle.std.specs.Io.Iter.{u64_saturate}
use Rattle.std.proofs.lemmas.Bool.Decides.{nat_tests}
use Rattle.std.proofs.lemmas.Grind.{common_steps}
use Rattle.std.proofs.lemmas.List.{drop-append-le, length-take-le, take-append-drop, take-append-le}
use Rattle.std.proofs.lemmas.List.Elements.{All-nil, All-cons, All-head, All-tail, All-append}
use Rattle.std.proofs.Math.Seq.{drop-append-add, take-append-add}
use Rattle.exif_isobmff.specs.Extents.{IsWhole}
use Rattle.exif_isobmff.specs.declared.locations.Extent.{Extent}
use Rattle.exif_isobmff.proofs.ExtentRanges.{small}
use Rattle.exif_edit_base.specs.Patches.{FitsIn, patched, put_at}
use Rattle.exif_edit_base.specs.declared.patch.Patch.{Patch}
use Rattle.exif_edit_base.proofs.PatchSteps.{Misses, fit_behind, length-put_at}
use Rattle.exif_edit.proofs.RemoveSound.{patched-append}
use Rattle.exif_edit.specs.InFiles.{Avoids}
use Rattle.exif_edit.specs.Spreading.{first_of, rest_of, shifted, spread, spread_one, without}

-- an extent that has bytes lies in the file
whole_within : (file : List ℕ) (e : Extent) → IsWhole file e → 0 < e.len
    → e.offset + e.len ≤ length file
whole_within file e w some =
    let d : length (drop e.offset file) ≡ length file - e.offset = grind (arith, common_steps) in
    let t : length (take e.len (drop e.offset file)) ≡ min e.len (length (drop e.offset file)) =
    grind (arith, common_steps) in
    omega (arith, w, d, t)

-- ---- each of them lies in the file

shifted_fits : (file : List ℕ) (e : Extent) (p : Patch) → e.offset + e.len ≤ length file
    → p.offset + length p.bytes ≤ e.len → FitsIn (length file) (shifted e.offset p)
shifted_fits file e p w f = omega arith

-- a condition on the patches of which each lies in an extent
each_one : (P : Patch → Type 0) (e : Extent) (es : List Extent) (p : Patch)
    → ((q : Patch) → q.offset < e.len → q.offset + length q.bytes ≤ e.len → P (shifted e.offset q))
    → ((q : Patch) → All P (spread_one es q)) → All P (spread_one (e ∷ es) p)
each_one P e es p one others = by_behind (nat_le e.len p.offset) refl
  where
    by_behind : (b : Bool) → nat_le e.len p.offset ≡ b
        → All P (if b then spread_one es (without e.len p) else
        (if nat_le (length p.bytes) (e.len - p.offset) then shifted e.offset p ∷ [] else
        shifted e.offset (first_of (e.len - p.offset) p)
        ∷ spread_one es (rest_of (e.len - p.offset) p)))
    by_behind true t = others (without e.len p)
    by_behind false t =
        let before : p.offset < e.len = grind (arith, nat_tests) in
        by_within before (nat_le (length p.bytes) (e.len - p.offset)) refl
      where
        by_within : p.offset < e.len → (b : Bool) → nat_le (length p.bytes) (e.len - p.offset) ≡ b
            → All P (if b then shifted e.offset p ∷ [] else
            shifted e.offset (first_of (e.len - p.offset) p)
            ∷ spread_one es (rest_of (e.len - p.offset) p))
        by_within before true t =
            let l : length p.bytes ≤ e.len - p.offset = grind (arith, nat_tests) in
            All-cons P (shifted e.offset p) [] (one p before (omega arith)) (All-nil P)
        by_within before false t =
            let l : e.len - p.offset ≤ length p.bytes = grind (arith, nat_tests) in
            let n = length-take-le (e.len - p.offset) p.bytes l in
            All-cons P (shifted e.offset (first_of (e.len - p.offset) p)) _
            (one (first_of (e.len - p.offset) p) before (omega arith))
            (others (rest_of (e.len - p.offset) p))

one_fits : (file : List ℕ) (es : List Extent) → All (IsWhole file) es → (p : Patch)
    → All (FitsIn (length file)) (spread_one es p)
one_fits file [] w p = All-nil (FitsIn (length file))
one_fits file (e ∷ es) w p =
    each_one (FitsIn (length file)) e es p
    (λ q before within. shifted_fits file e q
    (whole_within file e (All-head (IsWhole file) e es w) (omega arith)) within)
    (one_fits file es (All-tail (IsWhole file) e es w))

-- patches of data that are in extents of the file lie in the file
pub spread_fits : (file : List ℕ) (es : List Extent) (ps : List Patch) → All (IsWhole file) es
    → All (FitsIn (length file)) (spread es ps)
spread_fits file es [] w = All-nil (FitsIn (length file))
spread_fits file es (p ∷ ps) w =
    All-append (FitsIn (length file)) (spread_one es p) (spread es ps) (one_fits file es w p)
    (spread_fits file es ps w)

-- ---- and touches no byte outside of the extents

shifted_misses : (file : List ℕ) (e : Extent) (p : Patch) (i : ℕ) → length file < 2 ^ 64
    → e.offset + e.len ≤ length file → p.offset + length p.bytes ≤ e.len → Avoids i e
    → Misses i (shifted e.offset p)
shifted_misses file e p i s w f (inl a) = inl (omega arith)
shifted_misses file e p i s w f (inr a) = inr (omega arith)

one_misses : (file : List ℕ) (i : ℕ) (es : List Extent) → length file < 2 ^ 64
    → All (IsWhole file) es → All (Avoids i) es → (p : Patch) → All (Misses i) (spread_one es p)
one_misses file i [] s w a p = All-nil (Misses i)
one_misses file i (e ∷ es) s w a p =
    each_one (Misses i) e es p
    (λ q before within. shifted_misses file e q i s
    (whole_within file e (All-head (IsWhole file) e es w) (omega arith)) within
    (All-head (Avoids i) e es a))
    (one_misses file i es s (All-tail (IsWhole file) e es w) (All-tail (Avoids i) e es a))

-- patches of data that are in extents of the file touch no byte outside of these
pub spread_misses : (file : List ℕ) (i : ℕ) (es : List Extent) (ps : List Patch)
    → length file < 2 ^ 64 → All (IsWhole file) es → All (Avoids i) es
    → All (Misses i) (spread es ps)
spread_misses file i es [] s w a = All-nil (Misses i)
spread_misses file i es (p ∷ ps) s w a =
    All-append (Misses i) (spread_one es p) (spread es ps) (one_misses file i es s w a p)
    (spread_misses file i es ps s w a)

-- ---- data in one extent

no_bytes : (offset : ℕ) (encoded bytes : List ℕ) → length encoded ≡ 0 → bytes ≡ put_at offset encoded bytes
no_bytes offset [] bytes e =
    let n : offset + 0 ≡ offset = omega arith in
    sym (ap (λ k. take offset bytes ++ drop k bytes) n ∙ take-append-drop offset bytes)
no_bytes offset (b ∷ encoded) bytes e = absurd (omega arith)

one_patch : (e : Extent) (p : Patch) (file : List ℕ) → p.offset + length p.bytes ≤ e.len
    → patched (spread_one (e ∷ []) p) file
    ≡ put_at (u64_saturate (e.offset + p.offset)) p.bytes file
one_patch e p file f = by_behind (nat_le e.len p.offset) refl
  where
    within : nat_le e.len p.offset ≡ false → nat_le (length p.bytes) (e.len - p.offset) ≡ true
    within t = grind (arith, nat_tests)

    by_behind : (b : Bool) → nat_le e.len p.offset ≡ b
        → patched (if b then spread_one [] (without e.len p) else
        (if nat_le (length p.bytes) (e.len - p.offset) then shifted e.offset p ∷ [] else
        shifted e.offset (first_of (e.len - p.offset) p)
        ∷ spread_one [] (rest_of (e.len - p.offset) p))) file
        ≡ put_at (u64_saturate (e.offset + p.offset)) p.bytes file
    by_behind true t =
        let l : e.len ≤ p.offset = grind (arith, nat_tests) in
        no_bytes (u64_saturate (e.offset + p.offset)) p.bytes file (omega arith)
    by_behind false t = rw (within t) refl

put_front : (front p rest encoded : List ℕ) (offset : ℕ) → offset + length encoded ≤ length p
    → put_at (length front + offset) encoded (front ++ (p ++ rest)) ≡ front
    ++ (put_at offset encoded p ++ rest)
put_front front p rest encoded offset h =
    let n = offset + length encoded in
    let a : take (length front + offset) (front ++ (p ++ rest)) ≡ front ++ take offset p =
    take-append-add front (p ++ rest) offset
    ∙ ap (λ xs. front ++ xs) (take-append-le offset p rest (omega arith)) in
    let k : length front + offset + length encoded ≡ length front + n = omega arith in
    let b : drop (length front + offset + length encoded) (front ++ (p ++ rest)) ≡ drop n p ++ rest =
    ap (λ i. drop i (front ++ (p ++ rest))) k
    ∙ (drop-append-add front (p ++ rest) n ∙ drop-append-le n p rest h) in
    rw (a, b)
    (append_assoc front (take offset p) (encoded ++ (drop n p ++ rest))
    ∙ ap (λ xs. front ++ xs)
    (ap (λ xs. take offset p ++ xs) (sym (append_assoc encoded (drop n p) rest))
    ∙ sym (append_assoc (take offset p) (encoded ++ drop n p) rest)))

-- patches of data between a front and a rest change what is between them as they change the data
pub spread_front : (ps : List Patch) (front p rest : List ℕ) → length front + length p < 2 ^ 64
    → All (FitsIn (length p)) ps
    → patched (spread (record { offset = length front; len = length p } ∷ []) ps)
    (front ++ (p ++ rest))
    ≡ front ++ (patched ps p ++ rest)
spread_front [] front p rest s h = refl
spread_front (q ∷ qs) front p rest s h =
    let e : Extent = record { offset = length front; len = length p } in
    let f = All-head (FitsIn (length p)) q qs h in
    let new = put_at q.offset q.bytes p in
    let l : length new ≡ length p = length-put_at q.offset q.bytes p f in
    let o : u64_saturate (length front + q.offset) ≡ length front + q.offset =
    small (length front + q.offset) (omega arith) in
    patched-append (spread_one (e ∷ []) q) (spread (e ∷ []) qs) (front ++ (p ++ rest))
    ∙ (ap (patched (spread (e ∷ []) qs)) (one_patch e q (front ++ (p ++ rest)) f
    ∙ (ap (λ n. put_at n q.bytes (front ++ (p ++ rest))) o ∙ put_front front p rest q.bytes q.offset f))
    ∙ (ap (λ n. patched (spread (record { offset = length front; len = n } ∷ []) qs) (front ++ (new ++ rest))) (sym l)
    ∙ spread_front qs front new rest (omega arith) (fit_behind q qs p h)))
