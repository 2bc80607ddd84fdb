-- Patches over bytes that they hold change none of them.
use Rattle.std.proofs.Common.{◌≡◌, ◌∙◌, ◌≤◌, ◌<◌, ◌+◌, ◌-◌, ◌^◌, min, ℕ, Bool, true, false, if◌then◌else◌, List, [], ◌∷◌, ◌++◌, length, take, drop, All, refl, sym, ap, arith}
use Rattle.std.specs.Prelude.{nat_le}
use Rattle.std.specs.Io.Iter.{u64_saturate}
use Rattle.std.proofs.lemmas.Bool.Decides.{nat_tests}
use Rattle.std.proofs.lemmas.Grind.{common_steps}
use Rattle.std.proofs.lemmas.List.{drop-append-le, drop-drop, drop-take, length-take-le, take-append-drop, take-append-le, take-take}
use Rattle.std.proofs.lemmas.List.Elements.{All-nil, All-cons, All-head, All-tail, All-append}
use Rattle.std.proofs.Math.Seq.{drop-append-add}
use Rattle.exif_isobmff.specs.Extents.{IsWhole, joined_bytes, range_bytes}
use Rattle.exif_isobmff.specs.declared.locations.Extent.{Extent}
use Rattle.exif_isobmff.proofs.ExtentRanges.{small}
use Rattle.exif_edit_base.specs.Patches.{patched, put_at}
use Rattle.exif_edit_base.specs.declared.patch.Patch.{Patch}
use Rattle.exif_edit.specs.Spreading.{first_of, rest_of, shifted, spread, spread_one, without}

-- bytes hold these at an offset
abbrev pub HasAt : List ℕ → Patch → Type 0
HasAt bytes p = take (length p.bytes) (drop p.offset bytes) ≡ p.bytes

put_same : (p : Patch) (bytes : List ℕ) → HasAt bytes p → put_at p.offset p.bytes bytes ≡ bytes
put_same p bytes h =
    let n : ℕ = length p.bytes in
    let behind : drop (p.offset + n) bytes ≡ drop n (drop p.offset bytes) = sym (drop-drop n p.offset bytes) in
    ap (λ (xs : List ℕ). take p.offset bytes ++ (p.bytes ++ xs)) behind
    ∙ (ap (λ (xs : List ℕ). take p.offset bytes ++ (xs ++ drop n (drop p.offset bytes))) (sym h)
    ∙ (ap (λ (xs : List ℕ). take p.offset bytes ++ xs) (take-append-drop n (drop p.offset bytes))
    ∙ take-append-drop p.offset bytes))

pub patched_same : (ps : List Patch) (bytes : List ℕ) → All (HasAt bytes) ps → patched ps bytes ≡ bytes
patched_same [] bytes a = refl
patched_same (p ∷ ps) bytes a =
    ap (patched ps) (put_same p bytes (All-head (HasAt bytes) p ps a))
    ∙ patched_same ps bytes (All-tail (HasAt bytes) p ps a)

-- ---- in the extents of a file

cut_append : (a more : List ℕ) (o n : ℕ) → o + n ≤ length a → take n (drop o (a ++ more)) ≡ take n (drop o a)
cut_append a more o n h =
    let l : length (drop o a) ≡ length a - o = grind (arith, common_steps) in
    ap (take n) (drop-append-le o a more (omega arith)) ∙ take-append-le n (drop o a) more (omega arith)

drop_cut : (n m : ℕ) (xs : List ℕ) → n ≤ m → drop n (take m xs) ≡ take (m - n) (drop n xs)
drop_cut n m xs h =
    let k : m ≡ n + (m - n) = omega arith in
    ap (λ (i : ℕ). drop n (take i xs)) k ∙ drop-take n (m - n) xs

cut_take : (xs : List ℕ) (m o n : ℕ) → o + n ≤ m → take n (drop o (take m xs)) ≡ take n (drop o xs)
cut_take xs m o n h = ap (take n) (drop_cut o m xs (omega arith)) ∙ take-take n (m - o) (drop o xs) (omega arith)

-- what is held in the first extent
in_first : (file : List ℕ) (e : Extent) (more : List ℕ) (p : Patch) → length file < 2 ^ 64 → IsWhole file e
    → p.offset + length p.bytes ≤ e.len → HasAt (range_bytes file e ++ more) p → 0 < e.len → HasAt file (shifted e.offset p)
in_first file e more p s w f h some =
    let o : ℕ = p.offset in
    let n : ℕ = length p.bytes in
    let d : length (drop e.offset file) ≡ length file - e.offset = grind (arith, common_steps) in
    let t : length (take e.len (drop e.offset file)) ≡ min e.len (length (drop e.offset file)) = grind (arith, common_steps) in
    let at : u64_saturate (e.offset + o) ≡ e.offset + o = small (e.offset + o) (omega (arith, w, d, t)) in
    let in_file : drop (e.offset + o) file ≡ drop o (drop e.offset file) = sym (drop-drop o e.offset file) in
    let cut : take n (drop o (range_bytes file e ++ more)) ≡ take n (drop o (drop e.offset file)) =
    cut_append (range_bytes file e) more o n (omega arith) ∙ cut_take (drop e.offset file) e.len o n f in
    ap (λ (k : ℕ). take n (drop k file)) at ∙ (ap (take n) in_file ∙ (sym cut ∙ h))

-- what is held behind it
behind_first : (front more : List ℕ) (n : ℕ) (p : Patch) → length front ≡ n → n ≤ p.offset → HasAt (front ++ more) p → HasAt more (without n p)
behind_first front more n p l f h =
    let k : length front + (p.offset - n) ≡ p.offset = omega arith in
    ap (take (length p.bytes))
    (sym (drop-append-add front more (p.offset - n)) ∙ ap (λ (i : ℕ). drop i (front ++ more)) k)
    ∙ h

-- what is held on both sides
first_held : (bytes : List ℕ) (n : ℕ) (p : Patch) → n ≤ length p.bytes → HasAt bytes p → HasAt bytes (first_of n p)
first_held bytes n p f h =
    let l : length (take n p.bytes) ≡ n = length-take-le n p.bytes f in
    let once : take n (take (length p.bytes) (drop p.offset bytes)) ≡ take n (drop p.offset bytes) =
    take-take n (length p.bytes) (drop p.offset bytes) f in
    ap (λ (k : ℕ). take k (drop p.offset bytes)) l ∙ (sym once ∙ ap (take n) h)

rest_held : (front more : List ℕ) (n len : ℕ) (p : Patch) → length front ≡ len → p.offset + n ≡ len → n ≤ length p.bytes → HasAt (front ++ more) p
    → HasAt more (rest_of n p)
rest_held front more n len p l k f h =
    let d : length (drop n p.bytes) ≡ length p.bytes - n = grind (arith, common_steps) in
    let j : length front + 0 ≡ p.offset + n = omega arith in
    let there : drop n (drop p.offset (front ++ more)) ≡ more =
    drop-drop n p.offset (front ++ more) ∙ (ap (λ (i : ℕ). drop i (front ++ more)) (sym j) ∙ drop-append-add front more 0) in
    let cut : drop n (take (length p.bytes) (drop p.offset (front ++ more))) ≡ take (length p.bytes - n) (drop n (drop p.offset (front ++ more))) =
    drop_cut n (length p.bytes) (drop p.offset (front ++ more)) f in
    ap (λ (i : ℕ). take i more) d
    ∙ (ap (take (length p.bytes - n)) (sym there) ∙ (sym cut ∙ ap (drop n) h))

one_held : (file : List ℕ) (es : List Extent) → length file < 2 ^ 64 → All (IsWhole file) es → (p : Patch) → HasAt (joined_bytes file es) p
    → All (HasAt file) (spread_one es p)
one_held file [] s w p h = All-nil (HasAt file)
one_held file (e ∷ es) s w p h =
    by_behind (λ q k. one_held file es s (All-tail (IsWhole file) e es w) q k) (nat_le e.len p.offset) refl
  where
    Others : Type 0
    Others = (q : Patch) → HasAt (joined_bytes file es) q → All (HasAt file) (spread_one es q)

    by_behind : Others → (b : Bool) → nat_le e.len p.offset ≡ b
        → All (HasAt file) (if b then spread_one es (without e.len p) else
        (if nat_le (length p.bytes) (e.len - p.offset) then shifted e.offset p ∷ [] else
        shifted e.offset (first_of (e.len - p.offset) p)
        ∷ spread_one es (rest_of (e.len - p.offset) p)))
    by_behind others true t =
        let whole : IsWhole file e = All-head (IsWhole file) e es w in
        others (without e.len p) (behind_first (range_bytes file e) (joined_bytes file es) e.len p whole (grind (arith, nat_tests)) h)
    by_behind others false t =
        let before : p.offset < e.len = grind (arith, nat_tests) in
        by_within before (nat_le (length p.bytes) (e.len - p.offset)) refl
      where
        by_within : p.offset < e.len → (b : Bool) → nat_le (length p.bytes) (e.len - p.offset) ≡ b
            → All (HasAt file) (if b then shifted e.offset p ∷ [] else
            shifted e.offset (first_of (e.len - p.offset) p)
            ∷ spread_one es (rest_of (e.len - p.offset) p))
        by_within before true t =
            let whole : IsWhole file e = All-head (IsWhole file) e es w in
            let l : length p.bytes ≤ e.len - p.offset = grind (arith, nat_tests) in
            All-cons (HasAt file) (shifted e.offset p) []
            (in_first file e (joined_bytes file es) p s whole (omega (arith, l, before)) h (omega (arith, before))) (All-nil (HasAt file))
        by_within before false t =
            let whole : IsWhole file e = All-head (IsWhole file) e es w in
            let n : ℕ = e.len - p.offset in
            let l : n ≤ length p.bytes = grind (arith, nat_tests) in
            let k : length (take n p.bytes) ≡ n = length-take-le n p.bytes l in
            All-cons (HasAt file) (shifted e.offset (first_of n p)) (spread_one es (rest_of n p))
            (in_first file e (joined_bytes file es) (first_of n p) s whole (omega (arith, k, before))
            (first_held (range_bytes file e ++ joined_bytes file es) n p l h) (omega (arith, before)))
            (others (rest_of n p) (rest_held (range_bytes file e) (joined_bytes file es) n e.len p whole (omega (arith, before)) l h))

-- patches that the data hold are held by the file
pub spread_held : (file : List ℕ) (es : List Extent) (ps : List Patch) → length file < 2 ^ 64 → All (IsWhole file) es
    → All (HasAt (joined_bytes file es)) ps → All (HasAt file) (spread es ps)
spread_held file es [] s w a = All-nil (HasAt file)
spread_held file es (p ∷ ps) s w a =
    All-append (HasAt file) (spread_one es p) (spread es ps)
    (one_held file es s w p (All-head (HasAt (joined_bytes file es)) p ps a))
    (spread_held file es ps s w (All-tail (HasAt (joined_bytes file es)) p ps a))
