-- How the boxes of a file follow the first one.
use Rattle.std.proofs.Common.{◌≡◌, ℕ, ◌+◌, ◌-◌, ◌<◌, ◌≤◌, Bool, true, false, cond, ◌&&◌, ◌||◌, eqb, ltb, List, [], ◌++◌, length, take, drop, codes, Option, None, Some, Result, Ok, Err, IfSome, MatchOption, ap, sym, ◌∙◌, arith, length-drop, length-append}
use Rattle.std.specs.Cmp.Lexicographic.{pointwise}
use Rattle.std.proofs.lemmas.Bool.{lt-ltb, le-ltb, ne_eqb}
use Rattle.std.proofs.lemmas.List.{take-append-le, drop-append-le, drop-drop, drop_at}
use Rattle.std.specs.Io.KnownBytes.{Consumes}
use Rattle.byteorder.specs.Endian.{big_number}
use Rattle.byteorder.specs.Numbers.{big_from-append}
use Rattle.exif_base.specs.Told.{WhereTold, Skips}
use Rattle.exif_types.specs.Failures.{Failure}
use Rattle.exif_types.specs.Refusals.{Refusal, refusal_of, IsInterrupted, Fails}
use Rattle.exif_segments.specs.Answer.{IsShort}
use Rattle.exif_formats.specs.Cr3.{broken_cr3, not_cr3, begins_cr3, behind_brand, boxes_of}

-- the first twelve bytes begin a file
pub begins-append : (header ys : List ℕ) → length header ≡ 12 → begins_cr3 (header ++ ys) ≡ begins_cr3 header
begins-append header ys e =
    ap (λ t. pointwise eqb (take 4 t) (codes "ftyp") && pointwise eqb (take 4 (drop 8 (header ++ ys))) (codes "crx ")) (drop-append-le 4 header ys (omega arith))
    ∙ ap (λ t. pointwise eqb t (codes "ftyp") && pointwise eqb (take 4 (drop 8 (header ++ ys))) (codes "crx ")) (take-append-le 4 (drop 4 header) ys (omega (arith, length-drop 4 header)))
    ∙ ap (λ t. pointwise eqb (take 4 (drop 4 header)) (codes "ftyp") && pointwise eqb (take 4 t) (codes "crx ")) (drop-append-le 8 header ys (omega arith))
    ∙ ap (λ t. pointwise eqb (take 4 (drop 4 header)) (codes "ftyp") && pointwise eqb t (codes "crx ")) (take-append-le 4 (drop 8 header) ys (omega (arith, length-drop 8 header)))

-- twelve bytes, and what follows them
pub cr3-twelve : (header ys : List ℕ) → length header ≡ 12
    → boxes_of (header ++ ys) ≡ cond (begins_cr3 header) (behind_brand (big_number 4 header) (header ++ ys)) (Err not_cr3)
cr3-twelve header ys e =
    ap (λ t. cond t (Err broken_cr3) (cond (begins_cr3 (header ++ ys)) (behind_brand (big_number 4 (header ++ ys)) (header ++ ys)) (Err not_cr3)))
    (le-ltb (length (header ++ ys)) 12 (omega (arith, length-append header ys)))
    ∙ ap (λ t. cond t (behind_brand (big_number 4 (header ++ ys)) (header ++ ys)) (Err not_cr3)) (begins-append header ys e)
    ∙ ap (λ n. cond (begins_cr3 header) (behind_brand n (header ++ ys)) (Err not_cr3)) (big_from-append 4 header ys (omega arith))

-- a file with another signature is refused
pub cr3_other : (a b : Option (List ℕ)) (header : List ℕ) → length header ≡ 12 → begins_cr3 header ≡ false → Consumes a b header
    → IfSome a (λ xs. boxes_of xs ≡ Err not_cr3)
cr3_other None b header e w h = tt
cr3_other (Some xs) None header e w h = absurd h
cr3_other (Some xs) (Some ys) header e w h =
    ap boxes_of h ∙ cr3-twelve header ys e ∙ ap (λ t. cond t (behind_brand (big_number 4 header) (header ++ ys)) (Err not_cr3)) w

-- what is known of a file behind its first twelve bytes
abbrev pub HasBrand : ℕ → List ℕ → List ℕ → Type 0
HasBrand size xs ys = (boxes_of xs ≡ behind_brand size xs) × (12 ≤ length xs) × (ys ≡ drop 12 xs)

-- twelve bytes were read
pub cr3_brand : (a b : Option (List ℕ)) (header : List ℕ) (size : ℕ) → length header ≡ 12 → begins_cr3 header ≡ true → size ≡ big_number 4 header
    → Consumes a b header → WhereTold a b (HasBrand size)
cr3_brand None b header size e w s h = tt
cr3_brand (Some xs) None header size e w s h = absurd h
cr3_brand (Some xs) (Some ys) header size e w s h = (
  ap boxes_of h ∙ cr3-twelve header ys e
      ∙ ap (λ t. cond t (behind_brand (big_number 4 header) (header ++ ys)) (Err not_cr3)) w
      ∙ ap (λ n. behind_brand n (header ++ ys)) (sym s) ∙ ap (behind_brand size) (sym h),
  omega (arith, ap (λ (t : List ℕ). length t) h, length-append header ys),
  sym (ap (drop 12) h ∙ drop_at header ys 12 e),
)

-- a first box that runs to the end
pub cr3_to_end : (a b : Option (List ℕ)) (size : ℕ) → size ≡ 0 → WhereTold a b (HasBrand size) → IfSome a (λ xs. boxes_of xs ≡ Ok [])
cr3_to_end None b size z h = tt
cr3_to_end (Some xs) None size z h = absurd h
cr3_to_end (Some xs) (Some ys) size z h = h.0 ∙ ap (λ n. behind_brand n xs) z

-- the box of a size
abbrev pub box_of : Bool → Bool → Bool → ℕ → List ℕ → Result (List ℕ) Refusal
box_of z t u size file = cond z (Ok []) (cond (t || u) (Err broken_cr3) (Ok (drop size file)))

-- a size that leaves the brand out
pub behind-small : (size : ℕ) (xs : List ℕ) → 0 < size → size < 12 → behind_brand size xs ≡ Err broken_cr3
behind-small size xs z l =
    ap (λ s. box_of s (ltb size 12) (ltb (length xs) size) size xs) (ne_eqb size 0 (λ e. omega arith))
    ∙ ap (λ s. box_of false s (ltb (length xs) size) size xs) (lt-ltb size 12 l)

-- a first box without its brand
pub cr3_small : (a b : Option (List ℕ)) (size : ℕ) → 0 < size → size < 12 → WhereTold a b (HasBrand size) → IfSome a (λ xs. boxes_of xs ≡ Err broken_cr3)
cr3_small None b size z l h = tt
cr3_small (Some xs) None size z l h = absurd h
cr3_small (Some xs) (Some ys) size z l h =
    h.0 ∙ behind-small size xs z l

-- a size that holds the brand
pub sized : (size : ℕ) (xs : List ℕ) (u : Bool) → 12 ≤ size → ltb (length xs) size ≡ u → behind_brand size xs ≡ box_of false false u size xs
sized size xs u l e =
    ap (λ s. box_of s (ltb size 12) (ltb (length xs) size) size xs) (ne_eqb size 0 (λ e. omega arith))
    ∙ ap (λ s. box_of false s (ltb (length xs) size) size xs) (le-ltb size 12 l)
    ∙ ap (λ s. box_of false false s size xs) e

-- the first box was skipped
pub cr3_skipped : (a b c : Option (List ℕ)) (size len : ℕ) → 12 ≤ size → len ≡ size - 12 → WhereTold a b (HasBrand size) → Skips b c len
    → WhereTold a c (λ xs zs. boxes_of xs ≡ Ok zs)
cr3_skipped None b c size len l e h s = tt
cr3_skipped (Some xs) None c size len l e h s = absurd h
cr3_skipped (Some xs) (Some ys) None size len l e h s = absurd s
cr3_skipped (Some xs) (Some ys) (Some zs) size len l e h s =
    let long = h.1 in
    let behind : length ys ≡ length xs - 12 = ap (λ (t : List ℕ). length t) h.2 ∙ length-drop 12 xs in
    let within = s.0 in
    let total : 12 + len ≡ size = omega arith in
    let at : zs ≡ drop size xs = s.1 ∙ ap (drop len) h.2 ∙ drop-drop len 12 xs ∙ ap (λ n. drop n xs) total in
    h.0 ∙ sized size xs false l (le-ltb (length xs) size (omega arith)) ∙ ap (λ t. Ok t) (sym at)

-- the first box is cut
pub cr3_cut : (e : Failure) (a b : Option (List ℕ)) (size len : ℕ) → 12 ≤ size → len ≡ size - 12 → WhereTold a b (HasBrand size)
    → IsShort broken_cr3 e b (λ ys. length ys < len) → IfSome a (λ xs. Fails e (boxes_of xs))
cr3_cut e None b size len l s h k = tt
cr3_cut e (Some xs) None size len l s h k = absurd h
cr3_cut e (Some xs) (Some ys) size len l s h k = by (refusal_of e) k
  where
    by : (o : Option Refusal) → MatchOption o (IsInterrupted e) (λ r. (r ≡ broken_cr3) × (length ys < len))
        → MatchOption o (IsInterrupted e) (λ r. boxes_of xs ≡ Err r)
    by None k = k
    by (Some r) k =
        let long = h.1 in
        let behind : length ys ≡ length xs - 12 = ap (λ (t : List ℕ). length t) h.2 ∙ length-drop 12 xs in
        let few = k.1 in
        h.0 ∙ sized size xs true l (lt-ltb (length xs) size (omega arith)) ∙ ap (λ t. Err t) (sym k.0)
