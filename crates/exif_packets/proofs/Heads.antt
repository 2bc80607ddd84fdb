-- The head of a file, piece by piece, as a loop finds it.
use Rattle.std.proofs.Common.{◌≡◌, ℕ, zero, suc, ◌+◌, ◌-◌, ◌<◌, ◌≤◌, true, List, [], ◌∷◌, length, take, drop, Option, Some, None, ap, sym, ◌∙◌, arith, length-drop}
use Rattle.std.proofs.lemmas.List.{drop-drop, take_rest}
use Rattle.exif_inventory.specs.JpegPieces.{is_jpeg}
use Rattle.exif_packets.specs.Heads.{after, head_by, step_at}
use Rattle.exif_packets.specs.declared.head.Step.{Step}
use Rattle.exif_packets.specs.declared.head.Step.TheVariants.{Ends, Goes, Cut}

-- a JPEG file has its first marker
pub jpeg_long : (bytes : List ℕ) → is_jpeg bytes ≡ true → 2 ≤ length bytes
jpeg_long [] e = absurd cc
jpeg_long (a ∷ []) e = absurd cc
jpeg_long (a ∷ b ∷ bytes) e = omega arith

-- the rest of the file, as a slice has it
pub from_here : (p : List ℕ) (i : ℕ) (s : Step) → s ≡ step_at (take (length p - i) (drop i p)) → step_at (drop i p) ≡ s
from_here p i s e = sym (e ∙ ap step_at (take_rest p i))

-- bytes are left where the offset is not that of the end
pub some_left : (p : List ℕ) (i : ℕ) → i ≤ length p → (i ≡ length p → ⊥) → 0 < length (drop i p)
some_left p i within other = omega (arith, length-drop i p, other)

-- the next offset is in the file, too
pub next_within : (p : List ℕ) (i len : ℕ) → i ≤ length p → len ≤ length (take (length p - i) (drop i p)) → i + len ≤ length p
next_within p i len within part =
    let n : len ≤ length (drop i p) = omega (arith, part, ap length (take_rest p i)) in
    omega (arith, length-drop i p)

one_left : (n i : ℕ) → i < n → n - i ≡ suc (n - (i + 1))
one_left n i h = omega arith

-- the head from a piece on
here : (n at : ℕ) (left : List ℕ) (total : Option ℕ) → 0 < length left → head_by (suc n) at left ≡ total
    → after at (λ len. head_by n (at + len) (drop len left)) (step_at left) ≡ total
unfolding head_by
here n at [] total h w = absurd (let x : 0 < 0 = h in omega arith)
here n at (b ∷ left) total h w = w

step : (n i at : ℕ) (left : List ℕ) (total : Option ℕ) → i < n → 0 < length left → head_by (n - i) at left ≡ total
    → after at (λ len. head_by (n - (i + 1)) (at + len) (drop len left)) (step_at left) ≡ total
step n i at left total h some w = here (n - (i + 1)) at left total some (ap (λ k. head_by k at left) (sym (one_left n i h)) ∙ w)

-- nothing is left
pub head_open : (n at : ℕ) (left : List ℕ) (total : Option ℕ) → length left ≡ 0 → head_by n at left ≡ total → None ≡ total
unfolding head_by
head_open zero at left total h w = w
head_open (suc n) at [] total h w = w
head_open (suc n) at (b ∷ left) total h w = absurd (omega (arith, h))

-- no piece more
pub head_over : (n i at : ℕ) (left : List ℕ) (total : Option ℕ) → n ≤ i → head_by (n - i) at left ≡ total → None ≡ total
unfolding head_by
head_over n i at left total h w =
    let e : n - i ≡ 0 = omega arith in
    ap (λ k. head_by k at left) (sym e) ∙ w

-- it ends here
pub head_ends : (n i at : ℕ) (left : List ℕ) (len : ℕ) (total : Option ℕ) → i < n → 0 < length left → step_at left ≡ Ends len → head_by (n - i) at left ≡ total
    → Some (at + len) ≡ total
head_ends n i at left len total h some e w = sym (ap (after at (λ m. head_by (n - (i + 1)) (at + m) (drop m left))) e) ∙ step n i at left total h some w

-- the next piece is cut
pub head_cut : (n i at : ℕ) (left : List ℕ) (total : Option ℕ) → i < n → 0 < length left → step_at left ≡ Cut → head_by (n - i) at left ≡ total → None ≡ total
head_cut n i at left total h some e w = sym (ap (after at (λ m. head_by (n - (i + 1)) (at + m) (drop m left))) e) ∙ step n i at left total h some w

-- it goes on
pub head_goes : (n i at : ℕ) (p : List ℕ) (len : ℕ) (total : Option ℕ) → i < n → 0 < length (drop at p) → step_at (drop at p) ≡ Goes len
    → head_by (n - i) at (drop at p) ≡ total → head_by (n - (i + 1)) (at + len) (drop (at + len) p) ≡ total
head_goes n i at p len total h some e w =
    let one : head_by (n - (i + 1)) (at + len) (drop len (drop at p)) ≡ total =
    sym (ap (after at (λ m. head_by (n - (i + 1)) (at + m) (drop m (drop at p)))) e) ∙ step n i at (drop at p) total h some w in
    ap (head_by (n - (i + 1)) (at + len)) (sym (drop-drop len at p)) ∙ one
