-- Bytes of which only so many count.
use Rattle.std.proofs.Common.{◌≡◌, ℕ, ◌+◌, ◌-◌, ◌≤◌, List, ◌++◌, length, take, Option, None, Some, ap, sym, ◌∙◌, arith}
use Rattle.std.proofs.Math.Seq.{take-append-add}
use Rattle.std.proofs.lemmas.List.{length-take, length-take-le, take-take}
use Rattle.std.specs.Io.KnownBytes.{Consumes, Keeps}
use Rattle.exif_base.specs.Blocks.{cut_known}

-- bytes stay
pub keeps_cut : (k : ℕ) (a b : Option (List ℕ)) → Keeps a b → Keeps (cut_known k a) (cut_known k b)
keeps_cut k None b h = tt
keeps_cut k (Some x) None h = absurd h
keeps_cut k (Some x) (Some y) h = ap (take k) h

-- bytes are taken, and so many fewer count
pub consumes_cut : (k n : ℕ) (hand : List ℕ) (a b : Option (List ℕ)) → n ≤ length (take k hand) → Consumes a b (take n hand)
    → Consumes (cut_known k a) (cut_known (k - n) b) (take n (take k hand))
consumes_cut k n hand None b some h = tt
consumes_cut k n hand (Some x) None some h = absurd h
consumes_cut k n hand (Some x) (Some y) some h =
    let within : n ≤ k = omega (arith, length-take k hand) in
    let room : n ≤ length hand = omega (arith, length-take k hand) in
    let len : length (take n hand) ≡ n = length-take-le n hand room in
    let count : k ≡ length (take n hand) + (k - n) = omega arith in
    let front : take n (take k hand) ≡ take n hand = take-take n k hand within in
    ap (take k) h ∙ ap (λ t. take t (take n hand ++ y)) count ∙ take-append-add (take n hand) y (k - n)
    ∙ ap (λ t. t ++ take (k - n) y) (sym front)
