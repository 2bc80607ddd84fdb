-- Refusals that have a name in one list have it in a longer one.
use Rattle.std.proofs.Common.{◌≡◌, ℕ, suc, List, ◌∷◌, Option, None, Some, IfSome, MatchOption, sym, arith}
use Rattle.std.specs.List.{Contains}
use Rattle.exif_types.specs.Failures.{Failure}
use Rattle.exif_types.specs.Refusals.{Refusal, refusal_of, IsInterrupted}
use Rattle.exif_segments.specs.Answer.{IsNamed, IsShort}
use Rattle.exif_segments.specs.Jpeg.{jpeg_refusals}
use Rattle.exif_formats.specs.Cr3.{broken_cr3, cr3_refusals}
use Rattle.exif_formats.specs.Raf.{raf_refusals, broken_raf, not_raf, invalid_jpeg_offset}

behind-one : {A : Type 0} (y : A) (xs : List A) (x : A) → Contains xs x → Contains (y ∷ xs) x
behind-one y xs x h = (suc h.0, (let lt = h.1 in omega arith), h.2)

-- a named refusal of a JPEG stream is one of a RAF file
pub named_stream : (e : Failure) → IsNamed jpeg_refusals e → IsNamed raf_refusals e
named_stream e h = by (refusal_of e) h
  where
    by : (o : Option Refusal) → MatchOption o (IsInterrupted e) (Contains jpeg_refusals) → MatchOption o (IsInterrupted e) (Contains raf_refusals)
    by None h = h
    by (Some r) h =
        behind-one broken_raf (not_raf ∷ invalid_jpeg_offset ∷ jpeg_refusals) r
        (behind-one not_raf (invalid_jpeg_offset ∷ jpeg_refusals) r (behind-one invalid_jpeg_offset jpeg_refusals r h))

-- an error that ends the bytes of a CR3 file has a name
pub named_short : (e : Failure) (left : Option (List ℕ)) (P : List ℕ → Type 0) → IsShort broken_cr3 e left P → IsNamed cr3_refusals e
named_short e left P h = by (refusal_of e) h
  where
    by : (o : Option Refusal) → MatchOption o (IsInterrupted e) (λ r. (r ≡ broken_cr3) × IfSome left P) → MatchOption o (IsInterrupted e) (Contains cr3_refusals)
    by None h = h
    by (Some r) h = (0, omega arith, sym h.0)

-- an error that says that a box is broken has a name
pub named_broken : (e : Failure) → refusal_of e ≡ Some broken_cr3 → IsNamed cr3_refusals e
named_broken e h = by (refusal_of e) h
  where
    by : (o : Option Refusal) → o ≡ Some broken_cr3 → MatchOption o (IsInterrupted e) (Contains cr3_refusals)
    by None h = absurd cc
    by (Some r) h = let same : broken_cr3 ≡ r = cc in (0, omega arith, same)
