-- A container's refusal is one of all containers'.
use Rattle.std.proofs.Common.{◌≡◌, suc, List, ◌∷◌, ◌++◌, Option, None, Some, Result, Ok, Err, IfErr, MatchOption, arith, refl}
use Rattle.std.proofs.lemmas.List.Elements.{Contains-append_left, Contains-append_right}
use Rattle.std.specs.List.{Contains}
use Rattle.exif_types.specs.Failures.{Failure}
use Rattle.exif_types.specs.declared.error.Error.TheVariants as error
use Rattle.exif_types.specs.Refusals.{Refusal, refusal_of, IsInterrupted}
use Rattle.exif_segments.specs.Answer.{IsNamed}
use Rattle.exif_containers.specs.Container.{container_refusals, unknown_format}
use Rattle.exif_isobmff.specs.HeifRefusals.{heif_refusals}
use Rattle.exif_segments.specs.Jpeg.{jpeg_refusals}
use Rattle.exif_segments.specs.Webp.{webp_refusals}

behind-one : {A : Type 0} (y : A) (xs : List A) (x : A) → Contains xs x → Contains (y ∷ xs) x
behind-one y xs x h = (suc h.0, (let lt = h.1 in omega arith), h.2)

-- an error that has a name in one list has it in a longer one
pub more_named : {T : Type 0} (few all : List Refusal) → ((r : Refusal) → Contains few r → Contains all r) → (result : Result T Failure) → IfErr result (IsNamed few) → IfErr result (IsNamed all)
more_named few all f (Ok x) h = tt
more_named few all f (Err e) h = by (refusal_of e) h
  where
    by : (o : Option Refusal) → MatchOption o (IsInterrupted e) (Contains few) → MatchOption o (IsInterrupted e) (Contains all)
    by None h = h
    by (Some r) h = f r h

-- a named refusal of a JPEG stream is one of a container
pub named_jpeg : {T : Type 0} (result : Result T Failure) → IfErr result (IsNamed jpeg_refusals) → IfErr result (IsNamed container_refusals)
named_jpeg = more_named jpeg_refusals container_refusals (λ r h. behind-one unknown_format (jpeg_refusals ++ (heif_refusals ++ webp_refusals)) r (Contains-append_left jpeg_refusals (heif_refusals ++ webp_refusals) r h))

-- a named refusal of a HEIF file is one of a container
pub named_heif : {T : Type 0} (result : Result T Failure) → IfErr result (IsNamed heif_refusals) → IfErr result (IsNamed container_refusals)
named_heif = more_named heif_refusals container_refusals (λ r h. behind-one unknown_format (jpeg_refusals ++ (heif_refusals ++ webp_refusals)) r (Contains-append_right jpeg_refusals (heif_refusals ++ webp_refusals) r (Contains-append_left heif_refusals webp_refusals r h)))

-- a named refusal of a WebP file is one of a container
pub named_webp : {T : Type 0} (result : Result T Failure) → IfErr result (IsNamed webp_refusals) → IfErr result (IsNamed container_refusals)
named_webp = more_named webp_refusals container_refusals (λ r h. behind-one unknown_format (jpeg_refusals ++ (heif_refusals ++ webp_refusals)) r (Contains-append_right jpeg_refusals (heif_refusals ++ webp_refusals) r (Contains-append_right heif_refusals webp_refusals r h)))
