-- An error without fields of its own holds no partial result.
use Rattle.std.specs.Prelude.{◌≡◌, ◌≤◌, List, [], ◌∷◌, All, refl}
use Rattle.std.proofs.Common.{arith}
use Rattle.std.proofs.lemmas.List.Elements.{All-head, All-tail}
use denote.Param.Weighed.{most}
use Rattle.exif_types.specs.declared.error.Error.{Error}
use Rattle.exif_types.specs.declared.error.Error.TheVariants as error
use Rattle.exif_types.specs.declared.error.PartialResult.TheDeep.{deep-Error}
use Rattle.exif_types.specs.Failures.{IsInvalidFormat}

deep_zero : {Text : Type 0} (e : Error Text) → IsInvalidFormat e → deep-Error Text e ≡ 0
deep_zero (error.InvalidFormat text) h = refl
deep_zero (error.Io e) h = absurd h
deep_zero (error.NotFound e) h = absurd h
deep_zero (error.BlankValue e) h = absurd h
deep_zero (error.TooBig e) h = absurd h
deep_zero (error.NotSupported e) h = absurd h
deep_zero (error.UnexpectedValue e) h = absurd h
deep_zero (error.PartialResult e) h = absurd h
deep_zero error.OutOfMemory h = absurd h

-- invalid formats hold no errors
pub errors_fall : {Text : Type 0} (es : List (Error Text)) → All IsInvalidFormat es
    → most (deep-Error Text) es ≤ 0
errors_fall [] h = omega arith
errors_fall (e ∷ es) h =
    omega (
      arith,
      deep_zero e (All-head IsInvalidFormat e es h),
      errors_fall es
          (All-tail IsInvalidFormat e es h),
    )
