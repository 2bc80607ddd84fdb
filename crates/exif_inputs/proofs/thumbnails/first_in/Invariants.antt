use Rattle.std.proofs.Common.{◌≡◌, drop}
use Rattle.std.specs.Prelude.{IfSome}
use Rattle.exif_inputs.specs.Shown.{first_shown}
use Rattle.exif_inputs.specs.Uses.{held}
use Rattle.exif_inputs.proofs.thumbnails.first_in.Given as goal

-- what is first at the places that are left is first at all
abbrev pub invariant-loop-place : goal.invariant-loop-place
invariant-loop-place l =
    IfSome (held l.input) (λ bytes. first_shown bytes (drop l.place-index l.places) ≡ first_shown bytes l.places)
