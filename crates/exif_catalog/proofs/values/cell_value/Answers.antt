use Rattle.std.proofs.Common.{ap, refl}
use Rattle.exif_catalog.specs.Values.{real, text}
use Rattle.exif_catalog.proofs.values.cell_value.Goals as goal

pub returns-in_ok-shown_text-in-Decimal : goal.returns-in_ok-shown_text-in-Decimal
returns-in_ok-shown_text-in-Decimal c =
    rw c.in-Decimal.is (ap (λ t. real t) (c.in_ok-shown_text-in-Decimal.ensures.shown _ refl))

pub returns-in_ok-shown_text-in-Degrees : goal.returns-in_ok-shown_text-in-Degrees
returns-in_ok-shown_text-in-Degrees c =
    rw c.in-Degrees.is (ap (λ t. real t) (c.in_ok-shown_text-in-Degrees.ensures.shown _ refl))

pub returns-in_ok-shown_text-in-Height : goal.returns-in_ok-shown_text-in-Height
returns-in_ok-shown_text-in-Height c =
    rw c.in-Height.is (ap (λ t. real t) (c.in_ok-shown_text-in-Height.ensures.shown _ refl))

pub returns-in_ok-shown_text-in-Date : goal.returns-in_ok-shown_text-in-Date
returns-in_ok-shown_text-in-Date c =
    rw c.in-Date.is (ap (λ t. text t) (c.in_ok-shown_text-in-Date.ensures.shown _ refl))
