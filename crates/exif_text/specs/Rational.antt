-- The texts of fractions.
use Rattle.std.specs.Prelude.{ℕ, List, ◌∷◌, ◌++◌}
use Rattle.std.specs.Fmt.{decimal, signed_decimal}
use Rattle.exif_text.specs.declared.rational.Rational.{Rational}
use Rattle.exif_text.specs.declared.rational.SRational.{SRational}

-- `num/denom`
abbrev pub rational_text : Rational → List ℕ
rational_text r = decimal r.num ++ (47 ∷ decimal r.denom)

-- `num/denom`, each with its sign
abbrev pub srational_text : SRational → List ℕ
srational_text r = signed_decimal r.num ++ (47 ∷ signed_decimal r.denom)
