-- Where a picture was taken, in decimal degrees (Exif 2.32, 4.6.6: GPSLatitude, GPSLongitude and
-- their references).
use Rattle.std.specs.Prelude.{ℕ, suc, ◌+◌, ◌*◌, ◌/◌, ◌%◌, ◌^◌, nat_lt, Bool, true, false, ◌==◌, ◌&&◌, List, [], ◌∷◌, ◌++◌, codes, Option, Some, None, if◌then◌else◌, option_and_then, option_map}
use Rattle.std.specs.Fmt.{decimal, sign_text}
use Rattle.exif_text.specs.Plain.{zero_filled}
use Rattle.exif_text.specs.declared.rational.Rational.{Rational}
use Rattle.exif_types.specs.declared.value.Value.{Value}
use Rattle.exif_types.specs.declared.value.Value.TheVariants.{Ascii, Rational as Rationals}

-- an angle as a fraction, in degrees
pub record Angle : Type 0 where
  pub over : ℕ
  pub under : ℕ

-- degrees, minutes and seconds together
abbrev pub angle_of : Rational → Rational → Rational → Angle
angle_of d m s = record {
  over = d.num * m.denom * s.denom * 3600 + m.num * d.denom * s.denom * 60
      + s.num * d.denom * m.denom;
  under = d.denom * m.denom * s.denom * 3600;
}

-- the angle in units of 10^-7 degrees, to the nearest, half up
unfoldable pub units_of : Angle → ℕ
units_of a = (2 * (a.over * 10 ^ 7) + a.under) / (2 * a.under)

-- whether an angle has a value, and that of at most so many degrees
abbrev pub is_within : ℕ → Angle → Bool
is_within most a = nat_lt 0 a.under && nat_lt a.over (suc (most * a.under))

-- units as degrees with seven digits behind the point
abbrev pub degrees_text : Bool → ℕ → List ℕ
degrees_text negative units =
    sign_text negative ++ (decimal (units / 10 ^ 7) ++ (codes "." ++ zero_filled 7 (decimal (units % 10 ^ 7))))

-- the angle of three fractions, if it is one of at most so many degrees
abbrev pub angle_in : ℕ → Value → Option Angle
angle_in most (Rationals (d ∷ m ∷ s ∷ [])) =
    if is_within most (angle_of d m s) then Some (angle_of d m s) else None
angle_in most _ = None

-- whether a reference is the letter of the negative half, if it is one of the two
abbrev pub half_of : ℕ → ℕ → Value → Option Bool
half_of positive negative (Ascii ((letter ∷ []) ∷ [])) =
    if letter == positive then Some false else (if letter == negative then Some true else None)
half_of positive negative _ = None

-- one coordinate: its tags in the GPS directory, the letters of its halves and its range
pub record Axis : Type 0 where
  pub value : ℕ
  pub reference : ℕ
  pub positive : ℕ
  pub negative : ℕ
  pub most : ℕ

-- GPSLatitude, N and S; GPSLongitude, E and W
abbrev pub latitude : Axis
latitude = record { value = 2; reference = 1; positive = 78; negative = 83; most = 90 }

-- GPSLongitude and its reference, E or W, up to 180 degrees
abbrev pub longitude : Axis
longitude = record { value = 4; reference = 3; positive = 69; negative = 87; most = 180 }

-- a coordinate with its half
pub record Degrees : Type 0 where
  pub negative : Bool
  pub units : ℕ

-- the coordinate that a value and a reference give, if they are as the axis has them
abbrev pub degrees_in : Axis → Value → Value → Option Degrees
degrees_in axis value reference =
    option_and_then (λ angle. option_map (λ negative. record { negative = negative; units = units_of angle })
    (half_of axis.positive axis.negative reference))
    (angle_in axis.most value)
