-- Texts of fractions by the kind of their tag (Exif 2.32, sections 4.6.5 and 4.6.6).
use Rattle.std.specs.Prelude.{ℕ, ◌*◌, ◌==◌, nat_le, nat_lt, if◌then◌else◌, List, ◌∷◌, ◌++◌, false, codes, negsuc}
use Rattle.std.specs.Ordering.{int_eq}
use Rattle.exif_text.specs.declared.rational.Rational.{Rational}
use Rattle.exif_text.specs.Contents.{Plain, Rationals, SignedRationals}
use Rattle.exif_text.specs.Plain.{plain_text, listed}
use Rattle.exif_text.specs.Decimal.{rational_decimal, srational_decimal, decimal_text}

-- each fraction as a decimal
abbrev pub decimals_text : Plain → List ℕ
decimals_text (Rationals xs) = listed rational_decimal xs
decimals_text (SignedRationals xs) = listed srational_decimal xs
decimals_text v = plain_text v

-- the first fraction as a decimal: one over the highest number, or over -1, is unknown
abbrev pub optional_decimal_text : Plain → List ℕ
optional_decimal_text (Rationals (r ∷ rs)) =
    if r.denom == 0xffffffff then codes "unknown" else rational_decimal r
optional_decimal_text (SignedRationals (r ∷ rs)) =
    if int_eq r.denom (negsuc 0) then codes "unknown" else srational_decimal r
optional_decimal_text v = decimals_text v

-- seconds as a decimal, below one as `1/` and the decimal of the inverse
abbrev pub exposure_time_of : Rational → List ℕ → List ℕ
exposure_time_of r otherwise =
    if nat_le r.denom r.num then rational_decimal r
    else (if r.num == 0 then otherwise else codes "1/" ++ decimal_text false r.denom r.num)

-- the exposure time of the first fraction
abbrev pub exposure_time_text : Plain → List ℕ
exposure_time_text (Rationals (r ∷ rs)) = exposure_time_of r (plain_text (Rationals (r ∷ rs)))
exposure_time_text v = plain_text v

-- a distance: 0 is unknown, and the highest number is without end
abbrev pub subject_distance_of : Rational → List ℕ → List ℕ
subject_distance_of r otherwise =
    if r.num == 0 then codes "unknown"
    else (if r.num == 0xffffffff then codes "infinity" else otherwise)

-- the distance of the first fraction
abbrev pub subject_distance_text : Plain → List ℕ
subject_distance_text (Rationals (r ∷ rs)) =
    subject_distance_of r (decimals_text (Rationals (r ∷ rs)))
subject_distance_text v = decimals_text v

-- a ratio, which is 0 where there was no zoom
abbrev pub zoom_ratio_text : Plain → List ℕ
zoom_ratio_text (Rationals (r ∷ rs)) =
    if r.num == 0 then codes "unused" else decimals_text (Rationals (r ∷ rs))
zoom_ratio_text v = decimals_text v

-- focal lengths from and to, and F numbers from and to
abbrev pub lens_text : Plain → List ℕ
lens_text (Rationals (short ∷ long ∷ wide ∷ tele ∷ rs)) =
    rational_decimal short ++ (codes "-" ++ (rational_decimal long ++ (codes " mm, f/"
    ++ (rational_decimal wide ++ (codes "-" ++ rational_decimal tele)))))
lens_text v = plain_text v

-- degrees, minutes and seconds
abbrev pub degrees_text : Plain → List ℕ
degrees_text (Rationals (degrees ∷ minutes ∷ seconds ∷ rs)) =
    rational_decimal degrees
    ++ (codes " deg " ++ (rational_decimal minutes
    ++ (codes " min " ++ (rational_decimal seconds ++ codes " sec"))))
degrees_text v = plain_text v

-- a decimal, behind a 0 where it is below ten
abbrev pub clock_part : Rational → List ℕ
clock_part r = if nat_lt r.num (10 * r.denom) then 48 ∷ rational_decimal r else rational_decimal r

-- hours, minutes and seconds
abbrev pub time_stamp_text : Plain → List ℕ
time_stamp_text (Rationals (hours ∷ minutes ∷ seconds ∷ rs)) =
    clock_part hours ++ (codes ":" ++ (clock_part minutes ++ (codes ":" ++ clock_part seconds)))
time_stamp_text v = plain_text v
