-- Worked examples, with values by hand.
use Rattle.std.specs.Prelude.{◌≡◌, ℕ, ◌+◌, ◌-◌, ◌*◌, Bool, true, false, List, [], ◌∷◌, ◌++◌, codes, map, Option, Some, None, Result, Ok, Err, refl, option_and_then}
use Rattle.std.specs.Fmt.{digits}
use Rattle.exif_text.specs.Plain.{zero_filled}
use Rattle.exif_table.specs.declared.context.Context.TheVariants.{Gps}
use Rattle.exif_text.specs.declared.date.TimeOfDay.{TimeOfDay}
use Rattle.exif_text.specs.declared.rational.Rational.{Rational}
use Rattle.exif_types.specs.declared.value.Value.TheVariants as value
use Rattle.exif_datetime.specs.Calendar.{days_before_month, days_before_year, month_from, year_from}
use Rattle.exif_locations.specs.declared.xmp.fault.Fault.TheVariants.{Malformed, Cut}
use Rattle.exif_locations.specs.XmpNames.{is_location, is_word}
use Rattle.exif_locations.specs.XmpTokens.{attribute_at, closing_at, content_at, declared_at, markup_at, opening_at, tag_at}
use Rattle.exif_geotag.specs.declared.error.TrackError.{TrackError}
use Rattle.exif_geotag.specs.declared.error.TrackError.TheVariants.{Xml, Other, NotGpx, Empty}
use Rattle.exif_geotag.specs.declared.format.OtherFormat.TheVariants.{Kml, Zip, Tcx, Nmea, Fit}
use Rattle.exif_geotag.specs.declared.moment.Moment.{Moment}
use Rattle.exif_geotag.specs.declared.point.Fix.{Fix}
use Rattle.exif_geotag.specs.declared.point.Point.{Point}
use Rattle.exif_geotag.specs.Between.{between, fix_at, longitude_between}
use Rattle.exif_geotag.specs.Elements.{element_at}
use Rattle.exif_geotag.specs.Formats.{other_format}
use Rattle.exif_geotag.specs.Gaps.{gap_in}
use Rattle.exif_geotag.specs.Moments.{moment_at, moment_text}
use Rattle.exif_geotag.specs.Numbers.{negative_of, number_of, positive_of}
use Rattle.exif_geotag.specs.SpotFields.{altitude_fields, field, latitude_fields, longitude_fields, spot_fields, text_field}
use Rattle.exif_geotag.specs.States.{enter, leave, with_attribute, with_text}
use Rattle.exif_geotag.specs.Steps.{content_step, step_at, tag_step}
use Rattle.exif_geotag.specs.Texts.{trimmed}
use Rattle.exif_geotag.specs.Times.{ended, exif_time_of, milliseconds_of, time_of, zone_of}
use Rattle.exif_geotag.specs.UnixTimes.{since_1970}
use Rattle.exif_geotag.specs.Walks.{TrackView, points_from, track_of}

-- ---- numbers

pub north : number_of 900000000 10000000 (codes "33.8599722") ≡ Some 1238599722
unfolding negative_of positive_of
north = refl

pub south : number_of 900000000 10000000 (codes "-33.85997229") ≡ Some 561400278
unfolding negative_of positive_of
south = refl

pub plus_signed : number_of 900000000 10000000 (codes "+007") ≡ Some 970000000
unfolding negative_of positive_of
plus_signed = refl

pub no_whole_digits : number_of 900000000 10000000 (codes ".5") ≡ Some 905000000
unfolding negative_of positive_of
no_whole_digits = refl

pub no_fraction_digits : number_of 900000000 10000000 (codes "5.") ≡ Some 950000000
unfolding negative_of positive_of
no_fraction_digits = refl

pub the_pole : number_of 900000000 10000000 (codes "-90") ≡ Some 0
unfolding negative_of positive_of
the_pole = refl

pub past_the_pole : number_of 900000000 10000000 (codes "90.0000001") ≡ None
unfolding negative_of positive_of
past_the_pole = refl

pub an_exponent : number_of 900000000 10000000 (codes "1e1") ≡ None
unfolding negative_of positive_of
an_exponent = refl

pub a_point_alone : number_of 900000000 10000000 (codes ".") ≡ None
unfolding negative_of positive_of
a_point_alone = refl

pub two_points : number_of 900000000 10000000 (codes "1.2.3") ≡ None
unfolding negative_of positive_of
two_points = refl

pub no_text : number_of 900000000 10000000 (codes "") ≡ None
unfolding negative_of positive_of
no_text = refl

-- ---- gaps

pub a_gap : gap_in (codes "300") ≡ Some 300000
unfolding gap_in
a_gap = refl

pub a_part_of_a_second : gap_in (codes "0.5") ≡ Some 500
unfolding gap_in
a_part_of_a_second = refl

pub ten_days : gap_in (codes "864000") ≡ Some 864000000
unfolding gap_in
ten_days = refl

pub longer_than_ten_days : gap_in (codes "864000.001") ≡ None
unfolding gap_in
longer_than_ten_days = refl

pub a_gap_with_a_unit : gap_in (codes "5m") ≡ None
unfolding gap_in
a_gap_with_a_unit = refl

-- ---- times: 719528 days are before 1970-01-01

pub the_epoch : time_of (codes "1970-01-01T00:00:00Z") ≡ Some (719528 * 86400000)
unfolding time_of ended milliseconds_of zone_of days_before_month days_before_year
the_epoch = refl

pub a_fraction : time_of (codes "1970-01-02t01:02:03.4567z") ≡ Some (719529 * 86400000 + 3723456)
unfolding time_of ended milliseconds_of zone_of days_before_month days_before_year
a_fraction = refl

pub east_of_greenwich : time_of (codes "1970-01-01 02:00:01+02:00")
    ≡ Some (719528 * 86400000 + 1000)
unfolding time_of ended milliseconds_of zone_of days_before_month days_before_year
east_of_greenwich = refl

pub west_of_greenwich : time_of (codes "1969-12-31T22:00:00.5-02:30")
    ≡ Some (719528 * 86400000 + 1800500)
unfolding time_of ended milliseconds_of zone_of days_before_month days_before_year
west_of_greenwich = refl

pub without_a_zone : time_of (codes "1970-01-01T00:00:00") ≡ Some (719528 * 86400000)
unfolding time_of ended milliseconds_of zone_of days_before_month days_before_year
without_a_zone = refl

pub no_such_day : time_of (codes "1970-02-29T00:00:00Z") ≡ None
unfolding time_of ended milliseconds_of zone_of days_before_month days_before_year
no_such_day = refl

pub a_point_without_digits : time_of (codes "1970-01-01T00:00:00.Z") ≡ None
unfolding time_of ended milliseconds_of zone_of days_before_month days_before_year
a_point_without_digits = refl

pub a_date_alone : time_of (codes "1970-01-01") ≡ None
unfolding time_of ended milliseconds_of zone_of days_before_month days_before_year
a_date_alone = refl

pub a_date_of_exif : exif_time_of (codes "1970:01:01 02:00:01") (codes "25 ") (codes "+02:00")
    ≡ Some (719528 * 86400000 + 1250)
unfolding exif_time_of milliseconds_of zone_of days_before_month days_before_year
a_date_of_exif = refl

pub no_date_of_exif : exif_time_of (codes "    :  :     :  :  ") (codes "") (codes "") ≡ None
unfolding exif_time_of milliseconds_of zone_of days_before_month days_before_year
no_date_of_exif = refl

-- as `date -u -d 2024-05-01T02:30:01Z +%s` has it
pub a_time_of_a_file : option_and_then since_1970
    (exif_time_of (codes "2024:05:01 02:30:01") (codes "") (codes "")) ≡ Some 1714530601000
unfolding exif_time_of milliseconds_of zone_of days_before_month days_before_year
a_time_of_a_file = refl

pub before_1970 : option_and_then since_1970
    (exif_time_of (codes "1969:12:31 23:59:59") (codes "") (codes "")) ≡ None
unfolding exif_time_of milliseconds_of zone_of days_before_month days_before_year
before_1970 = refl

-- ---- white space

pub white_space_around : trimmed (codes "  a b\n") ≡ codes "a b"
white_space_around = refl

-- ---- locations between points

-- a point
abbrev pub p : ℕ → ℕ → ℕ → Option ℕ → Point
p time latitude longitude elevation =
    record { time = time; latitude = latitude; longitude = longitude; elevation = elevation }

pub a_third : between 1000000000 1030000000 60000 180000 ≡ 1010000000
a_third = refl

pub towards_the_earlier : between 10 0 1 3 ≡ 7
towards_the_earlier = refl

-- from 179.9 east to 179.9 west, and a quarter of it
pub over_the_antimeridian : longitude_between 3599000000 1000000 3 4 ≡ 500000
over_the_antimeridian = refl

pub before_the_antimeridian : longitude_between 3599000000 1000000 1 4 ≡ 3599500000
before_the_antimeridian = refl

pub back_over_the_antimeridian : longitude_between 1000000 3599000000 3 4 ≡ 3599500000
back_over_the_antimeridian = refl

-- the location at a time of a track of three points, with a gap before the last one, where one of so
-- many milliseconds is allowed
abbrev pub within_gap : ℕ → ℕ → Option Fix
within_gap max_gap time =
    fix_at max_gap time (p 1000 900000000 1800000000 (Some 5)
    ∷ p 2000 900000010 1800000020 None ∷ p 400000 900000000 1800000000 None ∷ [])

-- five minutes
abbrev pub at_times : ℕ → Option Fix
at_times = within_gap 300000

pub before_the_first : at_times 999 ≡ None
before_the_first = refl

pub at_the_first : at_times 1000
    ≡ Some (record { latitude = 900000000; longitude = 1800000000; elevation = Some 5 })
at_the_first = refl

pub half_way : at_times 1500
    ≡ Some (record { latitude = 900000005; longitude = 1800000010; elevation = None })
half_way = refl

pub in_a_gap : at_times 2001 ≡ None
in_a_gap = refl

pub in_a_gap_that_is_allowed : within_gap 398000 201000
    ≡ Some (record { latitude = 900000005; longitude = 1800000010; elevation = None })
in_a_gap_that_is_allowed = refl

pub in_one_that_is_not : within_gap 397999 201000 ≡ None
in_one_that_is_not = refl

pub points_alone : within_gap 0 1500 ≡ None
points_alone = refl

pub at_the_last : at_times 400000
    ≡ Some (record { latitude = 900000000; longitude = 1800000000; elevation = None })
at_the_last = refl

pub behind_the_last : at_times 400001 ≡ None
behind_the_last = refl

-- ---- the fields of a location

-- a whole number
abbrev pub whole : ℕ → Rational
whole number = record { num = number; denom = 1 }

-- 33 51' 35.89992" S, 151 12' 39.99996" E and 12.345 m: exiftool 12.57 writes the same numbers for
-- -33.8599722, 151.2111111 and 12.345, in other fractions
pub in_sydney : spot_fields (record {
  fix = record { latitude = 561400278; longitude = 3312111111; elevation = Some 1000012345 };
  moment = record {
    date = record { year = 2024; month = 5; day = 1 };
    time = record { hour = 2; minute = 30; second = 1 };
    millisecond = 250;
  };
})
    ≡ text_field (Gps, 1) (codes "S")
    ∷ field (Gps, 2) (value.Rational
    (whole 33 ∷ whole 51 ∷ record { num = 358999200; denom = 10000000 } ∷ []))
    ∷ text_field (Gps, 3) (codes "E")
    ∷ field (Gps, 4) (value.Rational
    (whole 151 ∷ whole 12 ∷ record { num = 399999600; denom = 10000000 } ∷ []))
    ∷ field (Gps, 5) (value.Byte (0 ∷ []))
    ∷ field (Gps, 6) (value.Rational (record { num = 12345; denom = 1000 } ∷ []))
    ∷ text_field (Gps, 29) (codes "2024:05:01")
    ∷ field (Gps, 7) (value.Rational
    (whole 2 ∷ whole 30 ∷ record { num = 1250; denom = 1000 } ∷ [])) ∷ []
unfolding zero_filled digits
in_sydney = refl

-- 50 mm below the sea
pub below_the_sea : altitude_fields (Some 999999950)
    ≡ field (Gps, 5) (value.Byte (1 ∷ []))
    ∷ field (Gps, 6) (value.Rational (record { num = 50; denom = 1000 } ∷ [])) ∷ []
below_the_sea = refl

-- at the equator and at Greenwich, with no fraction of a second
pub at_zero : latitude_fields 900000000 ++ longitude_fields 1800000000
    ≡ text_field (Gps, 1) (codes "N")
    ∷ field (Gps, 2) (value.Rational (whole 0 ∷ whole 0
    ∷ record { num = 0; denom = 10000000 } ∷ []))
    ∷ text_field (Gps, 3) (codes "E")
    ∷ field (Gps, 4) (value.Rational (whole 0 ∷ whole 0
    ∷ record { num = 0; denom = 10000000 } ∷ [])) ∷ []
at_zero = refl

-- ---- files

-- a file with three points: one has no time, and those with one are not in order
abbrev pub a_file : List ℕ
a_file =
    codes "<?xml version=\"1.0\"?><gpx><wpt lat=\"1\" lon=\"1\">"
    ++ (codes "<time>1970-01-01T00:00:09Z</time></wpt><trk><trkseg><trkpt lat=\"1.5\" lon='-2'>"
    ++ (codes "<ele>7</ele><time>1970-01-01T00:00:02Z</time></trkpt><trkpt lat=\"1\" lon=\"2\"/>"
    ++ (codes "<g:trkpt lon=\" 3 \" lat=\"4\">\n<g:time> 1970-01-01T00:00:01Z </g:time><extensions>"
    ++ codes "<time>2000-01-01T00:00:00Z</time></extensions></g:trkpt></trkseg></trk></gpx>\n")))

pub two_of_three_points : track_of a_file ≡ Ok (record {
  points = p (719528 * 86400000 + 1000) 940000000 1830000000 None
      ∷ p (719528 * 86400000 + 2000) 915000000 1780000000 (Some 1000007000) ∷ [];
  skipped = 1;
  cut_off = false;
})
unfolding points_from step_at content_step tag_step enter leave with_text with_attribute element_at tag_at attribute_at content_at markup_at opening_at closing_at declared_at is_location is_word negative_of positive_of time_of ended milliseconds_of zone_of days_before_month days_before_year
two_of_three_points = refl

pub no_track : map track_of (codes "text" ∷ codes "<html></html>" ∷ codes "<gpx></gpx>"
    ∷ codes "<gpx><trk>" ∷ [])
    ≡ Err NotGpx ∷ Err NotGpx ∷ Err Empty ∷ Err (Xml Cut) ∷ []
unfolding points_from step_at content_step tag_step enter leave with_text with_attribute element_at tag_at attribute_at content_at markup_at opening_at closing_at declared_at is_location is_word
no_track = refl

-- one point, and more behind it
abbrev pub a_point_and : List ℕ → List ℕ
a_point_and rest =
    codes "<gpx><trkpt lat='1' lon='2'><time>1970-01-01T00:00:01Z</time></trkpt>" ++ rest

-- the track of that point
abbrev pub the_point : Bool → Result TrackView TrackError
the_point cut_off = Ok (record {
  points = p (719528 * 86400000 + 1000) 910000000 1820000000 None ∷ [];
  skipped = 0;
  cut_off = cut_off;
})

-- whole, or cut off in a tag, in a value, in a time and in a comment; and not well-formed
pub with_more : map (λ rest. track_of (a_point_and rest)) (codes "</gpx>" ∷ codes "<trkpt la"
    ∷ codes "<trkpt lat='3' lon='4" ∷ codes "<trkpt lat='3' lon='4'><time>1970-01"
    ∷ codes "<!-- 2 > 1" ∷ codes "<trkpt lat=3></trkpt></gpx>" ∷ [])
    ≡ the_point false ∷ the_point true ∷ the_point true ∷ the_point true ∷ the_point true
    ∷ Err (Xml Malformed) ∷ []
unfolding points_from step_at content_step tag_step enter leave with_text with_attribute element_at tag_at attribute_at content_at markup_at opening_at closing_at declared_at is_location is_word negative_of positive_of time_of ended milliseconds_of zone_of days_before_month days_before_year
with_more = refl

-- ---- other formats

pub others : map track_of (codes "<?xml version='1.0'?><kml></kml>"
    ∷ codes "<TrainingCenterDatabase>" ∷ codes "@Sony\n$GPGGA,1" ∷ [])
    ≡ Err (Other Kml) ∷ Err (Other Tcx) ∷ Err (Other Nmea) ∷ []
unfolding points_from step_at content_step tag_step enter leave with_text with_attribute element_at tag_at attribute_at content_at markup_at opening_at closing_at declared_at is_location is_word
others = refl

-- the header of a FIT file, and that of a zip archive
pub fit : other_format (14 ∷ 16 ∷ 84 ∷ 8 ∷ 1 ∷ 0 ∷ 0 ∷ 0 ∷ codes ".FIT") ≡ Some Fit
fit = refl

pub zip : other_format (80 ∷ 75 ∷ 3 ∷ 4 ∷ 20 ∷ []) ≡ Some Zip
zip = refl

pub none_of_these : other_format (codes "P") ≡ None
none_of_these = refl

-- ---- the day and the time of day of a time

-- a time
abbrev pub moment : ℕ → ℕ → ℕ → TimeOfDay → ℕ → Moment
moment year month day time millisecond = record {
  date = record { year = year; month = month; day = day };
  time = time;
  millisecond = millisecond;
}

-- 366 days are before the year 1
pub a_time_of_the_year_1 : moment_at (366 * 86400000 + 3723456)
    ≡ Some (moment 1 1 1 (record { hour = 1; minute = 2; second = 3 }) 456)
unfolding year_from month_from
a_time_of_the_year_1 = refl

pub a_leap_days_end : moment_at (1521 * 86400000 - 1)
    ≡ Some (moment 4 2 29 (record { hour = 23; minute = 59; second = 59 }) 999)
unfolding year_from month_from
a_leap_days_end = refl

pub a_moments_text
    : moment_text (moment 2024 5 1 (record { hour = 2; minute = 30; second = 1 }) 0)
    ≡ codes "2024-05-01T02:30:01Z"
unfolding zero_filled digits
a_moments_text = refl
