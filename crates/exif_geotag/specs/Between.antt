-- Locations between two points of a track.
use Rattle.std.specs.Prelude.{ℕ, ◌+◌, ◌-◌, ◌*◌, ◌/◌, ◌==◌, nat_le, nat_lt, if◌then◌else◌, List, [], ◌∷◌, Option, Some, None}
use Rattle.exif_geotag.specs.declared.point.Fix.{Fix}
use Rattle.exif_geotag.specs.declared.point.Point.{Point}

-- the number at so many of all parts of the way between two, rounded towards the first
abbrev pub between : ℕ → ℕ → ℕ → ℕ → ℕ
between from to part all =
    if nat_le from to then from + (to - from) * part / all else from - (from - to) * part / all

-- a longitude that may be past 180 degrees, as one that is not
abbrev pub wrapped : ℕ → ℕ
wrapped longitude = if nat_lt 3600000000 longitude then longitude - 3600000000 else longitude

-- the same of two longitudes, the short way round
abbrev pub longitude_between : ℕ → ℕ → ℕ → ℕ → ℕ
longitude_between from to part all =
    if nat_lt (from + 1800000000) to then wrapped (between (from + 3600000000) to part all)
    else (if nat_lt (to + 1800000000) from then wrapped (between from (to + 3600000000) part all)
    else between from to part all)

-- the same of two elevations, if both are known
abbrev pub elevation_between : Option ℕ → Option ℕ → ℕ → ℕ → Option ℕ
elevation_between (Some from) (Some to) part all = Some (between from to part all)
elevation_between (Some from) None part all = None
elevation_between None to part all = None

-- the location of a point
abbrev pub fix_of : Point → Fix
fix_of point = record {
  latitude = point.latitude;
  longitude = point.longitude;
  elevation = point.elevation;
}

-- the location at a time between two points
abbrev pub interpolated : ℕ → Point → Point → Fix
interpolated time from to = record {
  latitude = between from.latitude to.latitude (time - from.time) (to.time - from.time);
  longitude =
      longitude_between from.longitude to.longitude (time - from.time) (to.time - from.time);
  elevation =
      elevation_between from.elevation to.elevation (time - from.time) (to.time - from.time);
}

-- the location at a time behind the last point, if it is the time of that point
abbrev pub fix_at_last : ℕ → Point → Option Fix
fix_at_last time last = if last.time == time then Some (fix_of last) else None

-- the location at a time before the next point: that of the last point if it is its time, else one
-- between the two, if they are no further apart than a gap
abbrev pub fix_before : ℕ → ℕ → Point → Point → Option Fix
fix_before max_gap time last next =
    if last.time == time then Some (fix_of last)
    else (if nat_le (next.time - last.time) max_gap then Some (interpolated time last next)
    else None)

-- the location at a time, where the last point so far is at or before it
abbrev pub fix_from : ℕ → ℕ → Point → List Point → Option Fix
fix_from max_gap time last [] = fix_at_last time last
fix_from max_gap time last (next ∷ points) =
    if nat_le next.time time then fix_from max_gap time next points
    else fix_before max_gap time last next

-- the location of a track at a time: `points` are in the order of their times; none between two that
-- are further apart than a gap
abbrev pub fix_at : ℕ → ℕ → List Point → Option Fix
fix_at max_gap time [] = None
fix_at max_gap time (first ∷ points) =
    if nat_le first.time time then fix_from max_gap time first points else None
