-- How many points of a track a time has reached.
use Rattle.std.specs.Prelude.{ℕ, ◌<◌, ◌≤◌, List, length}
use Rattle.std.specs.List.{slice_index_or}
use Rattle.exif_geotag.specs.declared.point.Point.{Point}

-- this many points at the front are at or before a time, and all others are after it
pub record Reaches (time : ℕ) (points : List Point) (count : ℕ) : Type 0 where
  pub within : count ≤ length points
  pub before : (k : ℕ) (d : Point) → k < count → (slice_index_or points k d).time ≤ time
  pub after : (k : ℕ) (d : Point) → count ≤ k → k < length points
      → time < (slice_index_or points k d).time
