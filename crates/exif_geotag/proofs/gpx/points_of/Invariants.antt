use Rattle.std.proofs.Common.{◌≡◌, ◌≤◌, ◌-◌, length, drop}
use Rattle.exif_geotag.specs.Walks.{behind, points_from, points_of}
use Rattle.exif_geotag.proofs.gpx.points_of.Given as goal

abbrev pub invariant-loop-at : goal.invariant-loop-at
invariant-loop-at l = record {
  rest : points_of l.gpx ≡ behind l.points.kept.items l.points.skipped (points_from (drop l.at l.gpx) l.state 0);
  within : l.at ≤ length l.gpx;
  skipped : l.points.skipped ≤ l.at;
  depth : l.state.depth ≤ l.at;
  inside : l.state.inside ≤ l.at;
}

abbrev pub decreases-loop-at : goal.decreases-loop-at
decreases-loop-at l = length l.gpx - l.at
