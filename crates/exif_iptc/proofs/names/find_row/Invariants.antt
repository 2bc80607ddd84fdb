use Rattle.std.proofs.Common.{◌≡◌, ◌==◌, drop, map}
use Rattle.std.specs.List.{find}
use Rattle.exif_iptc.specs.Rows.{DatasetRow, row_of}
use Rattle.exif_iptc.specs.RowViews.{row_view}
use Rattle.exif_iptc.proofs.names.find_row.Given as goal

abbrev pub invariant-loop-i : goal.invariant-loop-i
invariant-loop-i l = row_of l.record_number l.number ≡ find (λ (r : DatasetRow). r.number == l.number) (map row_view (drop l.i l.rows))
