use Rattle.std.proofs.Common.{◌≡◌, drop, map}
use Rattle.std.specs.List.{find}
use Rattle.exif_iptc.specs.Named.{has_name}
use Rattle.exif_iptc.specs.RowViews.{row_view}
use Rattle.exif_iptc.proofs.names.row_named.Given as goal

-- none of the rows so far has the name
abbrev pub invariant-loop-row : goal.invariant-loop-row
invariant-loop-row l =
    find (has_name l.name) (map row_view (drop l.row-index l.rows))
    ≡ find (has_name l.name) (map row_view l.rows)
