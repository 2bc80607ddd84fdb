use Rattle.std.proofs.Common.{take}
use Rattle.std.specs.List.{flat_map}
use Rattle.exif_table.specs.View.{row_view}
use Rattle.exif_decisions.specs.Listing.{tag_line}
use Rattle.exif_decisions.proofs.ListingLemmas.{HasWrittenText}
use Rattle.exif_decisions.proofs.tags.write_rows.Given as goal

-- the lines so far were written
abbrev pub invariant-loop-row : goal.invariant-loop-row
invariant-loop-row g l =
    HasWrittenText g.W.Sink l.initial.out l.out (flat_map (λ row. tag_line l.context (row_view row)) (take l.row-index l.rows))
