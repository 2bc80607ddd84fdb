use Rattle.std.proofs.Common.{refl}
use Rattle.std.proofs.lemmas.Result.{err_from_is_err_and}
use Rattle.exif_table.specs.View.{row_view}
use Rattle.exif_decisions.specs.Listing.{tag_line}
use Rattle.exif_decisions.proofs.ListingLemmas.{writes_members, writes_stop_member}
use Rattle.exif_decisions.proofs.tags.write_rows.Goals as goal

pub returns-in_err-write_row : goal.returns-in_err-write_row
returns-in_err-write_row g c =
    let p = err_from_is_err_and c.from_residual.result c.from_residual.ensures.1 in
    record {
      writes = rw (p.1, p.2) (writes_stop_member row_view (tag_line c.args.context) c.args.rows.now c.loop-row.row-index _ _
          c.loop-row-test.true refl c.loop-row.invariant c.in_err-write_row.ensures.writes);
    }

pub returns : goal.returns
returns g c = record {
  writes = writes_members row_view (tag_line c.args.context) c.args.rows.now c.loop-row.row-index c.loop-row-test.false c.loop-row.invariant;
}
