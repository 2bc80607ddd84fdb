use Rattle.std.proofs.lemmas.Result.{err_from_is_err_and}
use Rattle.exif_decisions.proofs.ListingLemmas.{writes_failed, writes_kept, writes_stop, writes_then}
use Rattle.exif_decisions.proofs.tags.write_tags.Goals as goal

pub returns-in_err-write_rows : goal.returns-in_err-write_rows
returns-in_err-write_rows g c =
    let p = err_from_is_err_and c.from_residual.result c.from_residual.ensures.1 in
    record { writes = rw p.1 (writes_stop _ (rw c.rows.ensures.rows at c.in_err-write_rows.ensures.writes)) }

pub returns-in_err-write_rows-2 : goal.returns-in_err-write_rows-2
returns-in_err-write_rows-2 g c =
    let p = err_from_is_err_and c.from_residual-in_err-write_rows-2.result c.from_residual-in_err-write_rows-2.ensures.1 in
    let first = rw c.rows.ensures.rows at c.in_ok-write_rows.ensures.writes in
    record { writes = rw p.1 (writes_then first (writes_stop _ (rw c.rows-2.ensures.rows at c.in_err-write_rows-2.ensures.writes))) }

pub returns-in_err-write_rows-3 : goal.returns-in_err-write_rows-3
returns-in_err-write_rows-3 g c =
    let p = err_from_is_err_and c.from_residual-in_err-write_rows-3.result c.from_residual-in_err-write_rows-3.ensures.1 in
    let first = rw c.rows.ensures.rows at c.in_ok-write_rows.ensures.writes in
    let second = rw c.rows-2.ensures.rows at c.in_ok-write_rows-2.ensures.writes in
    record { writes = rw p.1 (writes_then first (writes_then second (writes_stop _ (rw c.rows-3.ensures.rows at c.in_err-write_rows-3.ensures.writes)))) }

pub returns-in_err-write_rows-4 : goal.returns-in_err-write_rows-4
returns-in_err-write_rows-4 g c =
    let p = err_from_is_err_and c.from_residual-in_err-write_rows-4.result c.from_residual-in_err-write_rows-4.ensures.1 in
    let first = rw c.rows.ensures.rows at c.in_ok-write_rows.ensures.writes in
    let second = rw c.rows-2.ensures.rows at c.in_ok-write_rows-2.ensures.writes in
    let third = rw c.rows-3.ensures.rows at c.in_ok-write_rows-3.ensures.writes in
    record { writes = rw p.1 (writes_then first (writes_then second (writes_then third (writes_failed (rw c.rows-4.ensures.rows at c.in_err-write_rows-4.ensures.writes))))) }

pub returns : goal.returns
returns g c =
    let first = rw c.rows.ensures.rows at c.in_ok-write_rows.ensures.writes in
    let second = rw c.rows-2.ensures.rows at c.in_ok-write_rows-2.ensures.writes in
    let third = rw c.rows-3.ensures.rows at c.in_ok-write_rows-3.ensures.writes in
    let fourth = rw c.rows-4.ensures.rows at c.in_ok-write_rows-4.ensures.writes in
    record { writes = writes_kept (writes_then first (writes_then second (writes_then third fourth))) c.flush.ensures.bytes c.flush.ensures.same }
