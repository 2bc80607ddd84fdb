use Rattle.exif_catalog.proofs.catalog.Catalog.take_moves.Goals as goal

pub returns-clause-moves : goal.returns-clause-moves
returns-clause-moves g c clean = (
  c.read_moves.new.database,
  c.in_ok-moves.ensures.moves (c.delete_rows.ensures.clean clean),
  rw c.as_slice.ensures.value at (c.in_ok-delete_rows.ensures.deletes clean),
)
