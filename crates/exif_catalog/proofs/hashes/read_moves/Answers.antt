use Rattle.exif_catalog.proofs.hashes.read_moves.Goals as goal

pub returns-clause-moves : goal.returns-clause-moves
returns-clause-moves g c clean = (
  c.in_ok-sides.sides.gone.items,
  c.in_ok-sides.sides.fresh.items,
  c.in_ok-sides.ensures.sides clean,
  c.in_ok-find_moves.ensures,
)
