use Rattle.exif_table.proofs.rows.rows.Goals as goal

pub returns-in-Gps-clause-rows : goal.returns-in-Gps-clause-rows
returns-in-Gps-clause-rows c = rw c.in-Gps.is c.rows-in-Gps.ensures.rows
