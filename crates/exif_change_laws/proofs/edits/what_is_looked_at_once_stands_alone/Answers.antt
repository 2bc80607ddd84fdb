use Rattle.exif_change_laws.proofs.ApartFields.{each_apart, last_apart, gps_alone}
use Rattle.exif_change_laws.proofs.edits.what_is_looked_at_once_stands_alone.Goals as goal

pub returns-clause-each : goal.returns-clause-each
returns-clause-each c = each_apart

pub returns-clause-last : goal.returns-clause-last
returns-clause-last c = last_apart

pub returns-clause-offsets : goal.returns-clause-offsets
returns-clause-offsets c = gps_alone
