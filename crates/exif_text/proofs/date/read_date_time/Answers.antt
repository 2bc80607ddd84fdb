use Rattle.std.proofs.Common.{rules}
use Rattle.exif_text.specs.Dates.{parse_datetime}
use Rattle.exif_text.proofs.date.read_date_time.Goals as goal

pub returns-then-bytes-lt19 : goal.returns-then-bytes-lt19
unfolding parse_datetime
returns-then-bytes-lt19 c = search rules
