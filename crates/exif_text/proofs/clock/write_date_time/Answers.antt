use Rattle.std.proofs.Common.{refl, true}
use Rattle.std.proofs.Output.{has_written_append}
use Rattle.exif_text.specs.Dates.{datetime_text}
use Rattle.exif_text.proofs.clock.write_date_time.Goals as goal

pub returns : goal.returns
unfolding datetime_text
returns g c plain ok =
    let date = c.in_ok-write_date.ensures plain (refl {a = true}) in
    let between = c.in_ok-write_str.ensures.writes date.plain (refl {a = true}) in
    let time = c.write_time.ensures between.plain ok in
    has_written_append _ _ _ _ _ _ date (has_written_append _ _ _ _ _ _ between time)
