use Rattle.std.proofs.Common.{refl, true}
use Rattle.std.proofs.Output.{has_written_append}
use Rattle.exif_text.proofs.clock.write_date.Goals as goal

pub returns : goal.returns
returns g c plain ok =
    let year = c.in_ok-write_four.ensures plain (refl {a = true}) in
    let first = c.in_ok-write_str.ensures.writes year.plain (refl {a = true}) in
    let month = c.in_ok-write_two.ensures first.plain (refl {a = true}) in
    let second = c.in_ok-write_str-2.ensures.writes month.plain (refl {a = true}) in
    let day = c.write_two-2.ensures second.plain ok in
    has_written_append _ _ _ _ _ _ year (has_written_append _ _ _ _ _ _ first
    (has_written_append _ _ _ _ _ _ month (has_written_append _ _ _ _ _ _ second day)))
