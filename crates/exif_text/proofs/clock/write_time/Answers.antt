use Rattle.std.proofs.Common.{refl, true}
use Rattle.std.proofs.Output.{has_written_append}
use Rattle.exif_text.proofs.clock.write_time.Goals as goal

pub returns : goal.returns
returns g c plain ok =
    let hour = c.in_ok-write_two.ensures plain (refl {a = true}) in
    let first = c.in_ok-write_str.ensures.writes hour.plain (refl {a = true}) in
    let minute = c.in_ok-write_two-2.ensures first.plain (refl {a = true}) in
    let second = c.in_ok-write_str-2.ensures.writes minute.plain (refl {a = true}) in
    let seconds = c.write_two-3.ensures second.plain ok in
    has_written_append _ _ _ _ _ _ hour (has_written_append _ _ _ _ _ _ first
    (has_written_append _ _ _ _ _ _ minute (has_written_append _ _ _ _ _ _ second seconds)))
