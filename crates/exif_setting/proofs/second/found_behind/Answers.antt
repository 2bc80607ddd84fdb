use Rattle.std.proofs.Common.{ap}
use Rattle.exif_setting.proofs.SecondFound.{second_found, second_refused}
use Rattle.exif_setting.proofs.second.found_behind.Goals as goal

pub returns-in-Ok : goal.returns-in-Ok
returns-in-Ok g c =
    second_found _ (g.R.Source.left c.new-stream.result.source.now)
    (g.R.Source.left c.args.source.now) c.new-stream.ensures.at_hand
    (ap g.R.Source.left c.new-stream.ensures.source) _ _ c.in-Ok.ensures.found

pub returns-in-Err : goal.returns-in-Err
returns-in-Err g c =
    second_refused _ (g.R.Source.left c.new-stream.result.source.now)
    (g.R.Source.left c.args.source.now) c.new-stream.ensures.at_hand
    (ap g.R.Source.left c.new-stream.ensures.source) c.in-Err.error c.not_found.result
    c.not_found.ensures.none c.not_found.ensures.refused c.in-Err.ensures.refused
