use Rattle.std.proofs.Common.{◌∙◌}
use Rattle.std.proofs.lemmas.Result.{err_from_is_err_and}
use Rattle.exif_tiff.specs.Answers.{Answer}
use Rattle.exif_tiff.specs.Results.{Says, parsed_of}
use Rattle.exif_tiff.proofs.TiffLimits.{unlimited}
use Rattle.exif_tiff.proofs.tiff.parse.Goals as goal

pub returns-in_err-placed-clause-says : goal.returns-in_err-placed-clause-says
returns-in_err-placed-clause-says c =
    let P : Answer → Type 0 = λ answer. Says (parsed_of c.parse_within.result) answer in
    let p = err_from_is_err_and c.from_residual.result c.from_residual.ensures.1 in
    let same = unlimited c.args.lenient c.args.limit c.args.bytes.now c.unwrap_or.result c.unwrap_or.ensures
    (c.reading_is_bounded.ensures.visits c.args.bytes.now c.show_bytes.ensures) (λ n. c.limits_cut_readings.ensures.unchanged n c.args.bytes.now) in
    rw (p.1, p.2, same) c.in_err-placed.ensures.says

pub returns-clause-says : goal.returns-clause-says
returns-clause-says c =
    unlimited c.args.lenient c.args.limit c.args.bytes.now c.unwrap_or.result c.unwrap_or.ensures
    (c.reading_is_bounded.ensures.visits c.args.bytes.now c.show_bytes.ensures) (λ n. c.limits_cut_readings.ensures.unchanged n c.args.bytes.now)
    ∙ c.in_ok-placed.ensures.says
