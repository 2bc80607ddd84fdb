use Rattle.std.proofs.Common.{◌≡◌, true, arith}
use Rattle.std.proofs.lemmas.Grind.{common_steps}
use Rattle.std.specs.Char.{is_ascii_digit}
use Rattle.std.specs.List.{list_all}
use Rattle.exif_summary.proofs.Digits.{digits_are_utf8}
use Rattle.exif_summary.proofs.dates.fraction_digits.Goals as goal

pub returns-in-Err : goal.returns-in-Err
returns-in-Err c =
    let all : list_all is_ascii_digit c.subsec_bytes-bytes.result.now ≡ true = grind (arith, common_steps) in
    absurd (c.in-Err.ensures.cases.0 (digits_are_utf8 c.subsec_bytes-bytes.result.now all))
