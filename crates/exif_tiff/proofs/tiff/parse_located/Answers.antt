use Rattle.std.proofs.Common.{List, None, refl, sym, subst, IfOk, true}
use Rattle.exif_tiff.specs.Answers.{Answer}
use Rattle.exif_tiff.specs.Trace.{Node, trace}
use Rattle.exif_tiff.specs.Noted.{TellsOffsets}
use Rattle.exif_tiff.specs.Results.{Says, parsed_of}
use Rattle.exif_tiff.specs.declared.tiff.Placed.{Placed}
use Rattle.exif_tiff.proofs.TiffLimits.{all_fit, unlimited}
use Rattle.exif_tiff.proofs.tiff.parse_located.Goals as goal

pub returns-clause-says : goal.returns-clause-says
returns-clause-says c =
    let P : Answer → Type 0 = λ answer. Says (parsed_of c.parse_within.result) answer in
    subst P (sym (unlimited true None c.args.bytes.now 18446744073709551615 refl
    (c.reading_is_bounded.ensures.visits c.args.bytes.now c.show_bytes.ensures) (λ n. c.limits_cut_readings.ensures.unchanged n c.args.bytes.now)))
    c.parse_within.ensures.says

pub returns-clause-offsets : goal.returns-clause-offsets
returns-clause-offsets c =
    let P : List Node → Type 0 =
    λ nodes. IfOk c.parse_within.result (λ (placed : Placed). TellsOffsets nodes placed.offsets) in
    subst P (c.limits_cut_readings.ensures.within 18446744073709551615 (trace c.args.bytes.now)
    (all_fit c.args.bytes.now (c.reading_is_bounded.ensures.visits c.args.bytes.now c.show_bytes.ensures)))
    (c.parse_within.ensures.offsets refl refl)
