use Rattle.std.proofs.Common.{ℕ, List, ap}
use Rattle.std.specs.Borrow.{Bor}
use Rattle.exif_setting.proofs.SecondFound.{behind_first, none_in}
use Rattle.exif_setting.proofs.second.second_in_jpeg.Goals as goal

pub returns-in-Ok : goal.returns-in-Ok
returns-in-Ok c =
    behind_first c.new-source.result.inner.now c.args.file.now c.in-Ok._first.items
    c.get_exif_attr_from_jpeg.new.source.inner.now c.found_behind.result
    (ap (λ (b : Bor (List ℕ)). b.now) c.new-source.ensures.inner) c.in-Ok.ensures.found
    c.found_behind.ensures

pub returns-in-Err : goal.returns-in-Err
returns-in-Err c =
    none_in c.new-source.result.inner.now c.args.file.now c.in-Err.error c.not_found.result
    (ap (λ (b : Bor (List ℕ)). b.now) c.new-source.ensures.inner) c.not_found.ensures.none
    c.not_found.ensures.refused c.in-Err.ensures.refused
