use Rattle.exif_rename.proofs.Plans.{give_next}
use Rattle.std.proofs.Common.{◌≡◌, ◌++◌, ◌<◌, length, arith, rules}
use Rattle.std.specs.String.{string_bytes}
use Rattle.exif_rename.proofs.plan.give_by.Goals as goal

pub loop-file-preserved : goal.loop-file-preserved
loop-file-preserved c = λ names are q.
    let within : c.loop-file.file-index < length c.args.request_files.now = omega arith in
    let e : string_bytes c.in_ok-joined.field-0 ≡ c.args.name.now ++ string_bytes c.file-item.result.ending = search rules in
    give_next c.args.name.now c.args.request_files.now c.loop-file.file-index c.file-item.result _ names q _ _ within c.file-item.is e (c.loop-file.invariant names are q) (c.in_ok-insert.ensures q)
