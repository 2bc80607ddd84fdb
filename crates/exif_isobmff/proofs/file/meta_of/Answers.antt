use Rattle.std.proofs.Common.{◌≡◌, ◌<◌, length, sym, ◌∙◌, ap, arith, false, cond, Err}
use Rattle.std.proofs.lemmas.Result.{err_from_is_err_and}
use Rattle.std.proofs.lemmas.Bool.Decides.{nat_tests}
use Rattle.exif_isobmff.specs.HeifRefusals.{meta_before_ftyp}
use Rattle.exif_isobmff.specs.Extents.{behind_meta}
use Rattle.exif_isobmff.specs.HeifFile.{file_boxes, meta_body, whole, meta_from}
use Rattle.exif_isobmff.specs.FileBoxView.{file_box_view}
use Rattle.exif_isobmff.proofs.BehindMeta.{behind_found, behind_other}
use Rattle.exif_isobmff.proofs.FileBoxes.{file_box_shorter, file_cut, file_failed, file_went_on, file_found, file_done}
use Rattle.exif_isobmff.proofs.file.meta_of.Goals as goal

pub loop-boxes-init : goal.loop-boxes-init
unfolding meta_body
loop-boxes-init c = record { body = ap (λ t. meta_from false (file_boxes t)) c.new-boxes.ensures; behind = ap behind_meta c.new-boxes.ensures }

pub returns-in_err-part-clause-body : goal.returns-in_err-part-clause-body
returns-in_err-part-clause-body c =
    let p = err_from_is_err_and c.from_residual.result c.from_residual.ensures.1 in
    let some : 0 < length c.loop-boxes.boxes = grind (arith, nat_tests) in
    rw (p.1, p.2, ← c.loop-boxes.invariant.body) (file_cut c.in_err-part.field-0.0 c.loop-boxes.seen c.loop-boxes.boxes some c.in_err-part.ensures)

pub returns-then-not-seen-clause-body : goal.returns-then-not-seen-clause-body
returns-then-not-seen-clause-body c =
    let some : 0 < length c.loop-boxes.boxes = grind (arith, nat_tests) in
    sym c.loop-boxes.invariant.body ∙ file_found c.loop-boxes.seen (file_box_view c.in_ok-part.part) c.loop-boxes.boxes c.file_box.new.self some c.in_ok-part.ensures c.in-Meta.is
    ∙ ap (λ b. cond b (whole c.in_ok-part.part.len c.in_ok-part.part.body.now) (Err meta_before_ftyp)) c.if-not-seen.true

pub returns-in_err-body-clause-body : goal.returns-in_err-body-clause-body
returns-in_err-body-clause-body c =
    let p = err_from_is_err_and c.from_residual-in_err-body.result c.from_residual-in_err-body.ensures.1 in
    let some : 0 < length c.loop-boxes.boxes = grind (arith, nat_tests) in
    let found = sym c.loop-boxes.invariant.body ∙ file_found c.loop-boxes.seen (file_box_view c.in_ok-part.part) c.loop-boxes.boxes c.file_box.new.self some c.in_ok-part.ensures c.in-Meta.is
    ∙ ap (λ b. cond b (whole c.in_ok-part.part.len c.in_ok-part.part.body.now) (Err meta_before_ftyp)) c.if-not-seen.false in
    rw (p.1, p.2, found) c.in_err-body.ensures

pub returns-in-Meta-clause-body : goal.returns-in-Meta-clause-body
returns-in-Meta-clause-body c =
    let some : 0 < length c.loop-boxes.boxes = grind (arith, nat_tests) in
    let found = sym c.loop-boxes.invariant.body ∙ file_found c.loop-boxes.seen (file_box_view c.in_ok-part.part) c.loop-boxes.boxes c.file_box.new.self some c.in_ok-part.ensures c.in-Meta.is
    ∙ ap (λ b. cond b (whole c.in_ok-part.part.len c.in_ok-part.part.body.now) (Err meta_before_ftyp)) c.if-not-seen.false in
    found ∙ c.in_ok-body.ensures

pub returns-in-Meta-clause-behind : goal.returns-in-Meta-clause-behind
returns-in-Meta-clause-behind c =
    let some : 0 < length c.loop-boxes.boxes = grind (arith, nat_tests) in
    c.rest-behind.ensures ∙ behind_found c.loop-boxes.boxes c.file_box.new.self (file_box_view c.in_ok-part.part) some c.in_ok-part.ensures c.in-Meta.is ∙ c.loop-boxes.invariant.behind

pub returns-in_err-seen-clause-body : goal.returns-in_err-seen-clause-body
returns-in_err-seen-clause-body c =
    let p = err_from_is_err_and c.from_residual-in_err-seen.result c.from_residual-in_err-seen.ensures.1 in
    let some : 0 < length c.loop-boxes.boxes = grind (arith, nat_tests) in
    rw (p.1, p.2, ← c.loop-boxes.invariant.body) (file_failed c.in_err-seen.field-0.0 c.loop-boxes.seen (file_box_view c.in_ok-part.part) c.loop-boxes.boxes c.file_box.new.self some c.in_ok-part.ensures c.in_default.not-Meta c.in_err-seen.ensures)

pub loop-boxes-smaller : goal.loop-boxes-smaller
loop-boxes-smaller c = file_box_shorter c.loop-boxes.boxes (file_box_view c.in_ok-part.part) c.file_box.new.self c.in_ok-part.ensures

pub loop-boxes-preserved : goal.loop-boxes-preserved
loop-boxes-preserved c =
    let some : 0 < length c.loop-boxes.boxes = grind (arith, nat_tests) in
    record {
      body = file_went_on c.loop-boxes.seen c.in_ok-seen.seen (file_box_view c.in_ok-part.part) c.loop-boxes.boxes c.file_box.new.self _ some c.in_ok-part.ensures c.in_default.not-Meta c.in_ok-seen.ensures c.loop-boxes.invariant.body;
      behind = behind_other c.loop-boxes.boxes c.file_box.new.self (file_box_view c.in_ok-part.part) some c.in_ok-part.ensures c.in_default.not-Meta ∙ c.loop-boxes.invariant.behind;
    }

pub returns-clause-body : goal.returns-clause-body
returns-clause-body c =
    let none : length c.loop-boxes.boxes ≡ 0 = grind (arith, nat_tests) in
    sym c.loop-boxes.invariant.body ∙ file_done c.loop-boxes.seen c.loop-boxes.boxes none
