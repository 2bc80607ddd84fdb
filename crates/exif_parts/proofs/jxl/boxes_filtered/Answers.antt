use Rattle.std.proofs.Common.{length, sym, ◌∙◌, arith}
use Rattle.std.proofs.lemmas.Bool.Decides.{nat_tests}
use Rattle.exif_parts.specs.Jxl.{boxes_filtered}
use Rattle.exif_parts.proofs.JxlSteps.{runs_cut, runs_on, runs_over}
use Rattle.exif_parts.proofs.jxl.boxes_filtered.Goals as goal

pub returns-then-is_cut_box : goal.returns-then-is_cut_box
returns-then-is_cut_box c =
    let answer = boxes_filtered (length c.args.boxes.now) c.args.remove c.args.boxes.now c.args.front.items in
    sym (runs_cut c.args.remove answer c.loop-rest.rest.now c.loop-rest.out.items c.box_piece-piece.result c.add_kept_box.new.out.items
    c.loop-rest.invariant (grind (arith, nat_tests)) c.box_piece-piece.ensures.value c.in_ok-add_kept_box.ensures
    (sym c.is_cut_box.ensures ∙ c.if-is_cut_box.true))

pub loop-rest-preserved : goal.loop-rest-preserved
loop-rest-preserved c =
    let answer = boxes_filtered (length c.args.boxes.now) c.args.remove c.args.boxes.now c.args.front.items in
    runs_on c.args.remove answer c.loop-rest.rest.now c.loop-rest.out.items c.box_piece-piece.result c.split.result.1.now c.add_kept_box.new.out.items
    c.loop-rest.invariant (grind (arith, nat_tests)) c.box_piece-piece.ensures.value c.box_piece-piece.ensures.some c.in_ok-add_kept_box.ensures
    (sym c.is_cut_box.ensures ∙ c.if-is_cut_box.false) c.split.ensures.rest

pub returns : goal.returns
returns c =
    let answer = boxes_filtered (length c.args.boxes.now) c.args.remove c.args.boxes.now c.args.front.items in
    sym (runs_over c.args.remove answer c.loop-rest.rest.now c.loop-rest.out.items c.loop-rest.invariant (grind (arith, nat_tests)))
