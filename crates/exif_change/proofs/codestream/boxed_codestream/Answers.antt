use Rattle.std.proofs.Common.{ap, sym, ◌∙◌, arith}
use Rattle.std.proofs.lemmas.Bool.Decides.{nat_tests}
use Rattle.std.proofs.lemmas.List.{take_rest}
use Rattle.exif_inventory.specs.declared.piece.Piece.{Piece}
use Rattle.exif_change.specs.Codestreams.{boxed_codestream}
use Rattle.exif_change.proofs.CodestreamSteps.{walks_cut, walks_on, walks_over}
use Rattle.exif_change.proofs.codestream.boxed_codestream.Goals as goal

pub returns-then-is_cut_box : goal.returns-then-is_cut_box
returns-then-is_cut_box c =
    c.cut_off.ensures
    ∙ sym (walks_cut (boxed_codestream c.args.bytes.now) c.loop-rest.rest.now c.loop-rest.found c.box_piece-len.result.len c.with_box-found.result
    c.loop-rest.invariant (grind (arith, nat_tests)) (ap (λ (p : Piece). p.len) c.box_piece-len.ensures.value) c.with_box-found.ensures
    (sym c.is_cut_box.ensures ∙ c.if-is_cut_box.true))

pub loop-rest-preserved : goal.loop-rest-preserved
loop-rest-preserved c =
    walks_on (boxed_codestream c.args.bytes.now) c.loop-rest.rest.now c.loop-rest.found c.box_piece-len.result.len _ c.with_box-found.result
    c.loop-rest.invariant (grind (arith, nat_tests)) (ap (λ (p : Piece). p.len) c.box_piece-len.ensures.value) c.box_piece-len.ensures.some c.with_box-found.ensures
    (sym c.is_cut_box.ensures ∙ c.if-is_cut_box.false) (take_rest c.loop-rest.rest.now c.box_piece-len.result.len)

pub returns : goal.returns
returns c = sym (walks_over (boxed_codestream c.args.bytes.now) c.loop-rest.rest.now c.loop-rest.found c.loop-rest.invariant (grind (arith, nat_tests)))
