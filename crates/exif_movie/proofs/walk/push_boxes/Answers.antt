use Rattle.std.proofs.Common.{arith, rules}
use Rattle.std.proofs.lemmas.Bool.Decides.{nat_tests}
use Rattle.std.proofs.lemmas.List.{take_rest}
use Rattle.exif_movie.proofs.WalkSteps.{walks_on, walks_over}
use Rattle.exif_movie.proofs.walk.push_boxes.Goals as goal

pub loop-rest-preserved : goal.loop-rest-preserved
loop-rest-preserved c =
    let bytes = c.loop-rest.rest.now in
    let piece = c.piece_at-piece.result in
    walks_on c.args.container c.args.level c.args.from c.args.bytes.now c.args.found.now.items c.loop-rest.at bytes c.loop-rest.found.items piece _ _ c.loop-rest.invariant (grind (arith, nat_tests)) c.piece_at-piece.ensures.value c.piece_at-piece.ensures.some c.piece_at-piece.ensures.within (take_rest bytes piece.len) (search rules)

pub returns : goal.returns
returns c =
    walks_over c.args.container c.args.level c.args.from c.args.bytes.now c.args.found.now.items c.loop-rest.at c.loop-rest.rest.now c.loop-rest.found.items c.loop-rest.invariant (grind (arith, nat_tests))
