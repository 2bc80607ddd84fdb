use Rattle.std.proofs.Common.{arith, rules}
use Rattle.std.proofs.lemmas.Bool.Decides.{nat_tests}
use Rattle.std.proofs.lemmas.List.{take_rest}
use Rattle.exif_inventory_heif.specs.declared.piece.State.TheVariants.{Before}
use Rattle.exif_inventory_heif.proofs.WalkSteps.{walks_on, walks_over}
use Rattle.exif_inventory_heif.proofs.walk.spans_of.Goals as goal

pub loop-rest-preserved : goal.loop-rest-preserved
loop-rest-preserved c =
    let bytes = c.loop-rest.rest.now in
    let piece = c.piece_at-piece.result in
    walks_on Before c.args.file.now c.loop-rest.state c.loop-rest.from bytes c.loop-rest.found.items piece _ _ c.loop-rest.invariant (grind (arith, nat_tests)) c.piece_at-piece.ensures.value c.piece_at-piece.ensures.some c.piece_at-piece.ensures.within c.piece_at-piece.ensures.framed (take_rest bytes piece.len) (search rules)

pub returns : goal.returns
returns c =
    let p = walks_over Before c.args.file.now c.loop-rest.state c.loop-rest.from c.loop-rest.rest.now c.loop-rest.found.items c.loop-rest.invariant (grind (arith, nat_tests)) in
    record { spans = p.0; ordered = p.1 }
