use Rattle.std.proofs.Common.{arith, rules}
use Rattle.std.proofs.lemmas.Bool.Decides.{nat_tests}
use Rattle.std.proofs.lemmas.List.{take_rest}
use Rattle.exif_inventory.specs.Walks.{none, walk_view}
use Rattle.exif_inventory.proofs.WalkSteps.{walks_on, walks_over}
use Rattle.exif_inventory.proofs.walk.parts_from.Goals as goal

pub loop-rest-preserved : goal.loop-rest-preserved
loop-rest-preserved c =
    let bytes = c.loop-rest.rest.now in
    let piece = c.piece_at-piece.result in
    walks_on c.args.start c.args.file.now none c.loop-rest.state bytes (walk_view c.loop-rest.walk) piece _ _ c.loop-rest.invariant (grind (arith, nat_tests)) c.piece_at-piece.ensures.value c.piece_at-piece.ensures.some c.piece_at-piece.ensures.within c.piece_at-piece.ensures.framed (take_rest bytes piece.len) (search rules)

pub returns : goal.returns
returns c =
    let o = c.in_ok-push.ensures.items in
    let p = walks_over c.args.start c.args.file.now none c.loop-rest.state c.loop-rest.rest.now (walk_view c.loop-rest.walk) c.push.new.self.items c.loop-rest.invariant (grind (arith, nat_tests)) o in
    record { parts = p.0; covers = p.1; within = p.2; inside = p.3 }
