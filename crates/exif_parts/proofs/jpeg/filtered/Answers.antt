use Rattle.std.proofs.Common.{◌≡◌, ◌≤◌, ◌∷◌, [], false, ℕ, Bool, length, take, drop, ◌-◌, ◌<◌, List, ◌++◌, Option, Ok, ap, arith, subst, sym, ◌∙◌}
use Rattle.std.specs.Option.{option_map}
use Rattle.std.specs.Borrow.{Bor}
use Rattle.std.proofs.lemmas.Bool.Decides.{nat_tests}
use Rattle.exif_inventory.specs.declared.piece.Piece.{Piece}
use Rattle.exif_parts.specs.Jpeg.{filtered, inserted, pending}
use Rattle.exif_parts.specs.Kept.{kept}
use Rattle.exif_parts.specs.Markers.{is_end, is_insertion_point}
use Rattle.exif_parts.specs.Written.{finished}
use Rattle.exif_parts.specs.declared.rewritten.Ended.TheVariants.{Whole}
use Rattle.exif_parts.proofs.Pieces.{full_len, full_within}
use Rattle.exif_parts.proofs.FilterSteps.{Runs, runs_cut, runs_ended, runs_flawed, runs_on, runs_over}
use Rattle.exif_parts.proofs.jpeg.filtered.Goals as goal

pub full_len-requires : goal.full_len-requires
full_len-requires c =
    let rest = c.loop-rest.rest.now in
    subst (λ (q : Piece). full_len q ≤ length rest) (sym c.stream_piece-piece.ensures.value) (full_within c.loop-rest.scanned rest)

pub returns-then-is_broken-clause-gives : goal.returns-then-is_broken-clause-gives
returns-then-is_broken-clause-gives c =
    runs_cut c.args.remove _ c.loop-rest.scanned c.loop-rest.left.now c.loop-rest.rest.now c.loop-rest.out.items c.stream_piece-piece.result c.loop-rest.invariant (grind (arith, nat_tests)) c.stream_piece-piece.ensures.value
    (sym c.is_broken.ensures ∙ c.if-is_broken.true)
    ∙ ap (λ x. Ok x) (sym c.in_ok-finish.ensures)

pub returns-in-Some-clause-gives : goal.returns-in-Some-clause-gives
returns-in-Some-clause-gives c =
    let rest = c.loop-rest.rest.now in
    let piece = c.stream_piece-piece.result in
    runs_flawed c.args.remove _ c.loop-rest.scanned c.loop-rest.left.now rest c.loop-rest.out.items piece c.split.result.0.now c.in-Some.flaw.now c.loop-rest.invariant (grind (arith, nat_tests)) c.stream_piece-piece.ensures.value
    (sym c.is_broken.ensures ∙ c.if-is_broken.false)
    (c.split.ensures.first ∙ ap (λ n. take n rest) c.full_len.ensures)
    (sym c.flaw.ensures ∙ ap (λ (o : Option (Bor (List ℕ))). option_map (λ (x : Bor (List ℕ)). x.now) o) c.in-Some.is)

pub returns-then-is_end-clause-gives : goal.returns-then-is_end-clause-gives
returns-then-is_end-clause-gives c =
    let rest = c.loop-rest.rest.now in
    let left = c.loop-rest.left.now in
    let out = c.loop-rest.out.items in
    let piece = c.stream_piece-piece.result in
    let span = c.split.result.0.now in
    let put = c.in_ok-extend_from_slice.ensures.items ∙ ap (λ (x : List ℕ). out ++ x) (c.inserted.ensures ∙ ap (λ (b : Bool). inserted b left) (c.is_insertion_point-here.ensures ∙ ap (λ (o : Option ℕ). is_insertion_point o) c.marker_of-marker.ensures)) in
    runs_ended c.args.remove _ c.loop-rest.scanned left rest out piece span c.split.result.1.now c.add_kept.new.out.items c.loop-rest.invariant (grind (arith, nat_tests)) c.stream_piece-piece.ensures.value
    (sym c.is_broken.ensures ∙ c.if-is_broken.false)
    (c.split.ensures.first ∙ ap (λ n. take n rest) c.full_len.ensures)
    (c.split.ensures.rest ∙ ap (λ n. drop n rest) c.full_len.ensures)
    (sym c.flaw.ensures ∙ ap (λ (o : Option (Bor (List ℕ))). option_map (λ (x : Bor (List ℕ)). x.now) o) c.in_default.is)
    (sym (c.is_end.ensures ∙ ap (λ (o : Option ℕ). is_end o) c.marker_of-marker.ensures) ∙ c.if-is_end.true)
    (c.in_ok-add_kept.ensures ∙ ap (λ (x : List ℕ). x ++ kept c.args.remove piece.kind span) put)
    ∙ ap (λ (x : List ℕ). Ok (finished c.add_kept.new.out.items x Whole)) (sym c.behind.ensures)
    ∙ ap (λ x. Ok x) (sym c.in_ok-finish-2.ensures)

pub loop-rest-smaller : goal.loop-rest-smaller
loop-rest-smaller c =
    let some : 0 < length c.loop-rest.rest.now = grind (arith, nat_tests) in
    let left : length c.split.result.1.now ≡ length c.loop-rest.rest.now - c.full_len.result = c.split.ensures.left in
    let len = c.full_len.ensures in
    let long : 0 < c.stream_piece-piece.result.len = c.stream_piece-piece.ensures.some in
    omega arith

pub loop-rest-preserved : goal.loop-rest-preserved
loop-rest-preserved c =
    let rest = c.loop-rest.rest.now in
    let left = c.loop-rest.left.now in
    let out = c.loop-rest.out.items in
    let piece = c.stream_piece-piece.result in
    let span = c.split.result.0.now in
    let here = c.is_insertion_point-here.ensures ∙ ap (λ (o : Option ℕ). is_insertion_point o) c.marker_of-marker.ensures in
    let put = c.in_ok-extend_from_slice.ensures.items ∙ ap (λ (x : List ℕ). out ++ x) (c.inserted.ensures ∙ ap (λ (b : Bool). inserted b left) here) in
    subst (λ (s : Bool). Runs c.args.remove (filtered (length c.args.stream.now) c.args.remove false c.args.new.now c.args.stream.now (255 ∷ 216 ∷ [])) s c.pending-left.result.now c.split.result.1.now c.add_kept.new.out.items) (sym c.is_scanned-scanned.ensures)
    (runs_on c.args.remove (filtered (length c.args.stream.now) c.args.remove false c.args.new.now c.args.stream.now (255 ∷ 216 ∷ [])) c.loop-rest.scanned left rest out piece span c.split.result.1.now c.pending-left.result.now c.add_kept.new.out.items c.loop-rest.invariant (grind (arith, nat_tests)) c.stream_piece-piece.ensures.value (let some : 0 < piece.len = c.stream_piece-piece.ensures.some in omega arith)
    (sym c.is_broken.ensures ∙ c.if-is_broken.false)
    (c.split.ensures.first ∙ ap (λ n. take n rest) c.full_len.ensures)
    (c.split.ensures.rest ∙ ap (λ n. drop n rest) c.full_len.ensures)
    (sym c.flaw.ensures ∙ ap (λ (o : Option (Bor (List ℕ))). option_map (λ (x : Bor (List ℕ)). x.now) o) c.in_default.is)
    (sym (c.is_end.ensures ∙ ap (λ (o : Option ℕ). is_end o) c.marker_of-marker.ensures) ∙ c.if-is_end.false)
    (c.in_ok-add_kept.ensures ∙ ap (λ (x : List ℕ). x ++ kept c.args.remove piece.kind span) put)
    (c.pending-left.ensures ∙ ap (λ (b : Bool). pending b left) here))

pub returns-clause-gives : goal.returns-clause-gives
returns-clause-gives c =
    runs_over c.args.remove _ c.loop-rest.scanned c.loop-rest.left.now c.loop-rest.rest.now c.loop-rest.out.items c.loop-rest.invariant (grind (arith, nat_tests))
    ∙ ap (λ x. Ok x) (sym c.in_ok-finish-3.ensures)
