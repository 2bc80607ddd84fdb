use Rattle.std.proofs.Common.{◌≡◌, ◌≤◌, ◌<◌, ◌+◌, ◌-◌, cond, eqb, length, take, drop, arith, refl}
use Rattle.std.proofs.lemmas.Bool.Decides.{nat_tests}
use Rattle.std.proofs.lemmas.Result.{err_from_is_err_and}
use Rattle.exif_types.specs.Refusals.{Gives}
use Rattle.exif_containers.proofs.IsobmffNames.{one_part_only, result_named, short_named}
use Rattle.exif_containers.proofs.IsobmffExtents.{long_part, part_read, rest_of}
use Rattle.exif_containers.proofs.isobmff.extents.one_extent.Goals as goal
use Rattle.exif_containers.proofs.isobmff.extents.one_extent.Goals.{then-len-eq0, else-len-eq0}

pub returns-in_err-skip-clause-named : goal.returns-in_err-skip-clause-named
returns-in_err-skip-clause-named g c =
    let p = err_from_is_err_and c.from_residual-in_err-skip.result c.from_residual-in_err-skip.ensures.1 in
    rw (p.1, p.2) (short_named c.in_err-skip.field-0.0 (g.R.Source.left c.reach.new.source) (λ xs. length xs < c.saturating_sub.result) c.in_err-skip.ensures.short)

pub returns-then-len-gt-TOO_MANY-clause-named : goal.returns-then-len-gt-TOO_MANY-clause-named
returns-then-len-gt-TOO_MANY-clause-named g c = (23, omega arith, refl)

pub returns-then-len-gt-TOO_MANY-clause-gives : goal.returns-then-len-gt-TOO_MANY-clause-gives
returns-then-len-gt-TOO_MANY-clause-gives g c =
    let within : c.in-Some.start ≤ length c.reach.new.bytes.items = rw c.in-Some.is at c.in_ok-start.ensures.start in
    let rest : c.args.len ≤ c.saturating_sub.result + (length c.reach.new.bytes.items - c.in-Some.start) = omega arith in
    long_part (g.R.Source.left c.args.source.now) (g.R.Source.left c.reach.new.source) (g.R.Source.left c.skip.new.source) c.args.offset c.in-Some.start c.args.len c.saturating_sub.result c.args.front.items c.reach.new.bytes.items
    (rw c.in-Some.is at c.in_ok-start.ensures.reached) (omega arith) rest c.in_ok-skip.ensures.taken

pub returns-clause-named : goal.returns-clause-named
returns-clause-named g c = result_named (λ v. v.items) c.part_of-2.result _ (one_part_only c.args.len (take (length c.deref.result.now - c.in-Some.start) (drop c.in-Some.start c.deref.result.now))) c.part_of-2.ensures.gives

pub returns-clause-gives : goal.returns-clause-gives
returns-clause-gives g c =
    let within : c.in-Some.start ≤ length c.reach.new.bytes.items = rw c.in-Some.is at c.in_ok-start.ensures.start in
    let rest : c.if-len-eq0.wanted ≤ c.saturating_sub-2.result + (length c.reach.new.bytes.items - c.in-Some.start) = omega arith in
    let wanted : c.if-len-eq0.wanted ≡ cond (eqb c.args.len 0) 65536 c.args.len =
    elim c.if-len-eq0.branch [ then-len-eq0 w ↦ grind (arith, nat_tests) | else-len-eq0 w ↦ grind (arith, nat_tests) ] in
    part_read (λ t. Gives (λ v. v.items) c.part_of-2.result t) (g.R.Source.left c.args.source.now) (g.R.Source.left c.reach.new.source) (g.R.Source.left c.read_whole.new.source) c.args.offset c.in-Some.start c.args.len c.if-len-eq0.wanted
    c.saturating_sub-2.result c.in_ok-_whole._whole c.args.front.items c.reach.new.bytes.items c.read_whole.new.bytes.items (take (length c.deref.result.now - c.in-Some.start) (drop c.in-Some.start c.deref.result.now)) (rw c.in-Some.is at c.in_ok-start.ensures.reached) within wanted rest
    c.in_ok-_whole.ensures.read c.in_ok-_whole.ensures.kept c.in_ok-_whole.ensures.grows c.in_ok-_whole.ensures.end (rest_of c.in-Some.start c.deref.result.now c.read_whole.new.bytes.items c.deref.ensures.value) c.part_of-2.ensures.gives
