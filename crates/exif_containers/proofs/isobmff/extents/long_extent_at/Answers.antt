use Rattle.std.proofs.Common.{◌≡◌, ◌+◌, ◌≤◌, length, arith, refl, rules}
use Rattle.exif_containers.proofs.IsobmffExtents.{last_missing, last_there}
use Rattle.exif_containers.proofs.isobmff.extents.long_extent_at.Goals as goal

pub returns-then-n-eq0-clause-gives : goal.returns-then-n-eq0-clause-gives
returns-then-n-eq0-clause-gives g c =
    let size = c.read_front_at.auto.buf in
    let ends = rw c.in-Some-2.is at c.in_ok-n.ensures.end in
    let last : c.in-Some.last + 1 ≡ c.args.at + c.args.len = omega (arith, c.in-Some.ensures.1, c.requires) in
    last_missing (g.R.Source.stream c.args.source.now) c.args.at c.in-Some.last c.in-Some-2.n c.args.len last c.if-n-eq0.true (ends (search rules)) (omega (arith, c.requires))

pub returns-clause-named : goal.returns-clause-named
returns-clause-named g c = (23, omega arith, refl)

pub returns-clause-gives : goal.returns-clause-gives
returns-clause-gives g c =
    let last : c.in-Some.last + 1 ≡ c.args.at + c.args.len = omega (arith, c.in-Some.ensures.1, c.requires) in
    let bound : c.in-Some-2.n ≤ length c.read_front_at.new.buf = rw c.in-Some-2.is at c.in_ok-n.ensures.bound in
    last_there (g.R.Source.stream c.args.source.now) _ c.args.at c.in-Some.last c.in-Some-2.n c.args.len c.read_front_at.new.buf last (omega (arith, c.requires)) c.if-n-eq0.false bound (rw c.in-Some-2.is at c.in_ok-n.ensures.taken)
