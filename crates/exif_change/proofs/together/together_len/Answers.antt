use Rattle.std.proofs.Common.{arith}
use Rattle.exif_change.specs.Changed.{undone_of}
use Rattle.exif_change.proofs.TogetherParts.{last_one}
use Rattle.exif_change.proofs.together.together_len.Goals as goal

pub returns-clause-value : goal.returns-clause-value
returns-clause-value c =
    let l = c.loop-n in
    let last = last_one undone_of c.args.left.now l.n l.invariant.some (omega (arith, l.invariant.within, c.loop-n-test.false)) in
    omega (arith, l.invariant.all, last, l.invariant.some)
