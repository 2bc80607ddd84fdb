use Rattle.std.proofs.Common.{rules}
use Rattle.exif_formats.proofs.Cr3Walk.{type_passed, type_taken}
use Rattle.exif_formats.proofs.raw.cr3.walk.take_type.Goals as goal

pub returns-then-eq-clause-taken : goal.returns-then-eq-clause-taken
returns-then-eq-clause-taken g c =
    type_taken (g.R.Source.left c.args.source.now) (g.R.Source.left c.read_front.new.source) c.args.usertype.now c.read_front.new.buf _ c.in_ok-n.n c.type_len-most.result c.args.len
    c.left_of-held.result c.in_ok-n.ensures.taken c.in_ok-n.ensures.bound (search rules) c.if-eq.ensures c.type_len-most.ensures.within c.left_of-held.ensures

pub returns-clause-taken : goal.returns-clause-taken
returns-clause-taken g c =
    type_passed (g.R.Source.left c.args.source.now) (g.R.Source.left c.read_front.new.source) c.args.usertype.now c.read_front.new.buf _ c.in_ok-n.n c.type_len-most.result c.args.len
    c.left_of-held.result c.in_ok-n.ensures.taken c.in_ok-n.ensures.bound (search rules) c.if-eq.ensures c.type_len-most.ensures.value c.type_len-most.ensures.within
    c.in_ok-n.ensures.end c.left_of-held.ensures
