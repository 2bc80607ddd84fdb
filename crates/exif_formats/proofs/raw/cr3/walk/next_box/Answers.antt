use Rattle.std.proofs.Common.{refl}
use Rattle.exif_formats.proofs.Cr3Walk.{other_comes, same_comes}
use Rattle.exif_formats.proofs.raw.cr3.walk.next_box.Goals as goal

pub returns-then-eq-clause-comes : goal.returns-then-eq-clause-comes
returns-then-eq-clause-comes g c =
    let headed = rw c.in-Some.is at c.in_ok-header.ensures.headed in
    same_comes c.args.name.now c.args.usertype.now c.in_ok-coming.coming (g.R.Source.left c.args.source.now) (g.R.Source.left c.next_header.new.source)
    (g.R.Source.left c.take_type.new.source) c.in-Some.header headed c.if-eq.ensures c.in_ok-coming.ensures.taken

pub returns-clause-comes : goal.returns-clause-comes
returns-clause-comes g c =
    let headed = rw c.in-Some.is at c.in_ok-header.ensures.headed in
    other_comes c.args.name.now c.args.usertype.now (g.R.Source.left c.args.source.now) (g.R.Source.left c.next_header.new.source) c.in-Some.header _ headed c.if-eq.ensures refl
