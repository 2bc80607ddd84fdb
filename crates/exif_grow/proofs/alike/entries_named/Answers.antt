use Rattle.exif_grow.proofs.AlikeSteps.{named_step}
use Rattle.exif_grow.proofs.alike.entries_named.Goals as goal

pub loop-i-preserved : goal.loop-i-preserved
loop-i-preserved c =
    named_step c.args.tag c.args.ifd_num c.args.fields.now c.args.entries.now c.loop-i.i
    c.index-fields-i.result c.at.result c.loop-i.named.items c.add_named.new.named.items _
    c.loop-i-test.true c.index-fields-i.is c.at.ensures c.in_ok-add_named.ensures c.loop-i.invariant
