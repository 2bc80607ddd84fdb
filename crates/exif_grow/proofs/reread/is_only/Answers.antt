use Rattle.std.proofs.Common.{sym, ◌∙◌}
use Rattle.exif_grow.proofs.InsertSteps.{seen_first, seen_none, seen_other, seen_twice}
use Rattle.exif_grow.proofs.reread.is_only.Goals.{then-is_named+else-seen+else-not-is_same, else-is_named}
use Rattle.exif_grow.proofs.reread.is_only.Goals as goal

pub returns-then-seen : goal.returns-then-seen
returns-then-seen c =
    seen_twice c.args.tag c.args.ifd_num c.args.field.now c.other-item.result c.args.fields.now
    c.loop-other.other-index c.loop-other.seen _ c.loop-other-test.true c.other-item.is
    c.if-seen.true (sym c.is_named.ensures ∙ c.if-is_named.true) c.loop-other.invariant

pub returns-then-not-is_same : goal.returns-then-not-is_same
returns-then-not-is_same c =
    seen_other c.args.tag c.args.ifd_num c.args.field.now c.other-item.result c.args.fields.now
    c.loop-other.other-index c.loop-other.seen _ c.loop-other-test.true c.other-item.is
    (sym c.is_same.ensures ∙ c.if-not-is_same.true)
    (sym c.is_named.ensures ∙ c.if-is_named.true) c.loop-other.invariant

pub loop-other-preserved : goal.loop-other-preserved
loop-other-preserved c = elim c.if-is_named.branch [
  | then-is_named+else-seen+else-not-is_same w ↦
      rw w.seen-is
      (seen_first c.args.tag c.args.ifd_num c.args.field.now c.other-item.result c.args.fields.now
      c.loop-other.other-index c.loop-other.seen _ c.loop-other-test.true c.other-item.is
      w.if-seen.false (sym w.is_same.ensures ∙ w.if-not-is_same.false)
      (sym c.is_named.ensures ∙ w.if-is_named.true) c.loop-other.invariant)
  | else-is_named w ↦
      rw w.seen-is
      (seen_none c.args.tag c.args.ifd_num c.args.field.now c.other-item.result c.args.fields.now
      c.loop-other.other-index c.loop-other.seen _ c.loop-other-test.true c.other-item.is
      (sym c.is_named.ensures ∙ w.if-is_named.false) c.loop-other.invariant)
]
