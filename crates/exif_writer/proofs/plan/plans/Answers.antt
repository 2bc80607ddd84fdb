use Rattle.std.proofs.Common.{◌≡◌, ◌∙◌, ap, refl, sym}
use Rattle.exif_writer.proofs.PlanChain.{has_room, ends_more, next_is, plans_more, plans_done}
use Rattle.exif_layout.specs.Offsets.{draft_end}
use Rattle.exif_layout.specs.Slots.{draft_of}
use Rattle.exif_writer.proofs.plan.plans.Goals as goal

pub plan_of-requires : goal.plan_of-requires
plan_of-requires c =
    has_room c.args.ifds.now c.loop-index.index c.loop-index.start c.index-ifds-index.result c.index-ifds-index.result _ c.requires refl
    c.loop-index-test.true c.index-ifds-index.is c.loop-index.invariant.start

pub loop-index-preserved : goal.loop-index-preserved
loop-index-preserved c =
    let end : c.in_ok-plan.plan.offsets.end ≡ draft_end (draft_of c.index-ifds-index.result) c.loop-index.start = ap (λ offsets. offsets.end) c.in_ok-plan.ensures.is.offsets in
    let next = next_is (draft_end (draft_of c.index-ifds-index.result) c.loop-index.start) c.args.ifds.now c.loop-index.index _ refl c.loop-index-test.true in
    record {
      start = end ∙ ap (draft_end (draft_of c.index-ifds-index.result)) c.loop-index.invariant.start
          ∙ sym (ends_more 8 c.args.ifds.now c.loop-index.index c.index-ifds-index.result c.index-ifds-index.result c.loop-index-test.true c.index-ifds-index.is);
      plans = plans_more c.args.ifds.now c.loop-index.index c.index-ifds-index.result c.index-ifds-index.result c.loop-index.start c.loop-index.plans.items
          c.loop-index-test.true c.index-ifds-index.is c.loop-index.invariant.plans c.in_ok-plan.plan _ c.in_ok-plan.plan.offsets.end c.push.new.self.items
          c.in_ok-plan.ensures end next c.in_ok-push.ensures.items;
    }

pub returns : goal.returns
returns c = plans_done c.args.ifds.now c.loop-index.index c.loop-index.start c.loop-index.plans.items c.loop-index-test.false c.loop-index.invariant.plans
