use Rattle.std.proofs.Common.{◌≡◌, ◌++◌, List, drop, map, take}
use Rattle.exif_writer.specs.Drafts.{ArePlans}
use Rattle.exif_writer.specs.declared.plan.Plan.{Plan}
use Rattle.exif_layout.specs.Offsets.{drafts_end}
use Rattle.exif_layout.specs.Slots.{draft_of}
use Rattle.exif_writer.proofs.plan.plans.Given as goal

abbrev pub invariant-loop-index : goal.invariant-loop-index
invariant-loop-index l = record {
  start : l.start ≡ drafts_end 8 (map draft_of (take l.index l.ifds));
  plans : (more : List Plan) → ArePlans l.start (map draft_of (drop l.index l.ifds)) more → ArePlans 8 (map draft_of l.ifds) (l.plans.items ++ more);
}
