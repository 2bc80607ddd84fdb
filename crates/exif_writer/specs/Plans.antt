-- The bytes that are sent of plans.
use Rattle.std.specs.Prelude.{ℕ, ◌≤◌, ◌%◌, List, ◌++◌, length, replicate}
use Rattle.std.specs.List.{AllByRecursion, flat_map}
use Rattle.exif_writer.specs.declared.plan.Offsets.{Offsets}
use Rattle.exif_writer.specs.declared.plan.Slot.{Slot}
use Rattle.exif_writer.specs.declared.plan.Plan.{Plan}
use Rattle.exif_writer.specs.Sending.{IsReady, IsMeasurable, values_end, slots_text, values_text, blocks_text}
use Rattle.exif_base.specs.declared.endian.Order.{Order}
use Rattle.exif_layout.specs.Image.{header_text}

-- a directory whose values can be settled from an offset on
pub record CanSettle (values : ℕ) (slots : List Slot) : Type 0 where
  pub measurable : AllByRecursion IsMeasurable slots
  pub room : values_end values slots ≤ 4294967295

-- a directory that can be sent, whose values are from an offset on
pub record IsReadyDirectory (offsets : Offsets) (values : ℕ) (slots : List Slot) : Type 0 where
  pub few : length slots ≤ 65535
  pub ready : AllByRecursion (IsReady offsets) slots
  pub room : values_end values slots ≤ 4294967295

-- a plan that can be sent: each of its directories can
pub record IsReadyPlan (plan : Plan) : Type 0 where
  pub tiff : IsReadyDirectory plan.offsets plan.offsets.tiff_values plan.tiff.items
  pub exif : IsReadyDirectory plan.offsets plan.offsets.exif_values plan.exif.items
  pub gps : IsReadyDirectory plan.offsets plan.offsets.gps_values plan.gps.items
  pub interop : IsReadyDirectory plan.offsets plan.offsets.interop_values plan.interop.items

-- the bytes of a plan's directories, behind a zero where the plan begins at an odd offset
abbrev pub directories_text : Order → Plan → List ℕ
directories_text order plan =
    replicate (plan.offsets.start % 2) 0
    ++ (slots_text order plan.offsets plan.offsets.next plan.tiff.items
    ++ (slots_text order plan.offsets 0 plan.exif.items
    ++ (slots_text order plan.offsets 0 plan.gps.items
    ++ slots_text order plan.offsets 0 plan.interop.items)))

-- the bytes of a plan's values that are not in their entries, in the order of the directories
abbrev pub plan_values_text : Order → Plan → List ℕ
plan_values_text order plan =
    values_text order plan.offsets plan.tiff.items
    ++ (values_text order plan.offsets plan.exif.items
    ++ (values_text order plan.offsets plan.gps.items
    ++ values_text order plan.offsets plan.interop.items))

-- the bytes of a plan's blocks: strips, tiles and the JPEG
abbrev pub plan_blocks_text : Plan → List ℕ
plan_blocks_text plan =
    blocks_text plan.strips.now ++ (blocks_text plan.tiles.now ++ blocks_text plan.jpeg.now)

-- the bytes of a plan: its directories, then their values, then its blocks
abbrev pub plan_text : Order → Plan → List ℕ
plan_text order plan =
    directories_text order plan ++ (plan_values_text order plan ++ plan_blocks_text plan)

-- the bytes of plans, one behind the other
abbrev pub plans_text : Order → List Plan → List ℕ
plans_text order plans = flat_map (plan_text order) plans

-- all that is sent: the TIFF header, and behind it the plans
abbrev pub sent_image : Order → List Plan → List ℕ
sent_image order plans = header_text order ++ plans_text order plans
