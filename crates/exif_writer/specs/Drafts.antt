-- The plans of drafts: where everything of a draft is, its entries and its blocks.
use Rattle.std.specs.Prelude.{ℕ, ◌≡◌, ◌<◌, ◌^◌, Bool, None, if◌then◌else◌, List, [], ◌∷◌, map}
use Rattle.exif_table.specs.declared.context.Context.TheVariants.{Tiff, Exif, Gps, Interop}
use Rattle.exif_layout.specs.declared.block_kind.BlockKind.TheVariants.{Strips, Tiles, Jpeg}
use Rattle.exif_layout.specs.Slots.{Draft, draft_of}
use Rattle.exif_layout.specs.Groups.{Group}
use Rattle.exif_layout.specs.Refused.{group_fault}
use Rattle.exif_layout.specs.Offsets.{even, tiff_offset, exif_offset, gps_offset, interop_offset, tiff_values, exif_values, gps_values, interop_values, strips_offset, tiles_offset, jpeg_offset, draft_end, next_offset}
use Rattle.exif_writer.specs.declared.plan.Offsets.{Offsets}
use Rattle.exif_writer.specs.declared.plan.Directories.{Directories}
use Rattle.exif_writer.specs.declared.plan.Plan.{Plan}
use Rattle.exif_writer.specs.Sending.{symbol, AreSettled}
use Rattle.exif_layout.specs.Views.{blocks_of}

-- the offsets of a draft, as a plan has them
abbrev pub offsets_of : Draft → ℕ → ℕ → Offsets
offsets_of draft start next = record {
  start = start;
  tiff = tiff_offset draft start;
  exif = exif_offset draft start;
  gps = gps_offset draft start;
  interop = interop_offset draft start;
  tiff_values = tiff_values draft start;
  exif_values = exif_values draft start;
  gps_values = gps_values draft start;
  interop_values = interop_values draft start;
  strips = strips_offset draft start;
  tiles = tiles_offset draft start;
  jpeg = jpeg_offset draft start;
  end = draft_end draft start;
  next = next;
}

-- the offset of the next directory of the chain; behind the last one there is none
abbrev pub next_of : ℕ → Bool → ℕ
next_of end last = if last then 0 else even end

-- a group without a cause not to be written, whose offsets 32 bits hold
pub record HasRoom (group : Group) (start : ℕ) (last : Bool) : Type 0 where
  pub fault : group_fault group ≡ None
  pub end : draft_end (draft_of group) start < 2 ^ 32
  pub next : next_of (draft_end (draft_of group) start) last < 2 ^ 32

-- the entries of a draft's directories
pub record AreDirectories (draft : Draft) (directories : Directories) : Type 0 where
  pub tiff : map symbol directories.tiff.items ≡ draft.slots Tiff
  pub exif : map symbol directories.exif.items ≡ draft.slots Exif
  pub gps : map symbol directories.gps.items ≡ draft.slots Gps
  pub interop : map symbol directories.interop.items ≡ draft.slots Interop

-- such entries whose sizes and offsets are settled
pub record AreSettledDirectories (draft : Draft) (start : ℕ) (directories : Directories)
    : Type 0 where
  pub are : AreDirectories draft directories
  pub tiff : AreSettled (tiff_values draft start) directories.tiff.items
  pub exif : AreSettled (exif_values draft start) directories.exif.items
  pub gps : AreSettled (gps_values draft start) directories.gps.items
  pub interop : AreSettled (interop_values draft start) directories.interop.items

-- the plan of a draft that begins at an offset
pub record IsPlan (draft : Draft) (start next : ℕ) (plan : Plan) : Type 0 where
  pub offsets : plan.offsets ≡ offsets_of draft start next
  pub tiff : map symbol plan.tiff.items ≡ draft.slots Tiff
  pub exif : map symbol plan.exif.items ≡ draft.slots Exif
  pub gps : map symbol plan.gps.items ≡ draft.slots Gps
  pub interop : map symbol plan.interop.items ≡ draft.slots Interop
  pub strips : blocks_of plan.strips.now ≡ draft.blocks Strips
  pub tiles : blocks_of plan.tiles.now ≡ draft.blocks Tiles
  pub jpeg : blocks_of plan.jpeg.now ≡ draft.blocks Jpeg

-- such a plan whose sizes and offsets are settled
pub record IsSettledPlan (draft : Draft) (start next : ℕ) (plan : Plan) : Type 0 where
  pub is : IsPlan draft start next plan
  pub tiff : AreSettled plan.offsets.tiff_values plan.tiff.items
  pub exif : AreSettled plan.offsets.exif_values plan.exif.items
  pub gps : AreSettled plan.offsets.gps_values plan.gps.items
  pub interop : AreSettled plan.offsets.interop_values plan.interop.items

-- the plans of drafts that are one behind the other
abbrev pub ArePlans : ℕ → List Draft → List Plan → Type 0
ArePlans start [] [] = Unit {0}
ArePlans start [] (plan ∷ plans) = ⊥
ArePlans start (draft ∷ drafts) [] = ⊥
ArePlans start (draft ∷ drafts) (plan ∷ plans) =
    IsSettledPlan draft start (next_offset (draft_end draft start) drafts) plan
    × ArePlans (draft_end draft start) drafts plans
