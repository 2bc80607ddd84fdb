use Rattle.std.proofs.Common.{◌≡◌, ◌∙◌, ◌+◌, ◌%◌, ap, arith, map, refl}
use Rattle.exif_table.specs.declared.context.Context.TheVariants.{Tiff, Exif, Gps, Interop}
use Rattle.exif_layout.proofs.Images.Whole.{accepted}
use Rattle.exif_writer.proofs.PlanOffsets.{AreValuesOffsets, AreBlocksOffsets, tiff_is, exif_offset_at, gps_offset_at, interop_offset_at, tiff_values_at, exif_at, gps_at, interop_at, strips_at, tiles_at, jpeg_at, end_at, directories_fit, offsets_within}
use Rattle.exif_writer.proofs.Ready.{can_settle, ends_at}
use Rattle.exif_writer.proofs.PlanSettling.{settling_at}
use Rattle.exif_writer.specs.Drafts.{next_of}
use Rattle.exif_layout.specs.Offsets.{strips_offset}
use Rattle.exif_writer.specs.Sending.{symbol}
use Rattle.exif_layout.specs.Slots.{draft_of}
use Rattle.exif_writer.proofs.plan.Directories.settle.Goals as goal
use Rattle.exif_writer.proofs.plan.Directories.settle.Goals.{After-settle-strips, After-after_blocks-end}

-- the offsets of the values, once they are settled
values_here : (c : After-settle-strips) → AreValuesOffsets (draft_of c.args.ifd.now) c.args.start
    (c.args.start + c.args.start % 2 + c.context_len.result + c.context_len-2.result + c.context_len-3.result + c.context_len-4.result)
    c.settle-exif_values.result c.settle-gps_values.result c.settle-interop_values.result c.settle-strips.result
values_here c =
    let tiff = tiff_values_at (draft_of c.args.ifd.now) c.args.start c.context_len.ensures.len c.context_len-2.ensures.len c.context_len-3.ensures.len c.context_len-4.ensures.len in
    let exif = exif_at (draft_of c.args.ifd.now) c.args.start tiff (ends_at _ c.deref_mut.ensures.value c.requires.directories.tiff c.settle-exif_values.ensures.end) in
    let gps = gps_at (draft_of c.args.ifd.now) c.args.start exif (ends_at _ c.deref_mut-2.ensures.value c.requires.directories.exif c.settle-gps_values.ensures.end) in
    let interop = interop_at (draft_of c.args.ifd.now) c.args.start gps (ends_at _ c.deref_mut-3.ensures.value c.requires.directories.gps c.settle-interop_values.ensures.end) in
    let strips = strips_at (draft_of c.args.ifd.now) c.args.start interop (ends_at _ c.deref_mut-4.ensures.value c.requires.directories.interop c.settle-strips.ensures.end) in
    record { tiff = tiff; exif = exif; gps = gps; interop = interop; strips = strips }

-- the ends of the blocks
blocks_here : (c : After-after_blocks-end) → c.settle-strips.result ≡ strips_offset (draft_of c.args.ifd.now) c.args.start → AreBlocksOffsets (draft_of c.args.ifd.now) c.args.start c.after_blocks-tiles.result c.after_blocks-jpeg.result c.after_blocks-end.result
blocks_here c strips =
    let tiles = tiles_at (draft_of c.args.ifd.now) c.args.start strips c.blocks-2.ensures c.after_blocks-tiles.ensures in
    let jpeg = jpeg_at (draft_of c.args.ifd.now) c.args.start tiles c.blocks-3.ensures c.after_blocks-jpeg.ensures in
    let end = end_at (draft_of c.args.ifd.now) c.args.start jpeg c.blocks-4.ensures c.after_blocks-end.ensures in
    record { tiles = tiles; jpeg = jpeg; end = end }

pub overflow_add-tiff : goal.overflow_add-tiff
overflow_add-tiff c =
    let fit = directories_fit (draft_of c.args.ifd.now) c.args.start c.requires.room.end in
    omega arith

pub overflow_add-exif : goal.overflow_add-exif
overflow_add-exif c =
    let fit = directories_fit (draft_of c.args.ifd.now) c.args.start c.requires.room.end in
    let e0 = c.context_len.ensures.len in
    omega arith

pub overflow_add-gps : goal.overflow_add-gps
overflow_add-gps c =
    let fit = directories_fit (draft_of c.args.ifd.now) c.args.start c.requires.room.end in
    let e0 = c.context_len.ensures.len in
    let e1 = c.context_len-2.ensures.len in
    omega arith

pub overflow_add-interop : goal.overflow_add-interop
overflow_add-interop c =
    let fit = directories_fit (draft_of c.args.ifd.now) c.args.start c.requires.room.end in
    let e0 = c.context_len.ensures.len in
    let e1 = c.context_len-2.ensures.len in
    let e2 = c.context_len-3.ensures.len in
    omega arith

pub overflow_add-tiff_values : goal.overflow_add-tiff_values
overflow_add-tiff_values c =
    let fit = directories_fit (draft_of c.args.ifd.now) c.args.start c.requires.room.end in
    let e0 = c.context_len.ensures.len in
    let e1 = c.context_len-2.ensures.len in
    let e2 = c.context_len-3.ensures.len in
    let e3 = c.context_len-4.ensures.len in
    omega arith

pub settle-exif_values-requires : goal.settle-exif_values-requires
settle-exif_values-requires c =
    let tiff = tiff_values_at (draft_of c.args.ifd.now) c.args.start c.context_len.ensures.len c.context_len-2.ensures.len c.context_len-3.ensures.len c.context_len-4.ensures.len in
    let room = c.requires.room.end in
    can_settle c.args.ifd.now c.args.start (accepted c.args.ifd.now c.requires.room.fault) (omega arith) Tiff _ _ (ap (map symbol) c.deref_mut.ensures.value ∙ c.requires.directories.tiff) tiff

pub settle-gps_values-requires : goal.settle-gps_values-requires
settle-gps_values-requires c =
    let tiff = tiff_values_at (draft_of c.args.ifd.now) c.args.start c.context_len.ensures.len c.context_len-2.ensures.len c.context_len-3.ensures.len c.context_len-4.ensures.len in
    let exif = exif_at (draft_of c.args.ifd.now) c.args.start tiff (ends_at _ c.deref_mut.ensures.value c.requires.directories.tiff c.settle-exif_values.ensures.end) in
    let room = c.requires.room.end in
    can_settle c.args.ifd.now c.args.start (accepted c.args.ifd.now c.requires.room.fault) (omega arith) Exif _ _ (ap (map symbol) c.deref_mut-2.ensures.value ∙ c.requires.directories.exif) exif

pub settle-interop_values-requires : goal.settle-interop_values-requires
settle-interop_values-requires c =
    let tiff = tiff_values_at (draft_of c.args.ifd.now) c.args.start c.context_len.ensures.len c.context_len-2.ensures.len c.context_len-3.ensures.len c.context_len-4.ensures.len in
    let exif = exif_at (draft_of c.args.ifd.now) c.args.start tiff (ends_at _ c.deref_mut.ensures.value c.requires.directories.tiff c.settle-exif_values.ensures.end) in
    let gps = gps_at (draft_of c.args.ifd.now) c.args.start exif (ends_at _ c.deref_mut-2.ensures.value c.requires.directories.exif c.settle-gps_values.ensures.end) in
    let room = c.requires.room.end in
    can_settle c.args.ifd.now c.args.start (accepted c.args.ifd.now c.requires.room.fault) (omega arith) Gps _ _ (ap (map symbol) c.deref_mut-3.ensures.value ∙ c.requires.directories.gps) gps

pub settle-strips-requires : goal.settle-strips-requires
settle-strips-requires c =
    let tiff = tiff_values_at (draft_of c.args.ifd.now) c.args.start c.context_len.ensures.len c.context_len-2.ensures.len c.context_len-3.ensures.len c.context_len-4.ensures.len in
    let exif = exif_at (draft_of c.args.ifd.now) c.args.start tiff (ends_at _ c.deref_mut.ensures.value c.requires.directories.tiff c.settle-exif_values.ensures.end) in
    let gps = gps_at (draft_of c.args.ifd.now) c.args.start exif (ends_at _ c.deref_mut-2.ensures.value c.requires.directories.exif c.settle-gps_values.ensures.end) in
    let interop = interop_at (draft_of c.args.ifd.now) c.args.start gps (ends_at _ c.deref_mut-3.ensures.value c.requires.directories.gps c.settle-interop_values.ensures.end) in
    let room = c.requires.room.end in
    can_settle c.args.ifd.now c.args.start (accepted c.args.ifd.now c.requires.room.fault) (omega arith) Interop _ _ (ap (map symbol) c.deref_mut-4.ensures.value ∙ c.requires.directories.interop) interop

pub after_blocks-tiles-requires : goal.after_blocks-tiles-requires
after_blocks-tiles-requires c =
    let strips = (values_here (goal.at.after_blocks-tiles-requires c).After-settle-strips).strips in
    let tiles = tiles_at (draft_of c.args.ifd.now) c.args.start strips c.blocks-2.ensures refl in
    let within = (offsets_within (draft_of c.args.ifd.now) c.args.start).in_tiles.high in
    let room = c.requires.room.end in
    omega arith

pub after_blocks-jpeg-requires : goal.after_blocks-jpeg-requires
after_blocks-jpeg-requires c =
    let strips = (values_here (goal.at.after_blocks-jpeg-requires c).After-settle-strips).strips in
    let tiles = tiles_at (draft_of c.args.ifd.now) c.args.start strips c.blocks-2.ensures c.after_blocks-tiles.ensures in
    let jpeg = jpeg_at (draft_of c.args.ifd.now) c.args.start tiles c.blocks-3.ensures refl in
    let within = (offsets_within (draft_of c.args.ifd.now) c.args.start).in_jpeg.high in
    let room = c.requires.room.end in
    omega arith

pub after_blocks-end-requires : goal.after_blocks-end-requires
after_blocks-end-requires c =
    let strips = (values_here (goal.at.after_blocks-end-requires c).After-settle-strips).strips in
    let tiles = tiles_at (draft_of c.args.ifd.now) c.args.start strips c.blocks-2.ensures c.after_blocks-tiles.ensures in
    let jpeg = jpeg_at (draft_of c.args.ifd.now) c.args.start tiles c.blocks-3.ensures c.after_blocks-jpeg.ensures in
    let end = end_at (draft_of c.args.ifd.now) c.args.start jpeg c.blocks-4.ensures refl in
    let room = c.requires.room.end in
    omega arith

pub next_of-next-requires : goal.next_of-next-requires
next_of-next-requires c =
    let strips = (values_here (goal.at.next_of-next-requires c).After-settle-strips).strips in
    let end = (blocks_here (goal.at.next_of-next-requires c).After-after_blocks-end strips).end in
    let room = c.requires.room.next in
    let next = ap (λ e. next_of e c.args.last) end in
    omega arith

pub returns-clause-offsets : goal.returns-clause-offsets
returns-clause-offsets c =
    let values = values_here (goal.at.returns-clause-offsets c).After-settle-strips in
    let blocks = blocks_here (goal.at.returns-clause-offsets c).After-after_blocks-end values.strips in
    λ i. record {
      start = c.args.start;
      tiff = tiff_is (draft_of c.args.ifd.now) c.args.start i;
      exif = exif_offset_at (draft_of c.args.ifd.now) c.args.start c.context_len.ensures.len i;
      gps = gps_offset_at (draft_of c.args.ifd.now) c.args.start c.context_len.ensures.len c.context_len-2.ensures.len i;
      interop = interop_offset_at (draft_of c.args.ifd.now) c.args.start c.context_len.ensures.len c.context_len-2.ensures.len c.context_len-3.ensures.len i;
      tiff_values = values.tiff i;
      exif_values = values.exif i;
      gps_values = values.gps i;
      interop_values = values.interop i;
      strips = values.strips i;
      tiles = blocks.tiles i;
      jpeg = blocks.jpeg i;
      end = blocks.end i;
      next = (c.next_of-next.ensures ∙ ap (λ e. next_of e c.args.last) blocks.end) i;
    }

pub returns-clause-settled : goal.returns-clause-settled
returns-clause-settled c =
    let values = values_here (goal.at.returns-clause-settled c).After-settle-strips in
    let tiff = settling_at values.tiff c.args.self.now.tiff c.settle-exif_values.new.slots c.requires.directories.tiff c.deref_mut.ensures.value c.settle-exif_values.ensures.settled in
    let exif = settling_at values.exif c.args.self.now.exif c.settle-gps_values.new.slots c.requires.directories.exif c.deref_mut-2.ensures.value c.settle-gps_values.ensures.settled in
    let gps = settling_at values.gps c.args.self.now.gps c.settle-interop_values.new.slots c.requires.directories.gps c.deref_mut-3.ensures.value c.settle-interop_values.ensures.settled in
    let interop = settling_at values.interop c.args.self.now.interop c.settle-strips.new.slots c.requires.directories.interop c.deref_mut-4.ensures.value c.settle-strips.ensures.settled in
    record {
      are = record { tiff = tiff.same; exif = exif.same; gps = gps.same; interop = interop.same };
      tiff = tiff.are;
      exif = exif.are;
      gps = gps.are;
      interop = interop.are;
    }
