use Rattle.std.proofs.Common.{arith, refl, sym}
use Rattle.exif_writer.proofs.PlanOffsets.{offsets_within, tiles_at, jpeg_at, end_at}
use Rattle.exif_layout.specs.Slots.{draft_of}
use Rattle.exif_writer.proofs.MeasureTails.{at_least}
use Rattle.exif_writer.proofs.measure.end.Goals as goal

pub returns-in_err-strips : goal.returns-in_err-strips
returns-in_err-strips c =
    let far = at_least _ c.in_err-strips.ensures in
    let within = (offsets_within (draft_of c.args.ifd.now) c.args.start).in_strips.high in
    rw c.from_residual.ensures (λ less. omega arith)

pub returns-in_err-tiles : goal.returns-in_err-tiles
returns-in_err-tiles c =
    let tiles = tiles_at (draft_of c.args.ifd.now) c.args.start c.in_ok-strips.ensures.1 c.blocks-2.ensures refl in
    let far = at_least _ c.in_err-tiles.ensures in
    let within = (offsets_within (draft_of c.args.ifd.now) c.args.start).in_tiles.high in
    rw c.from_residual-in_err-tiles.ensures (λ less. omega arith)

pub returns-in_err-jpeg : goal.returns-in_err-jpeg
returns-in_err-jpeg c =
    let tiles = tiles_at (draft_of c.args.ifd.now) c.args.start c.in_ok-strips.ensures.1 c.blocks-2.ensures c.in_ok-tiles.ensures.1 in
    let jpeg = jpeg_at (draft_of c.args.ifd.now) c.args.start tiles c.blocks-3.ensures refl in
    let far = at_least _ c.in_err-jpeg.ensures in
    let within = (offsets_within (draft_of c.args.ifd.now) c.args.start).in_jpeg.high in
    rw c.from_residual-in_err-jpeg.ensures (λ less. omega arith)

pub returns : goal.returns
returns c =
    let tiles = tiles_at (draft_of c.args.ifd.now) c.args.start c.in_ok-strips.ensures.1 c.blocks-2.ensures c.in_ok-tiles.ensures.1 in
    let jpeg = jpeg_at (draft_of c.args.ifd.now) c.args.start tiles c.blocks-3.ensures c.in_ok-jpeg.ensures.1 in
    rw (sym (end_at (draft_of c.args.ifd.now) c.args.start jpeg c.blocks-4.ensures refl)) c.blocks_end-3.ensures
