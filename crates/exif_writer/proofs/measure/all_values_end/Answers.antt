use Rattle.std.proofs.Common.{arith, refl, sym}
use Rattle.exif_writer.proofs.PlanOffsets.{all_values_within, exif_at, gps_at, interop_at, strips_at}
use Rattle.exif_layout.specs.Slots.{draft_of}
use Rattle.exif_writer.proofs.MeasureTails.{at_least}
use Rattle.exif_writer.proofs.measure.all_values_end.Goals as goal

pub returns-in_err-tiff : goal.returns-in_err-tiff
returns-in_err-tiff c =
    let far = at_least _ c.in_err-tiff.ensures in
    let within = (all_values_within (draft_of c.args.ifd.now) c.args.start).in_tiff.high in
    rw c.from_residual.ensures (λ less. omega arith)

pub values_end-requires-clause-offset : goal.values_end-requires-clause-offset
values_end-requires-clause-offset c =
    let tiff = c.in_ok-tiff.ensures.1 in
    let within = (all_values_within (draft_of c.args.ifd.now) c.args.start).in_tiff.low in
    omega arith

pub returns-in_err-exif : goal.returns-in_err-exif
returns-in_err-exif c =
    let exif = exif_at (draft_of c.args.ifd.now) c.args.start c.in_ok-tiff.ensures.1 refl in
    let far = at_least _ c.in_err-exif.ensures in
    let within = (all_values_within (draft_of c.args.ifd.now) c.args.start).in_exif.high in
    rw c.from_residual-in_err-exif.ensures (λ less. omega arith)

pub values_end-requires-2-clause-offset : goal.values_end-requires-2-clause-offset
values_end-requires-2-clause-offset c =
    let exif = exif_at (draft_of c.args.ifd.now) c.args.start c.in_ok-tiff.ensures.1 c.in_ok-exif.ensures.1 in
    let within = (all_values_within (draft_of c.args.ifd.now) c.args.start).in_exif.low in
    omega arith

pub returns-in_err-gps : goal.returns-in_err-gps
returns-in_err-gps c =
    let exif = exif_at (draft_of c.args.ifd.now) c.args.start c.in_ok-tiff.ensures.1 c.in_ok-exif.ensures.1 in
    let gps = gps_at (draft_of c.args.ifd.now) c.args.start exif refl in
    let far = at_least _ c.in_err-gps.ensures in
    let within = (all_values_within (draft_of c.args.ifd.now) c.args.start).in_gps.high in
    rw c.from_residual-in_err-gps.ensures (λ less. omega arith)

pub values_end-requires-3-clause-offset : goal.values_end-requires-3-clause-offset
values_end-requires-3-clause-offset c =
    let exif = exif_at (draft_of c.args.ifd.now) c.args.start c.in_ok-tiff.ensures.1 c.in_ok-exif.ensures.1 in
    let gps = gps_at (draft_of c.args.ifd.now) c.args.start exif c.in_ok-gps.ensures.1 in
    let within = (all_values_within (draft_of c.args.ifd.now) c.args.start).in_gps.low in
    omega arith

pub returns-in_err-interop : goal.returns-in_err-interop
returns-in_err-interop c =
    let exif = exif_at (draft_of c.args.ifd.now) c.args.start c.in_ok-tiff.ensures.1 c.in_ok-exif.ensures.1 in
    let gps = gps_at (draft_of c.args.ifd.now) c.args.start exif c.in_ok-gps.ensures.1 in
    let interop = interop_at (draft_of c.args.ifd.now) c.args.start gps refl in
    let far = at_least _ c.in_err-interop.ensures in
    let within = (all_values_within (draft_of c.args.ifd.now) c.args.start).in_interop.high in
    rw c.from_residual-in_err-interop.ensures (λ less. omega arith)

pub values_end-requires-4-clause-offset : goal.values_end-requires-4-clause-offset
values_end-requires-4-clause-offset c =
    let exif = exif_at (draft_of c.args.ifd.now) c.args.start c.in_ok-tiff.ensures.1 c.in_ok-exif.ensures.1 in
    let gps = gps_at (draft_of c.args.ifd.now) c.args.start exif c.in_ok-gps.ensures.1 in
    let interop = interop_at (draft_of c.args.ifd.now) c.args.start gps c.in_ok-interop.ensures.1 in
    let within = (all_values_within (draft_of c.args.ifd.now) c.args.start).in_interop.low in
    omega arith

pub returns : goal.returns
returns c =
    let exif = exif_at (draft_of c.args.ifd.now) c.args.start c.in_ok-tiff.ensures.1 c.in_ok-exif.ensures.1 in
    let gps = gps_at (draft_of c.args.ifd.now) c.args.start exif c.in_ok-gps.ensures.1 in
    let interop = interop_at (draft_of c.args.ifd.now) c.args.start gps c.in_ok-interop.ensures.1 in
    rw (sym (strips_at (draft_of c.args.ifd.now) c.args.start interop refl)) c.values_end-4.ensures
