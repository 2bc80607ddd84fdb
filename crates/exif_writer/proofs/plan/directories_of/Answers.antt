use Rattle.std.proofs.Common.{◌≡◌, ◌∙◌, ◌++◌, ap, map}
use Rattle.exif_writer.specs.Sending.{symbol}
use Rattle.exif_table.specs.declared.context.Context.TheVariants.{Exif, Gps, Interop}
use Rattle.exif_layout.specs.declared.block_kind.BlockKind.TheVariants.{Strips, Tiles, Jpeg}
use Rattle.exif_layout.specs.Slots.{in_tag_order, known, set_slots, pointer_slots, tiff_slots, exif_slots, gps_slots, interop_slots}
use Rattle.exif_writer.proofs.plan.directories_of.Goals as goal

pub returns : goal.returns
unfolding tiff_slots exif_slots gps_slots interop_slots
returns c =
    let gps : map symbol c.in_ok-gps.gps.items ≡ gps_slots c.args.ifd.now = c.in_ok-gps.ensures ∙ ap (λ e. in_tag_order (map known e)) c.fields.ensures in
    let interop : map symbol c.in_ok-interop.interop.items ≡ interop_slots c.args.ifd.now = c.in_ok-interop.ensures ∙ ap (λ e. in_tag_order (map known e)) c.fields-2.ensures in
    let inner : map symbol c.as_slice.result.now ≡ interop_slots c.args.ifd.now = ap (map symbol) c.as_slice.ensures.value ∙ interop in
    let exif : map symbol c.sort.new.slots.items ≡ exif_slots c.args.ifd.now =
    c.in_ok-sort.ensures ∙ ap in_tag_order (c.in_ok-push_pointer.ensures
    ∙ (λ i. (c.in_ok-exif.ensures ∙ ap (map known) c.fields-3.ensures) i ++ pointer_slots 0xa005 Interop (inner i))) in
    let exif_inner : map symbol c.as_slice-2.result.now ≡ exif_slots c.args.ifd.now = ap (map symbol) c.as_slice-2.ensures.value ∙ exif in
    let gps_inner : map symbol c.as_slice-3.result.now ≡ gps_slots c.args.ifd.now = ap (map symbol) c.as_slice-3.ensures.value ∙ gps in
    let pushed = c.in_ok-tiff.ensures ∙ ap (map known) c.fields-4.ensures in
    let strips = c.in_ok-push_blocks.ensures ∙ (λ i. pushed i ++ set_slots Strips (c.set.ensures i)) in
    let tiles = c.in_ok-push_blocks-2.ensures ∙ (λ i. strips i ++ set_slots Tiles (c.set-2.ensures i)) in
    let jpeg = c.in_ok-push_blocks-3.ensures ∙ (λ i. tiles i ++ set_slots Jpeg (c.set-3.ensures i)) in
    let with_exif = c.in_ok-push_pointer-2.ensures ∙ (λ i. jpeg i ++ pointer_slots 0x8769 Exif (exif_inner i)) in
    let with_gps = c.in_ok-push_pointer-3.ensures ∙ (λ i. with_exif i ++ pointer_slots 0x8825 Gps (gps_inner i)) in
    record {
      tiff = c.in_ok-sort-2.ensures ∙ ap in_tag_order with_gps;
      exif = exif;
      gps = gps;
      interop = interop;
    }
