use Rattle.std.proofs.Common.{◌≡◌, ◌≤◌, ℕ, List, length, codes, ap, sym, subst, ◌∙◌, arith}
use Rattle.exif_types.specs.Refusals.{Gives}
use Rattle.exif_blocks.specs.WebpBlocks.{file_put, resized}
use Rattle.exif_parts.specs.WebpChunks.{chunk_bytes}
use Rattle.exif_blocks.specs.declared.blocks.Block.TheVariants.{Xmp}
use Rattle.exif_blocks.specs.declared.step.Place.TheVariants.{BehindExif}
use Rattle.exif_blocks.proofs.Fits.{packet_fits}
use Rattle.exif_blocks.proofs.webp.with_packet.Goals as goal

pub returns : goal.returns
returns c =
    let file = c.args.file.now in
    let packet = c.args.packet.now in
    let space = c.args.space in
    let made : c.in_ok-new.new.items ≡ file_put Xmp BehindExif space (chunk_bytes (codes "XMP ") packet) file =
    c.in_ok-new.ensures ∙ ap (λ (p : List ℕ). file_put Xmp BehindExif space p file) (c.as_slice.ensures.value ∙ c.in_ok-chunk.ensures) in
    let small : length packet ≤ 4294967295 = omega arith in
    subst (λ a. Gives (λ v. v.items) c.resized.result a)
    (ap (λ (new : List ℕ). resized file 4 (codes "XMP packet too large") new) made ∙ sym (packet_fits space packet file small))
    c.resized.ensures.made
