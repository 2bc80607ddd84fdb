use Rattle.std.proofs.Common.{◌≡◌, ◌<◌, ◌^◌, map, take}
use Rattle.exif_layout.specs.Offsets.{drafts_end}
use Rattle.exif_layout.specs.Slots.{draft_of}
use Rattle.exif_writer.proofs.measure.image_end.Given as goal

abbrev pub invariant-loop-ifd : goal.invariant-loop-ifd
invariant-loop-ifd l = record {
  end : l.offset ≡ drafts_end 8 (map draft_of (take l.ifd-index l.ifds));
  fits : l.offset < 2 ^ 32;
}
