use Rattle.std.proofs.Common.{◌≡◌, false, length, drop}
use Rattle.exif_data_locations.specs.Thumbnails.{parts_erased}
use Rattle.exif_data_locations.proofs.thumbnail.erase_parts.Given as goal

-- the parts that are left, over what became of the others, are all parts over the stream
abbrev pub invariant-loop-part : goal.invariant-loop-part
invariant-loop-part l = record {
  made : parts_erased l.unread (drop l.part-index l.parts) l.left l.bytes ≡ parts_erased l.unread l.parts false l.fn.bytes;
  long : length l.bytes ≡ length l.fn.bytes;
}
