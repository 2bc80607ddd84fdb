use Rattle.std.proofs.Common.{◌≡◌, drop}
use Rattle.exif_privacy.specs.Erasing.{parts_erased}
use Rattle.exif_privacy.specs.Promises.{OthersStay}
use Rattle.exif_privacy.proofs.erase.erase_parts.Given as goal

-- the parts that are left, over what became of the others, are all parts over the file
abbrev pub invariant-loop-index : goal.invariant-loop-index
invariant-loop-index l = record {
  same : parts_erased l.unread l.left (drop l.index l.parts) l.file ≡ parts_erased l.unread 0 l.parts l.fn.file;
  others : OthersStay l.parts l.fn.file l.file;
}
