use Rattle.std.proofs.Common.{◌≡◌, length, drop}
use Rattle.exif_privacy.specs.Portions.{portions_len, put_back}
use Rattle.exif_privacy.proofs.portions.put_back.Given as goal

-- what is left put into the portions that are left is all in all of them
abbrev pub invariant-loop-part : goal.invariant-loop-part
invariant-loop-part l = record {
  same : put_back (drop l.part-index l.parts) l.rest l.file ≡ put_back l.parts l.packet l.fn.file;
  long : length l.rest ≡ portions_len (drop l.part-index l.parts);
  kept : length l.file ≡ length l.fn.file;
}
