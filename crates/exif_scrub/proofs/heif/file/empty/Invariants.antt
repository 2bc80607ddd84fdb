use Rattle.std.proofs.Common.{◌≡◌, length, drop}
use Rattle.exif_scrub.specs.HeifScrubbing.{spans_emptied}
use Rattle.exif_scrub.proofs.heif.file.empty.Given as goal

-- the spans that are left, over what became of the others, are all spans over the file
abbrev pub invariant-loop-span : goal.invariant-loop-span
invariant-loop-span l = record {
  made : spans_emptied l.judged (drop l.span-index l.span-items) l.file ≡ spans_emptied l.judged l.span-items l.fn.file;
  long : length l.file ≡ length l.fn.file;
}
