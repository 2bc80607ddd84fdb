use Rattle.std.proofs.Common.{◌≡◌, length, drop}
use Rattle.exif_movie_scrub.specs.Scrubbing.{parts_zeroed}
use Rattle.exif_movie_scrub.proofs.file.zero_parts.Given as goal

-- the parts that are left, over what the others became, are all parts over the file
abbrev pub invariant-loop-part : goal.invariant-loop-part
invariant-loop-part l = record {
  zeroed : parts_zeroed l.request (drop l.part-index l.parts) l.file ≡ parts_zeroed l.request l.parts l.fn.file;
  long : length l.file ≡ length l.fn.file;
}
