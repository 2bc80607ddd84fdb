use Rattle.std.proofs.Common.{length}
use Rattle.exif_catalog_file.proofs.cells.+begins_word.Given as goal

-- the letters that are left
abbrev pub decreases-begins_word : goal.decreases-begins_word
decreases-begins_word l = length l.word.now
