-- What is taken out once is not there to be taken out again.
use Rattle.std.proofs.Common.{◌≡◌, ℕ, List, refl}
use Rattle.exif_segments.specs.declared.remove.Remove.{Remove}
use Rattle.exif_segments.specs.declared.remove.Remove.TheVariants.{Exif, Metadata}
use Rattle.exif_segments.specs.Removing.{behind}

-- what stays behind an image stays as it is when the file is written again
pub behind_again : (remove : Remove) (rest : List ℕ) → behind remove (behind remove rest) ≡ behind remove rest
behind_again Exif rest = refl
behind_again Metadata rest = refl
