-- What all containers share where files are written again.
use Rattle.std.specs.Prelude.{ℕ, List, [], codes, Option, None, Some}
use Rattle.std.specs.Borrow.{Bor}
use Rattle.exif_types.specs.Refusals.{Refusal, too_big}
use Rattle.exif_segments.specs.declared.remove.Remove.{Remove}
use Rattle.exif_segments.specs.declared.remove.Remove.TheVariants.{Exif, Metadata}

-- new Exif data that do not fit into their segment or chunk
abbrev pub too_large : Refusal
too_large = too_big (codes "Exif data too large")

-- what stays of the bytes behind the end of the image
abbrev pub behind : Remove → List ℕ → List ℕ
behind Exif bytes = bytes
behind Metadata bytes = []

-- the bytes of an argument that may be absent
abbrev pub payload_of : Option (Bor (List ℕ)) → Option (List ℕ)
payload_of None = None
payload_of (Some payload) = Some payload.now
