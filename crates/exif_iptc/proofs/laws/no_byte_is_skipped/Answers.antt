use Rattle.exif_iptc.proofs.ScanParts.{covers}
use Rattle.exif_iptc.proofs.laws.no_byte_is_skipped.Goals as goal

pub returns : goal.returns
returns c input = covers input
