-- Why a HEIF file is not scrubbed, in words.
use Rattle.std.specs.Prelude.{ℕ, List, codes}
use Rattle.exif_scrub.specs.declared.heif.fault.Fault.{Fault}
use Rattle.exif_scrub.specs.declared.heif.fault.Fault.TheVariants.{Unstable}

-- why a HEIF file is not scrubbed
abbrev pub fault_text : Fault → List ℕ
fault_text Unstable = codes "the file would be read otherwise without its metadata"
