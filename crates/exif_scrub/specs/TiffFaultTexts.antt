-- Why a TIFF file is not scrubbed, in words.
use Rattle.std.specs.Prelude.{ℕ, List, codes}
use Rattle.exif_scrub.specs.declared.tiff.fault.Fault.{Fault}
use Rattle.exif_scrub.specs.declared.tiff.fault.Fault.TheVariants as fault

-- why a TIFF file is not scrubbed
abbrev pub fault_text : Fault → List ℕ
fault_text fault.NoHeader = codes "no TIFF header"
fault_text fault.Broken = codes "data of the picture lead out of the file"
fault_text fault.TooManyDirectories = codes "too many directories"
fault_text fault.SharedBytes = codes "data of the picture share bytes with each other"
fault_text fault.Raw =
    codes "only the locations of a raw file can be taken out; export a picture and scrub that"
fault_text fault.NotSupported = codes "the picture is stored in a way that is not supported"
fault_text fault.OddTag =
    codes "a tag that describes the picture is there twice, or of another type or length"
