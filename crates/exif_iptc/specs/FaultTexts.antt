-- Why IPTC data are refused, in words.
use Rattle.std.specs.Prelude.{ℕ, List, codes}
use Rattle.exif_iptc.specs.declared.fault.Fault.{Fault}
use Rattle.exif_iptc.specs.declared.fault.Fault.TheVariants.{NoDataset, Cut, TooLong}

abbrev pub fault_text : Fault → List ℕ
fault_text NoDataset = codes "IPTC data with bytes that are no dataset"
fault_text Cut = codes "IPTC data end too early"
fault_text TooLong = codes "IPTC data with a length of too many bytes"
