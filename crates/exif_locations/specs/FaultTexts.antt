-- Why packets and data are refused, in words.
use Rattle.std.specs.Prelude.{ℕ, List, codes}
use Rattle.exif_locations.specs.declared.iptc.fault.Fault as iptc
use Rattle.exif_locations.specs.declared.iptc.fault.Fault.TheVariants as iptc_fault
use Rattle.exif_locations.specs.declared.xmp.fault.Fault as xmp
use Rattle.exif_locations.specs.declared.xmp.fault.Fault.TheVariants as xmp_fault

-- why a packet is refused
abbrev pub xmp_text : xmp.Fault → List ℕ
xmp_text xmp_fault.Malformed = codes "XMP is not well formed"
xmp_text xmp_fault.Doctype = codes "XMP with a document type"
xmp_text xmp_fault.Cut = codes "XMP ends too early"
xmp_text xmp_fault.Unbalanced = codes "XMP ends a property that it does not begin"

-- why data are refused
abbrev pub iptc_text : iptc.Fault → List ℕ
iptc_text iptc_fault.NoDataset = codes "IPTC data with bytes that are no dataset"
iptc_text iptc_fault.Extended = codes "IPTC data with a value of extended length"
iptc_text iptc_fault.Cut = codes "IPTC data end too early"
