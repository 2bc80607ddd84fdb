-- The text of a fault.
use Rattle.std.specs.Prelude.{ℕ, List, codes}
use Rattle.exif_xml.specs.declared.fault.Fault as xml
use Rattle.exif_xml.specs.declared.fault.Fault.TheVariants as xml_faults
use Rattle.exif_xmp.specs.declared.fault.Fault.{Fault}
use Rattle.exif_xmp.specs.declared.fault.Fault.TheVariants.{Xml, Encoding, TooDeep, TooMany, TooLong}

abbrev pub xml_text : xml.Fault → List ℕ
xml_text xml_faults.Doctype = codes "XMP with a document type"
xml_text xml_faults.Malformed = codes "XMP is not well formed"
xml_text xml_faults.Truncated = codes "XMP ends too early"
xml_text xml_faults.MismatchedTag = codes "XMP with an end tag of an element that is not open"
xml_text xml_faults.UndeclaredPrefix = codes "XMP with a prefix that is not declared"
xml_text xml_faults.InvalidReference = codes "XMP with a reference that is no character"

abbrev pub fault_text : Fault → List ℕ
fault_text (Xml fault) = xml_text fault
fault_text Encoding = codes "XMP in UTF-16 or UTF-32"
fault_text TooDeep = codes "XMP with elements nested too deeply"
fault_text TooMany = codes "XMP with too many properties, items or namespaces"
fault_text TooLong = codes "XMP with a path or a namespace that is too long"
