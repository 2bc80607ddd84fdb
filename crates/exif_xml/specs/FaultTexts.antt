-- The text of a fault.
use Rattle.std.specs.Prelude.{ℕ, List, codes}
use Rattle.exif_xml.specs.declared.fault.Fault.{Fault}
use Rattle.exif_xml.specs.declared.fault.Fault.TheVariants.{Doctype, Malformed, Truncated, MismatchedTag, UndeclaredPrefix, InvalidReference}

abbrev pub fault_text : Fault → List ℕ
fault_text Doctype = codes "XML with a document type"
fault_text Malformed = codes "XML is not well formed"
fault_text Truncated = codes "XML ends too early"
fault_text MismatchedTag = codes "XML with an end tag of an element that is not open"
fault_text UndeclaredPrefix = codes "XML with a prefix that is not declared"
fault_text InvalidReference = codes "XML with a reference that is no character"
