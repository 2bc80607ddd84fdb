-- The text of a reason.
use Rattle.std.specs.Prelude.{ℕ, List, codes}
use Rattle.exif_xmp.specs.FaultTexts.{fault_text}
use Rattle.exif_xmp_set.specs.declared.fault.Reason.{Reason}
use Rattle.exif_xmp_set.specs.declared.fault.Reason.TheVariants.{Packet, NoProperty, Unread, Present, NoPlace, InvalidText, NotReadBack}

abbrev pub reason_text : Reason → List ℕ
reason_text (Packet refusal) = fault_text refusal.fault
reason_text NoProperty = codes "no such property"
reason_text Unread = codes "the property is not a text"
reason_text Present = codes "the property is there already"
reason_text NoPlace = codes "the packet has no place for a property"
reason_text (InvalidText offset) = codes "the text is not valid in XML"
reason_text NotReadBack = codes "the text cannot be set in this packet"
