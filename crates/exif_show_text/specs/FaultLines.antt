-- Why values of a picture were not read, in words.
use Rattle.std.specs.Prelude.{ℕ, List, [], ◌++◌, codes, Option, None, Some}
use Rattle.std.specs.Fmt.{decimal}
use Rattle.exif_iptc.specs.FaultTexts as iptc
use Rattle.exif_values.specs.declared.fault.Cause.{Cause}
use Rattle.exif_values.specs.declared.fault.Cause.TheVariants as cause
use Rattle.exif_values.specs.declared.fault.Fault.{Fault}
use Rattle.exif_xmp.specs.FaultTexts as xmp

abbrev pub cause_text : Cause → List ℕ
cause_text (cause.Xmp refusal) =
    xmp.fault_text refusal.fault
    ++ (codes ", at byte " ++ (decimal refusal.offset ++ codes " of the packet"))
cause_text (cause.Portions offset) =
    codes "the rest of an XMP packet is missing from its byte "
    ++ (decimal offset ++ codes " on")
cause_text cause.TooMany = codes "more than 65535 XMP properties, in the packet"
cause_text (cause.Text fault) = codes "a text of the PNG file with a packet is not read"
cause_text (cause.Iptc refusal) =
    iptc.fault_text refusal.fault
    ++ (codes ", at byte " ++ (decimal refusal.offset ++ codes " of the data"))

-- where the file has the packet
abbrev pub offset_text : Option ℕ → List ℕ
offset_text None = []
offset_text (Some offset) = codes " at offset " ++ decimal offset

abbrev pub fault_line : Fault → List ℕ
fault_line fault = cause_text fault.cause ++ offset_text fault.offset
