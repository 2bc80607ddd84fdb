-- Data that can't be read, and what becomes of them.
use Rattle.std.specs.Prelude.{ℕ, ◌-◌, List, ◌++◌, codes, length, replicate, nat_le, Option, None, Some, Result, Ok, Err, if◌then◌else◌}
use Rattle.exif_locations.specs.XmpErasing as xmp
use Rattle.exif_locations.specs.IptcDatasets as iptc
use Rattle.exif_locations.specs.declared.iptc.fault.Fault as iptc_fault
use Rattle.exif_locations.specs.declared.xmp.fault.Fault as xmp_fault
use Rattle.exif_locations.specs.declared.unread.Unread.{Unread}
use Rattle.exif_locations.specs.declared.unread.Unread.TheVariants.{Keep, Blank}

-- an XMP packet without properties (XMP Specification, Part 1, 7.3.3)
abbrev pub no_properties : List ℕ
no_properties = codes "<x:xmpmeta xmlns:x='adobe:ns:meta/'/>"

-- as many bytes: that packet and spaces, or only spaces, if it does not fit
abbrev pub blank_packet : List ℕ → List ℕ
blank_packet bytes =
    if nat_le (length no_properties) (length bytes)
    then no_properties ++ replicate (length bytes - length no_properties) 32
    else replicate (length bytes) 32

-- as many zeros
abbrev pub zeros : List ℕ → List ℕ
zeros bytes = replicate (length bytes) 0

-- data that can't be read, and the reason, or blank ones
abbrev pub unread_answer : {F : Type 0} → Unread → List ℕ → List ℕ → F → List ℕ × Option F
unread_answer Keep blank old fault = (old, Some fault)
unread_answer Blank blank old fault = (blank, None)

-- new bytes, or what becomes of the old ones if these can't be read
abbrev pub or_unread : {F : Type 0} → Unread → List ℕ → List ℕ → Result (List ℕ) F
    → List ℕ × Option F
or_unread unread blank old (Ok new) = (new, None)
or_unread unread blank old (Err fault) = unread_answer unread blank old fault

-- an XMP packet without its locations
abbrev pub xmp_answer : Unread → List ℕ → List ℕ × Option xmp_fault.Fault
xmp_answer unread bytes = or_unread unread (blank_packet bytes) bytes (xmp.erased bytes)

-- IPTC data without their locations
abbrev pub iptc_answer : Unread → List ℕ → List ℕ × Option iptc_fault.Fault
iptc_answer unread bytes = or_unread unread (zeros bytes) bytes (iptc.erased bytes)

-- bytes, and a reason of another kind
abbrev pub because : {F W : Type 0} → (F → W) → List ℕ × Option F → List ℕ × Option W
because why (new, None) = (new, None)
because why (new, Some fault) = (new, Some (why fault))
