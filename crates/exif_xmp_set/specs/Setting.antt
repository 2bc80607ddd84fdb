-- A packet with another text for one of its properties.
use Rattle.std.specs.Prelude.{ℕ, ◌-◌, Bool, false, if◌then◌else◌, List, ◌++◌, length, take, drop, Option, Some, None, Result, Ok, Err}
use Rattle.exif_xml.specs.declared.span.Span.{Span}
use Rattle.exif_xml.specs.Characters.{invalid_character}
use Rattle.exif_xml.specs.Refusals.{◌>>=◌}
use Rattle.exif_xml.specs.Scans.{slice_of}
use Rattle.exif_xmp.specs.declared.fault.Refusal.{Refusal}
use Rattle.exif_xmp.specs.Properties.{PropertyView}
use Rattle.exif_xmp.specs.Reading.{read}
use Rattle.exif_xmp_set.specs.declared.fault.Reason.{Reason}
use Rattle.exif_xmp_set.specs.declared.fault.Reason.TheVariants.{InvalidText, NotReadBack}
use Rattle.exif_xmp_set.specs.declared.found.Found.{Found}
use Rattle.exif_xmp_set.specs.Contents.{is_replaced}
use Rattle.exif_xmp_set.specs.Contexts.{context_of, replaced_span, tag_name}
use Rattle.exif_xmp_set.specs.Escaping.{written}
use Rattle.exif_xmp_set.specs.Found.{settable}
use Rattle.exif_xmp_set.specs.Padding.{fitted}
use Rattle.exif_xmp_set.specs.Refusals.{of_reader}

-- the packet with other bytes in place of a span, and its padding fitted to them
abbrev pub spliced : List ℕ → Span → List ℕ → List ℕ
spliced packet span value =
    take span.start packet
    ++ (value ++ fitted (span.end - span.start) (length value) (drop span.end packet))

-- the bytes of a packet that the text of a property replaces
abbrev pub span_of : List ℕ → Found → Span
span_of packet found = replaced_span (context_of packet found) found

-- the text as it is written there
abbrev pub value_of : List ℕ → Found → List ℕ → List ℕ
value_of packet found text =
    written (context_of packet found) (tag_name (slice_of packet found.whole)) text

-- the packet with another text for a property
unfoldable pub with_text : List ℕ → Found → List ℕ → List ℕ
with_text packet found text =
    spliced packet (span_of packet found) (value_of packet found text)

-- a text is set if all its bytes are characters
abbrev pub if_valid : Option ℕ → List ℕ → Result (List ℕ) Reason
if_valid None new = Ok new
if_valid (Some offset) new = Err (InvalidText offset)

-- a new packet that is read, if the properties pass a test
abbrev pub if_read : (List PropertyView → Bool) → List ℕ → Result (List PropertyView) Refusal
    → Result (List ℕ) Reason
if_read test new (Ok properties) = if test properties then Ok new else Err NotReadBack
if_read test new (Err r) = Err NotReadBack

-- a new packet, if it is read as the old one with a text replaced, which has these properties
abbrev pub checked : List PropertyView → List ℕ → List ℕ → List ℕ → List ℕ
    → Result (List ℕ) Reason
checked old new namespace path text =
    if_read (is_replaced false namespace path text old) new (read new)

-- the packet with another text for the first property of a namespace and a path, or why not
unfoldable pub set_text : List ℕ → List ℕ → List ℕ → List ℕ → Result (List ℕ) Reason
set_text packet namespace path text =
    of_reader (read packet) >>= λ old.
    (settable old namespace path >>= λ found.
    (if_valid (invalid_character text) (with_text packet found text) >>= λ new.
    checked old new namespace path text))
