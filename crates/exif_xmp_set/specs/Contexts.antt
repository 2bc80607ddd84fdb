-- What is around a value in a packet (Extensible Markup Language 1.0, 3.1).
use Rattle.std.specs.Prelude.{ℕ, ◌-◌, ◌==◌, ◌||◌, if◌then◌else◌, List, take, drop, slice_index}
use Rattle.exif_xml.specs.declared.span.Span.{Span}
use Rattle.exif_xml.specs.Scans.{is_name_byte, run}
use Rattle.exif_xmp_set.specs.declared.context.Context.{Context}
use Rattle.exif_xmp_set.specs.declared.context.Context.TheVariants.{Content, EmptyTag, Quotes}
use Rattle.exif_xmp_set.specs.declared.found.Found.{Found}

-- the value of an attribute is behind a quote, and content behind the `>` of a start tag; the empty
-- content of an empty-element tag is where the element ends
abbrev pub context_behind : ℕ → Found → Context
context_behind before found =
    if (before == 34) || (before == 39) then Quotes before else
    (if found.value.start == found.whole.end then EmptyTag else Content)

abbrev pub context_of : List ℕ → Found → Context
context_of packet found = context_behind (slice_index packet (found.value.start - 1)) found

-- the name of the element that begins with this tag
abbrev pub tag_name : List ℕ → List ℕ
tag_name tag = take (run is_name_byte (drop 1 tag)) (drop 1 tag)

-- the bytes that another value replaces: those of the value, or the `/>` of an empty-element tag
abbrev pub replaced_span : Context → Found → Span
replaced_span EmptyTag found = record { start = found.whole.end - 2; end = found.whole.end }
replaced_span Content found = found.value
replaced_span (Quotes q) found = found.value
