-- Properties, as contracts see them.
use Rattle.std.specs.Prelude.{ℕ, ◌||◌, nat_lt, if◌then◌else◌, List, [], length, Option, Some, None, Result, Ok, Err}
use Rattle.std.specs.Global.{Vec}
use Rattle.exif_xml.specs.declared.span.Span.{Span}
use Rattle.exif_xml.specs.Refusals.{◌>>=◌}
use Rattle.exif_xml.specs.Scans.{slice_of}
use Rattle.exif_xml.specs.Texts.{text_of}
use Rattle.exif_xmp.specs.declared.fault.Fault.TheVariants.{TooLong}
use Rattle.exif_xmp.specs.declared.fault.Refusal.{Refusal}
use Rattle.exif_xmp.specs.declared.frame.Frame.{Frame}
use Rattle.exif_xmp.specs.declared.path.Step.{Step}
use Rattle.exif_xmp.specs.declared.property.Form.{Form}
use Rattle.exif_xmp.specs.declared.property.Form.TheVariants.{Text, Unread}
use Rattle.exif_xmp.specs.declared.property.Property.{Property}
use Rattle.exif_xmp.specs.declared.property.Spans.{Spans}
use Rattle.exif_xmp.specs.Paths.{path_of, root_of}
use Rattle.exif_xmp.specs.Refusals.{refused_by_xml}

-- a property: the URI of its namespace, its path, its text and the language of that, where the
-- packet has it, and whether its value is text
pub record PropertyView : Type 0 where
  pub namespace : List ℕ
  pub path : List ℕ
  pub text : List ℕ
  pub language : Option (List ℕ)
  pub value : Span
  pub whole : Span
  pub form : Form

abbrev pub bytes_view : Option (Vec ℕ) → Option (List ℕ)
bytes_view None = None
bytes_view (Some v) = Some v.items

abbrev pub property_view : Property → PropertyView
property_view p = record {
  namespace = p.namespace.items;
  path = p.path.items;
  text = p.text.items;
  language = bytes_view p.language;
  value = p.value;
  whole = p.whole;
  form = p.form;
}

-- the bytes of a span, if there is one
abbrev pub language_of : List ℕ → Option Span → Option (List ℕ)
language_of packet None = None
language_of packet (Some span) = Some (slice_of packet span)

abbrev pub text_as : Form → List ℕ → Span → Result (List ℕ) Refusal
text_as Text packet value = refused_by_xml (text_of value.start (slice_of packet value))
text_as Unread packet value = Ok []

-- the text of a value
abbrev pub value_text : List ℕ → Spans → Result (List ℕ) Refusal
value_text packet spans = text_as spans.form packet spans.value

-- the property of open elements; its path and the URI of its namespace have limits
unfoldable pub property_of : List ℕ → List Frame → Step → Step → Spans → Result PropertyView Refusal
property_of packet frames top last spans =
    let path = path_of packet frames top last in
    let uri = slice_of packet (root_of frames top last) in
    if nat_lt 1024 (length path) || nat_lt 512 (length uri)
    then Err (record { fault = TooLong; offset = spans.whole.start }) else
    (value_text packet spans >>= λ text.
    Ok (record {
      namespace = uri;
      path = path;
      text = text;
      language = language_of packet spans.language;
      value = spans.value;
      whole = spans.whole;
      form = spans.form;
    }))
