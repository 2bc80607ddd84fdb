-- Character data (Extensible Markup Language 1.0, 2.4).
use Rattle.std.specs.Prelude.{ℕ, ◌+◌, Bool, true, false, if◌then◌else◌, List, [], ◌∷◌, Result, Ok}
use Rattle.exif_xml.specs.Scans.{is_space, slice_of}
use Rattle.exif_xmp.specs.declared.fault.Refusal.{Refusal}
use Rattle.exif_xmp.specs.declared.frame.Frame.{Frame}
use Rattle.exif_xmp.specs.declared.frame.Role.{Role}
use Rattle.exif_xmp.specs.declared.frame.Role.TheVariants.{Outside, Rdf, Node, Property, Array, Unread, Inside}
use Rattle.exif_xmp.specs.declared.path.Step.TheVariants as steps
use Rattle.exif_xmp.specs.declared.property.Form.TheVariants as forms
use Rattle.exif_xmp.specs.States.{StateView, with_property}

-- all bytes are white space
abbrev pub is_blank : List ℕ → Bool
is_blank [] = true
is_blank (b ∷ bs) = if is_space b then is_blank bs else false

-- text in a property is all of its value, or is beside elements: then none of its content is read
abbrev pub text_top : Frame → Frame
text_top top =
    if top.has_value then record top { role = Unread } else record top { has_text = true }

abbrev pub with_property_text : StateView → StateView
with_property_text s = record {
  top = text_top s.top;
  below = s.below;
  bindings = s.bindings;
  properties = s.properties;
}

-- text that is in no property
abbrev pub stray_text : List ℕ → StateView → ℕ → ℕ → Result StateView Refusal
stray_text packet s offset len =
    with_property packet s steps.Nothing (record {
      value = record { start = offset; end = offset + len };
      whole = record { start = offset; end = offset + len };
      language = s.top.language;
      form = forms.Unread;
    })

abbrev pub text_in : Role → List ℕ → StateView → ℕ → ℕ → Result StateView Refusal
text_in Property packet s offset len = Ok (with_property_text s)
text_in Rdf packet s offset len = stray_text packet s offset len
text_in Node packet s offset len = stray_text packet s offset len
text_in Array packet s offset len = stray_text packet s offset len
text_in Outside packet s offset len = Ok s
text_in Unread packet s offset len = Ok s
text_in Inside packet s offset len = Ok s

-- text that is more than white space has no meaning outside `rdf:RDF`, and in it is in a property;
-- elsewhere it is not read
abbrev pub with_text : List ℕ → StateView → ℕ → ℕ → Result StateView Refusal
with_text packet s offset len = text_in s.top.role packet s offset len

-- character data of `len` bytes at an offset
abbrev pub character_data : List ℕ → StateView → ℕ → ℕ → Result StateView Refusal
character_data packet s offset len =
    if is_blank (slice_of packet (record { start = offset; end = offset + len })) then Ok s else
    with_text packet s offset len
