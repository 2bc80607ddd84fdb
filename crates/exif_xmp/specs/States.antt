-- The state of reading.
use Rattle.std.specs.Prelude.{ℕ, nat_le, if◌then◌else◌, List, [], ◌∷◌, ◌++◌, length, map, Result, Ok, Err}
use Rattle.exif_xml.specs.declared.name.Binding.{Binding}
use Rattle.exif_xml.specs.Refusals.{◌>>=◌}
use Rattle.exif_xmp.specs.declared.fault.Fault.TheVariants as faults
use Rattle.exif_xmp.specs.declared.fault.Refusal.{Refusal}
use Rattle.exif_xmp.specs.declared.frame.Frame.{Frame}
use Rattle.exif_xmp.specs.declared.path.Step.{Step}
use Rattle.exif_xmp.specs.declared.property.Spans.{Spans}
use Rattle.exif_xmp.specs.declared.state.State.{State}
use Rattle.exif_xmp.specs.Properties.{PropertyView, property_of, property_view}

-- the element that is open, those that contain it, the namespace declarations in scope, and the
-- properties so far
pub record StateView : Type 0 where
  pub top : Frame
  pub below : List Frame
  pub bindings : List Binding
  pub properties : List PropertyView

abbrev pub state_view : State → StateView
state_view s = record {
  top = s.top;
  below = s.below.items;
  bindings = s.bindings.items;
  properties = map property_view s.properties.items;
}

abbrev pub with_view : StateView → PropertyView → StateView
with_view s p = record {
  top = s.top;
  below = s.below;
  bindings = s.bindings;
  properties = s.properties ++ p ∷ [];
}

-- the state with one more property of the open element
unfoldable pub with_property : List ℕ → StateView → Step → Spans → Result StateView Refusal
with_property packet s last spans =
    if nat_le 65535 (length s.properties)
    then Err (record { fault = faults.TooMany; offset = spans.whole.start }) else
    property_of packet s.below s.top.step last spans >>= λ p. Ok (with_view s p)
