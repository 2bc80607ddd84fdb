-- The properties of a packet (XMP Specification, Part 1, 7), token by token.
use Rattle.std.specs.Prelude.{ℕ, ◌==◌, ◌&&◌, ◌||◌, nat_lt, Bool, false, if◌then◌else◌, List, [], length, slice_index, None, Result, Ok, Err}
use Rattle.exif_xml.specs.declared.token.Kind.{Kind}
use Rattle.exif_xml.specs.declared.token.Kind.TheVariants as kinds
use Rattle.exif_xml.specs.declared.token.Token.{Token}
use Rattle.exif_xml.specs.Refusals.{◌>>=◌, Stepped, walk}
use Rattle.exif_xml.specs.Tokens.{token_at}
use Rattle.exif_xmp.specs.declared.fault.Fault.TheVariants as faults
use Rattle.exif_xmp.specs.declared.fault.Refusal.{Refusal}
use Rattle.exif_xmp.specs.declared.frame.Frame.{Frame}
use Rattle.exif_xmp.specs.declared.frame.Role.TheVariants.{Outside}
use Rattle.exif_xmp.specs.declared.path.Step.TheVariants as steps
use Rattle.exif_xmp.specs.Characters.{character_data, with_text}
use Rattle.exif_xmp.specs.Elements.{end_tag, open_element, start_tag_at}
use Rattle.exif_xmp.specs.Properties.{PropertyView}
use Rattle.exif_xmp.specs.Refusals.{located, of_xml, truncated}
use Rattle.exif_xmp.specs.States.{StateView}

abbrev pub kind_step : Kind → List ℕ → StateView → ℕ → ℕ → Result StateView Refusal
kind_step kinds.Text packet s offset len = character_data packet s offset len
kind_step kinds.Cdata packet s offset len = with_text packet s offset len
kind_step kinds.Ignored packet s offset len = Ok s
kind_step (kinds.Start n is_empty) packet s offset len =
    open_element packet s (start_tag_at offset n is_empty len)
kind_step (kinds.End n) packet s offset len = end_tag packet s offset n len

-- the state behind a token at an offset
abbrev pub token_step : List ℕ → StateView → ℕ → Token → Result StateView Refusal
token_step packet s offset t = kind_step t.kind packet s offset t.len

-- the token at the beginning of what is left, and the state behind it
abbrev pub read_step : List ℕ → ℕ → StateView → List ℕ → Result (Stepped StateView) Refusal
read_step packet offset s input =
    located offset (of_xml (token_at input)) >>= λ t.
    (token_step packet s offset t >>= λ u. Ok (record { len = t.len; state = u }))

-- outside all elements
abbrev pub document : Frame
document = record {
  role = Outside;
  tag = record { start = 0; end = 0 };
  step = steps.Nothing;
  bindings = 0;
  items = 0;
  has_value = false;
  has_text = false;
  start = 0;
  content = 0;
  language = None;
}

abbrev pub initial_state : StateView
initial_state = record { top = document; below = []; bindings = []; properties = [] }

-- a packet ends outside all elements
abbrev pub finished : ℕ → StateView → Result (List PropertyView) Refusal
finished len s = if length s.below == 0 then Ok s.properties else Err (truncated len)

-- UTF-16 or UTF-32: a byte order mark, or a zero beside a `<` or a zero (Extensible Markup Language
-- 1.0, F.1)
abbrev pub is_wide : ℕ → ℕ → Bool
is_wide a b =
    ((a == 254) && (b == 255)) || ((a == 255) && (b == 254)) || ((a == 0) && (b == 60))
    || ((a == 60) && (b == 0)) || ((a == 0) && (b == 0))

-- the state behind all tokens
unfoldable pub read_all : List ℕ → Result StateView Refusal
read_all packet = walk truncated (read_step packet) (length packet) 0 initial_state packet

-- the properties of a packet, or why it is refused
unfoldable pub read : List ℕ → Result (List PropertyView) Refusal
read packet =
    if is_wide (slice_index packet 0) (slice_index packet 1) && nat_lt 1 (length packet)
    then Err (record { fault = faults.Encoding; offset = 0 }) else
    (read_all packet >>= λ s. finished (length packet) s)
