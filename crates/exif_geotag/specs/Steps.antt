-- What a token of a GPX file does.
use Rattle.std.specs.Prelude.{ℕ, true, false, if◌then◌else◌, List, drop, Result, Ok, Err}
use Rattle.exif_locations.specs.declared.xmp.fault.Fault.{Fault}
use Rattle.exif_locations.specs.declared.xmp.token.Content.{Content}
use Rattle.exif_locations.specs.declared.xmp.token.Content.TheVariants.{Text, Opens, Opened, Whole, Closes}
use Rattle.exif_locations.specs.declared.xmp.token.Within.{Within}
use Rattle.exif_locations.specs.declared.xmp.token.Within.TheVariants.{Space, Attribute, Ends, Shuts}
use Rattle.exif_locations.specs.XmpTokens.{content_at, tag_at}
use Rattle.exif_geotag.specs.declared.error.TrackError.{TrackError}
use Rattle.exif_geotag.specs.declared.error.TrackError.TheVariants.{Xml}
use Rattle.exif_geotag.specs.declared.state.Found.TheVariants.{Nothing}
use Rattle.exif_geotag.specs.declared.state.State.{State}
use Rattle.exif_geotag.specs.declared.step.Step.{Step}
use Rattle.exif_geotag.specs.Elements.{element_at}
use Rattle.exif_geotag.specs.States.{enter, leave, with_attribute, with_text}

-- a step, and then the next, unless it is refused
infixl 10 ◌>>=◌
abbrev pub ◌>>=◌ : {A B : Type 0} → Result A TrackError → (A → Result B TrackError)
    → Result B TrackError
(Ok x) >>= f = f x
(Err e) >>= f = Err e

-- a token, or markup that is refused
abbrev pub xml : {A : Type 0} → Result A Fault → Result A TrackError
xml (Ok token) = Ok token
xml (Err fault) = Err (Xml fault)

-- a token that completes nothing
abbrev pub passes : ℕ → State → Step
passes len s = record { state = s; found = Nothing; len = len }

-- an element ends
abbrev pub leaves : ℕ → State → Result Step TrackError
leaves len s = leave s >>= λ l. Ok (record { state = l.0; found = l.1; len = len })

-- a token between tags, of so many bytes at the front
unfoldable pub content_step : State → Content → ℕ → List ℕ → Result Step TrackError
content_step s Text len input = Ok (passes len s)
content_step s (Opens location) len input =
    enter s true (element_at input) >>= λ t. Ok (passes len t)
content_step s (Opened location) len input =
    enter s false (element_at input) >>= λ t. Ok (passes len (with_text t (drop len input)))
content_step s (Whole location) len input =
    enter s false (element_at input) >>= λ t. leaves len t
content_step s (Closes location) len input = leaves len s

-- a token within a tag, of so many bytes at the front
unfoldable pub tag_step : State → Within → ℕ → List ℕ → Result Step TrackError
tag_step s Space len input = Ok (passes len s)
tag_step s (Attribute location) len input = Ok (passes len (with_attribute s input))
tag_step s Ends len input =
    Ok (passes len (with_text (record s { in_tag = false }) (drop len input)))
tag_step s Shuts len input = leaves len s

-- the token at the front, and what it does
unfoldable pub step_at : State → List ℕ → Result Step TrackError
step_at s input =
    if s.in_tag then (xml (tag_at input) >>= λ t. tag_step s t.kind t.len input) else
    (xml (content_at input) >>= λ t. content_step s t.kind t.len input)
