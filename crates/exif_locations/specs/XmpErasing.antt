-- Locations of a packet erased.
use Rattle.std.specs.Prelude.{ℕ, ◌-◌, zero, suc, ◌==◌, ◌||◌, Bool, true, false, if◌then◌else◌, List, [], ◌∷◌, ◌++◌, length, take, drop, replicate, Result, Ok, Err}
use Rattle.exif_locations.specs.declared.xmp.fault.Fault.{Fault}
use Rattle.exif_locations.specs.declared.xmp.fault.Fault.TheVariants.{Cut, Unbalanced}
use Rattle.exif_locations.specs.declared.xmp.step.State.{State}
use Rattle.exif_locations.specs.declared.xmp.step.Step.{Step}
use Rattle.exif_locations.specs.declared.xmp.token.Content.{Content}
use Rattle.exif_locations.specs.declared.xmp.token.Content.TheVariants.{Text, Opens, Opened, Whole, Closes}
use Rattle.exif_locations.specs.declared.xmp.token.Within.{Within}
use Rattle.exif_locations.specs.declared.xmp.token.Within.TheVariants.{Space, Attribute, Ends, Shuts}
use Rattle.exif_locations.specs.XmpTokens.{content_at, tag_at}

-- a step, and then the next, unless it is refused
infixl 10 ◌>>=◌
abbrev pub ◌>>=◌ : {A B : Type 0} → Result A Fault → (A → Result B Fault) → Result B Fault
(Ok x) >>= f = f x
(Err e) >>= f = Err e

-- bytes, and what is made of those behind them
abbrev pub behind : List ℕ → Result (List ℕ) Fault → Result (List ℕ) Fault
behind front (Ok rest) = Ok (front ++ rest)
behind front (Err e) = Err e

-- one of two holds
abbrev pub either : Bool → Result Bool Fault → Result Bool Fault
either b (Ok more) = Ok (b || more)
either b (Err e) = Err e

-- a step to a state
abbrev pub to : Bool → ℕ → ℕ → Bool → Step
to in_tag depth len blank =
    record { state = record { in_tag = in_tag; depth = depth }; len = len; blank = blank }

-- within an element that is erased
abbrev pub is_deep : ℕ → Bool
is_deep zero = false
is_deep (suc depth) = true

-- within one less
abbrev pub less : ℕ → ℕ
less zero = 0
less (suc depth) = depth

-- an element is opened: what is within an element that is erased is one deeper, and so is what
-- follows if it is to be erased
abbrev pub opens : Bool → ℕ → ℕ → Bool → Step
opens in_tag depth len blank = to in_tag (if blank then suc depth else 0) len blank

-- an element ends
abbrev pub closes : ℕ → ℕ → Bool → Result Step Fault
closes depth len location =
    if is_deep depth then Ok (to false (less depth) len true) else
    (if location then Err Unbalanced else Ok (to false 0 len false))

-- a token between tags, within so many elements that are erased
abbrev pub content_step : ℕ → Content → ℕ → Result Step Fault
content_step depth Text len = Ok (to false depth len (is_deep depth))
content_step depth (Opens location) len = Ok (opens true depth len (is_deep depth || location))
content_step depth (Opened location) len = Ok (opens false depth len (is_deep depth || location))
content_step depth (Whole location) len = Ok (to false depth len (is_deep depth || location))
content_step depth (Closes location) len = closes depth len location

-- a token within a tag
abbrev pub tag_step : ℕ → Within → ℕ → Step
tag_step depth Space len = to true depth len (is_deep depth)
tag_step depth (Attribute location) len = to true depth len (is_deep depth || location)
tag_step depth Ends len = to false depth len (is_deep depth)
tag_step depth Shuts len = to false (less depth) len (is_deep depth)

-- the next token, and what becomes of it
unfoldable pub step_at : State → List ℕ → Result Step Fault
step_at s input =
    if s.in_tag then (tag_at input >>= λ t. Ok (tag_step s.depth t.kind t.len)) else
    (content_at input >>= λ t. content_step s.depth t.kind t.len)

-- what becomes of a token: spaces, or the token
abbrev pub chunk : Step → List ℕ → List ℕ
chunk t input = if t.blank then replicate t.len 32 else take t.len input

-- a packet ends between tags, and within no element that is erased
abbrev pub may_end : State → Bool
may_end s = if s.in_tag then false else (s.depth == 0)

-- a packet of at most n tokens, each that is of a location spaces
unfoldable pub erased_by : ℕ → State → List ℕ → Result (List ℕ) Fault
erased_by n s [] = if may_end s then Ok [] else Err Cut
erased_by zero s (b ∷ bs) = Err Cut
erased_by (suc n) s (b ∷ bs) =
    step_at s (b ∷ bs) >>= λ t. behind (chunk t (b ∷ bs)) (erased_by n t.state (drop t.len (b ∷ bs)))

-- the state at the front
abbrev pub at_start : State
at_start = record { in_tag = false; depth = 0 }

-- the packet with each property that names a location made spaces; each token has a byte
abbrev pub erased : List ℕ → Result (List ℕ) Fault
erased packet = erased_by (length packet) at_start packet

-- whether a packet of at most n tokens has one that is of a location
unfoldable pub found_by : ℕ → State → List ℕ → Result Bool Fault
found_by n s [] = if may_end s then Ok false else Err Cut
found_by zero s (b ∷ bs) = Err Cut
found_by (suc n) s (b ∷ bs) =
    step_at s (b ∷ bs) >>= λ t. either t.blank (found_by n t.state (drop t.len (b ∷ bs)))

-- whether a packet has a property that names a location
abbrev pub found : List ℕ → Result Bool Fault
found packet = found_by (length packet) at_start packet

-- the packet between two offsets of a file
abbrev pub packet_at : ℕ → ℕ → List ℕ → List ℕ
packet_at from to file = take (to - from) (drop from file)

-- the file with the locations of this packet erased
abbrev pub erased_at : ℕ → ℕ → List ℕ → Result (List ℕ) Fault
erased_at from to file =
    erased (packet_at from to file) >>= λ out. Ok (take from file ++ (out ++ drop to file))
