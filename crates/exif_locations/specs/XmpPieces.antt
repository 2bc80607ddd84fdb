-- A packet as its tokens, and these without locations.
use Rattle.std.specs.Prelude.{ℕ, zero, suc, Bool, true, false, if◌then◌else◌, List, [], ◌∷◌, ◌++◌, length, take, drop, Result, Ok, Err}
use Rattle.exif_locations.specs.declared.xmp.fault.Fault.{Fault}
use Rattle.exif_locations.specs.declared.xmp.fault.Fault.TheVariants.{Cut}
use Rattle.exif_locations.specs.declared.xmp.token.Content.{Content}
use Rattle.exif_locations.specs.declared.xmp.token.Content.TheVariants.{Text, Opens, Opened, Whole, Closes}
use Rattle.exif_locations.specs.declared.xmp.token.Within.{Within}
use Rattle.exif_locations.specs.declared.xmp.token.Within.TheVariants.{Space, Attribute, Ends, Shuts}
use Rattle.exif_locations.specs.XmpTokens.{content_at, tag_at}
use Rattle.exif_locations.specs.XmpErasing.{◌>>=◌}

-- a token between tags, or within one, and its bytes
pub data Piece : Type 0 where
  between : Content → List ℕ → Piece
  inside : Within → List ℕ → Piece

-- its bytes
abbrev pub piece_bytes : Piece → List ℕ
piece_bytes (between kind input) = input
piece_bytes (inside kind input) = input

-- what follows it is within a tag
abbrev pub mode_after : Piece → Bool
mode_after (between Text input) = false
mode_after (between (Opens location) input) = true
mode_after (between (Opened location) input) = false
mode_after (between (Whole location) input) = false
mode_after (between (Closes location) input) = false
mode_after (inside Space input) = true
mode_after (inside (Attribute location) input) = true
mode_after (inside Ends input) = false
mode_after (inside Shuts input) = false

-- the token at the front of a input
unfoldable pub piece_at : Bool → List ℕ → Result Piece Fault
piece_at true input = tag_at input >>= λ t. Ok (inside t.kind (take t.len input))
piece_at false input = content_at input >>= λ t. Ok (between t.kind (take t.len input))

-- a token, and those behind it
abbrev pub onto : Piece → Result (List Piece) Fault → Result (List Piece) Fault
onto p (Ok ps) = Ok (p ∷ ps)
onto p (Err e) = Err e

-- a input of at most n tokens
unfoldable pub pieces_by : ℕ → Bool → List ℕ → Result (List Piece) Fault
pieces_by n in_tag [] = Ok []
pieces_by zero in_tag (b ∷ bs) = Err Cut
pieces_by (suc n) in_tag (b ∷ bs) =
    piece_at in_tag (b ∷ bs) >>= λ p.
    onto p (pieces_by n (mode_after p) (drop (length (piece_bytes p)) (b ∷ bs)))

-- the tokens of a packet
abbrev pub pieces : List ℕ → Result (List Piece) Fault
pieces packet = pieces_by (length packet) false packet

-- a tag or an attribute whose name is that of a location
abbrev pub names_location : Piece → Bool
names_location (between Text input) = false
names_location (between (Opens location) input) = location
names_location (between (Opened location) input) = location
names_location (between (Whole location) input) = location
names_location (between (Closes location) input) = location
names_location (inside Space input) = false
names_location (inside (Attribute location) input) = location
names_location (inside Ends input) = false
names_location (inside Shuts input) = false

-- a token goes: it names a location, or is within an element that does
abbrev pub goes : ℕ → Piece → Bool
goes zero p = names_location p
goes (suc depth) p = true

-- within how many elements that go what follows a token is
abbrev pub depth_after : ℕ → Piece → ℕ
depth_after zero (between Text input) = 0
depth_after zero (between (Opens location) input) = if location then 1 else 0
depth_after zero (between (Opened location) input) = if location then 1 else 0
depth_after zero (between (Whole location) input) = 0
depth_after zero (between (Closes location) input) = 0
depth_after zero (inside kind input) = 0
depth_after (suc depth) (between Text input) = suc depth
depth_after (suc depth) (between (Opens location) input) = suc (suc depth)
depth_after (suc depth) (between (Opened location) input) = suc (suc depth)
depth_after (suc depth) (between (Whole location) input) = suc depth
depth_after (suc depth) (between (Closes location) input) = depth
depth_after (suc depth) (inside Space input) = suc depth
depth_after (suc depth) (inside (Attribute location) input) = suc depth
depth_after (suc depth) (inside Ends input) = suc depth
depth_after (suc depth) (inside Shuts input) = depth

-- the token of a space
abbrev pub space : Bool → Piece
space true = inside Space (32 ∷ [])
space false = between Text (32 ∷ [])

-- this many spaces
abbrev pub spaces : Bool → ℕ → List Piece
spaces in_tag zero = []
spaces in_tag (suc n) = space in_tag ∷ spaces in_tag n

-- spaces instead of a token are within a tag: an attribute's, if the tag stays
abbrev pub is_in_tag : ℕ → Piece → Bool
is_in_tag zero (between kind input) = false
is_in_tag zero (inside kind input) = true
is_in_tag (suc depth) p = false

-- tokens, and spaces for each byte of those that go
abbrev pub spaced : ℕ → List Piece → List Piece
spaced depth [] = []
spaced depth (p ∷ ps) =
    (if goes depth p then spaces (is_in_tag depth p) (length (piece_bytes p)) else p ∷ [])
    ++ spaced (depth_after depth p) ps
