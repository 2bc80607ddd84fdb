-- Character data and attribute values, decoded (Extensible Markup Language 1.0, 2.4 to 2.7, 4.1 and
-- 4.6).
use Rattle.std.specs.Prelude.{ℕ, ◌+◌, ◌-◌, ◌*◌, ◌/◌, ◌%◌, ◌<◌, ◌==◌, ◌&&◌, ◌||◌, nat_le, nat_lt, Bool, true, false, if◌then◌else◌, List, [], ◌∷◌, ◌++◌, length, take, drop, slice_index, codes, Option, Some, None, option_and_then, Result, Ok, Err}
use Rattle.std.specs.Str.{bytes_eq}
use Rattle.exif_xml.specs.declared.fault.Fault.{Fault}
use Rattle.exif_xml.specs.declared.fault.Fault.TheVariants.{Malformed, InvalidReference}
use Rattle.exif_xml.specs.declared.fault.Refusal.{Refusal}
use Rattle.exif_xml.specs.declared.text.Content.{Content}
use Rattle.exif_xml.specs.declared.text.Content.TheVariants.{Bytes, Character}
use Rattle.exif_xml.specs.declared.text.Chunk.{Chunk}
use Rattle.exif_xml.specs.declared.token.Kind.{Kind}
use Rattle.exif_xml.specs.declared.token.Kind.TheVariants.{Text, Cdata, Ignored, Start, End}
use Rattle.exif_xml.specs.declared.token.Token.{Token}
use Rattle.exif_xml.specs.Refusals.{◌>>=◌, Stepped, located, truncated, walk}
use Rattle.exif_xml.specs.Scans.{begins, slice_of, run}
use Rattle.exif_xml.specs.Tokens.{token_at}

-- a byte that is decoded to itself
abbrev pub is_plain : ℕ → Bool
is_plain b = if (b == 60) || (b == 38) then false else true

-- a byte between `&` and `;`
abbrev pub is_reference_byte : ℕ → Bool
is_reference_byte b =
    (nat_le 97 b && nat_le b 122) || (nat_le 65 b && nat_le b 90) || (nat_le 48 b && nat_le b 57)
    || (b == 35)

-- the value of a digit
abbrev pub digit : ℕ → ℕ → Option ℕ
digit base b =
    if nat_le 48 b && nat_le b 57 then Some (b - 48) else
    (if (base == 16) && nat_le 97 b && nat_le b 102 then Some (b - 87) else
    (if (base == 16) && nat_le 65 b && nat_le b 70 then Some (b - 55) else None))

-- a number with one more digit, unless it is beyond U+10FFFF
abbrev pub number_with : ℕ → ℕ → Option ℕ → Option ℕ
number_with base n None = None
number_with base n (Some d) = if nat_lt 1114111 (n * base + d) then None else Some (n * base + d)

-- the number that digits are behind a number
abbrev pub number_from : ℕ → ℕ → List ℕ → Option ℕ
number_from base n [] = Some n
number_from base n (b ∷ bs) =
    option_and_then (λ m. number_from base m bs) (number_with base n (digit base b))

-- the number that digits are
abbrev pub number_of : ℕ → List ℕ → Option ℕ
number_of base [] = None
number_of base (b ∷ bs) = number_from base 0 (b ∷ bs)

-- whether a number is the one of a character: not NUL, and no surrogate
abbrev pub is_character : ℕ → Bool
is_character n = nat_lt 0 n && (if nat_le 55296 n && nat_le n 57343 then false else true)

-- the character of a number
abbrev pub character_of : Option ℕ → Result ℕ Fault
character_of None = Err InvalidReference
character_of (Some n) = if is_character n then Ok n else Err InvalidReference

-- the character of a predefined entity
abbrev pub predefined_entity : List ℕ → Result ℕ Fault
predefined_entity name =
    if bytes_eq name (codes "lt") then Ok 60 else
    (if bytes_eq name (codes "gt") then Ok 62 else
    (if bytes_eq name (codes "amp") then Ok 38 else
    (if bytes_eq name (codes "quot") then Ok 34 else
    (if bytes_eq name (codes "apos") then Ok 39 else Err InvalidReference))))

-- the character of the reference with these bytes between `&` and `;`
abbrev pub named : List ℕ → Result ℕ Fault
named name =
    if begins name (codes "#x") then character_of (number_of 16 (drop 2 name)) else
    (if begins name (codes "#") then character_of (number_of 10 (drop 1 name)) else
    predefined_entity name)

-- a reference of n bytes
abbrev pub reference_of : ℕ → Result ℕ Fault → Result Chunk Fault
reference_of n (Ok c) = Ok (record { len = n + 2; content = Character c })
reference_of n (Err f) = Err f

-- a reference, behind its `&`
unfoldable pub reference_at : List ℕ → Result Chunk Fault
reference_at rest =
    let n = run is_reference_byte rest in
    if slice_index rest n == 59 then reference_of n (named (take n rest)) else Err InvalidReference

-- what markup in a text is decoded to: a CDATA section to its bytes, a comment or an instruction to
-- nothing
abbrev pub markup_content : ℕ → Kind → Result Chunk Fault
markup_content len Cdata = Ok (record { len = len; content = Bytes 9 (len - 3) })
markup_content len Ignored = Ok (record { len = len; content = Bytes 0 0 })
markup_content len Text = Err Malformed
markup_content len (Start n empty) = Err Malformed
markup_content len (End n) = Err Malformed

abbrev pub markup_chunk : Token → Result Chunk Fault
markup_chunk t = markup_content t.len t.kind

-- the chunk at the beginning: a reference, markup, or plain bytes
unfoldable pub chunk_at : List ℕ → Result Chunk Fault
chunk_at input =
    if slice_index input 0 == 38 then reference_at (drop 1 input) else
    (if slice_index input 0 == 60 then (token_at input >>= markup_chunk) else
    Ok (record { len = run is_plain input; content = Bytes 0 (run is_plain input) }))

-- a character in UTF-8 (RFC 3629, 3)
abbrev pub utf8_of : ℕ → List ℕ
utf8_of c =
    if nat_lt c 128 then c ∷ [] else
    (if nat_lt c 2048 then (192 + c / 64) ∷ (128 + c % 64) ∷ [] else
    (if nat_lt c 65536 then (224 + c / 4096) ∷ (128 + c / 64 % 64) ∷ (128 + c % 64) ∷ [] else
    (240 + c / 262144) ∷ (128 + c / 4096 % 64) ∷ (128 + c / 64 % 64) ∷ (128 + c % 64) ∷ []))

-- what a chunk of an input is decoded to
abbrev pub content_of : List ℕ → Content → List ℕ
content_of input (Bytes start end) = slice_of input (record { start = start; end = end })
content_of input (Character c) = utf8_of c

-- a character has at most four bytes in UTF-8
abbrev pub IsEncodable : Content → Type 0
IsEncodable (Bytes start end) = Unit {0}
IsEncodable (Character c) = c < 1114112

abbrev pub text_step : ℕ → List ℕ → List ℕ → Result (Stepped (List ℕ)) Refusal
text_step offset out input =
    located offset (chunk_at input) >>= λ u.
    Ok (record { len = u.len; state = out ++ content_of input u.content })

-- the text of an input at an offset
unfoldable pub text_of : ℕ → List ℕ → Result (List ℕ) Refusal
text_of offset input = walk truncated text_step (length input) offset [] input
