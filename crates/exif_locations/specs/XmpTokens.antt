-- The tokens of XML (Extensible Markup Language 1.0, 2.4 to 3.1), at the front of a input.
use Rattle.std.specs.Prelude.{ℕ, ◌+◌, ◌==◌, ◌&&◌, ◌||◌, Bool, if◌then◌else◌, List, take, drop, slice_index, codes, Option, Some, None, Result, Ok, Err}
use Rattle.exif_locations.specs.declared.xmp.fault.Fault.{Fault}
use Rattle.exif_locations.specs.declared.xmp.fault.Fault.TheVariants.{Malformed, Doctype, Cut}
use Rattle.exif_locations.specs.declared.xmp.token.Content.TheVariants.{Text, Opens, Opened, Whole, Closes}
use Rattle.exif_locations.specs.declared.xmp.token.ContentToken.{ContentToken}
use Rattle.exif_locations.specs.declared.xmp.token.TagToken.{TagToken}
use Rattle.exif_locations.specs.declared.xmp.token.Within.TheVariants.{Space, Attribute, Ends, Shuts}
use Rattle.exif_locations.specs.XmpNames.{begins, is_location}
use Rattle.exif_locations.specs.XmpScans.{ended, is_name_byte, is_space, quoted, run}

-- text: the first bytes, and as many as are found behind them
abbrev pub passed : ℕ → Option ℕ → Result ContentToken Fault
passed front None = Err Cut
passed front (Some n) = Ok (record { kind = Text; len = front + n })

-- what follows a name: `>`, white space, or `/>`
abbrev pub opened : Bool → ℕ → ℕ → ℕ → Result ContentToken Fault
opened location n c d =
    if c == 62 then Ok (record { kind = Opened location; len = n + 2 }) else
    (if is_space c then Ok (record { kind = Opens location; len = n + 2 }) else
    (if (c == 47) && (d == 62) then Ok (record { kind = Whole location; len = n + 3 }) else
    Err Malformed))

-- a start tag whose name has n bytes, behind its `<`
abbrev pub opening_with : ℕ → List ℕ → Result ContentToken Fault
opening_with n rest =
    if n == 0 then Err Malformed else
    opened (is_location (take n rest)) n (slice_index rest n) (slice_index rest (n + 1))

-- a start tag, behind its `<`
unfoldable pub opening_at : List ℕ → Result ContentToken Fault
opening_at rest = opening_with (run is_name_byte rest) rest

-- an end tag, behind its `</`
abbrev pub closed : Bool → Option ℕ → Result ContentToken Fault
closed location None = Err Cut
closed location (Some n) = Ok (record { kind = Closes location; len = n + 2 })

unfoldable pub closing_at : List ℕ → Result ContentToken Fault
closing_at rest = closed (is_location (take (run is_name_byte rest) rest)) (ended 0 0 0 rest)

-- a declaration, behind its `<`: a comment or character data; no other is read
unfoldable pub declared_at : List ℕ → Result ContentToken Fault
declared_at rest =
    if begins rest (codes "!--") then passed 4 (ended 45 2 0 (drop 3 rest)) else
    (if begins rest (codes "![CDATA[") then passed 9 (ended 93 2 0 (drop 8 rest)) else
    Err Doctype)

-- markup, behind its `<`
unfoldable pub markup_at : List ℕ → Result ContentToken Fault
markup_at rest =
    let c = slice_index rest 0 in
    if c == 47 then closing_at (drop 1 rest) else
    (if c == 63 then passed 2 (ended 63 1 0 (drop 1 rest)) else
    (if c == 33 then declared_at rest else opening_at rest))

-- a token between tags: a byte of input, or markup
unfoldable pub content_at : List ℕ → Result ContentToken Fault
content_at input =
    if slice_index input 0 == 60 then markup_at (drop 1 input) else
    Ok (record { kind = Text; len = 1 })

-- an attribute whose value begins behind so many bytes
abbrev pub valued : Bool → ℕ → Option ℕ → Result TagToken Fault
valued location front None = Err Malformed
valued location front (Some n) = Ok (record { kind = Attribute location; len = front + n })

-- the quote of an attribute's value, and the value
abbrev pub value_at : Bool → ℕ → List ℕ → Result TagToken Fault
value_at location front rest =
    let q = slice_index rest 0 in
    if (q == 34) || (q == 39) then valued location (front + 1) (quoted q (drop 1 rest)) else
    Err Malformed

-- how many bytes are white space, `=`, and white space; none where there is no `=`
abbrev pub equals_with : ℕ → List ℕ → Option ℕ
equals_with n rest =
    if slice_index rest n == 61 then Some (n + 1 + run is_space (drop (n + 1) rest)) else None

abbrev pub equals : List ℕ → Option ℕ
equals rest = equals_with (run is_space rest) rest

-- what follows an attribute's name of n bytes
abbrev pub named : Bool → ℕ → Option ℕ → List ℕ → Result TagToken Fault
named location n None rest = Err Malformed
named location n (Some e) rest = value_at location (n + e) (drop e rest)

-- an attribute whose name has n bytes
abbrev pub attribute_with : ℕ → List ℕ → Result TagToken Fault
attribute_with n input =
    if n == 0 then Err Malformed else
    named (is_location (take n input)) n (equals (drop n input)) (drop n input)

-- an attribute
unfoldable pub attribute_at : List ℕ → Result TagToken Fault
attribute_at input = attribute_with (run is_name_byte input) input

-- a token within a tag
unfoldable pub tag_at : List ℕ → Result TagToken Fault
tag_at input =
    let c = slice_index input 0 in
    if is_space c then Ok (record { kind = Space; len = 1 }) else
    (if c == 62 then Ok (record { kind = Ends; len = 1 }) else
    (if c == 47 then
    (if slice_index input 1 == 62 then Ok (record { kind = Shuts; len = 2 }) else Err Malformed) else
    attribute_at input))
