-- The tokens of an XML document (Extensible Markup Language 1.0, 2.4 to 3.1).
use Rattle.std.specs.Prelude.{ℕ, ◌+◌, ◌-◌, ◌==◌, ◌&&◌, nat_lt, if◌then◌else◌, List, drop, slice_index, codes, Option, Some, None, Result, Ok, Err}
use Rattle.exif_xml.specs.declared.fault.Fault.{Fault}
use Rattle.exif_xml.specs.declared.fault.Fault.TheVariants.{Malformed, Doctype, Truncated}
use Rattle.exif_xml.specs.declared.token.Kind.{Kind}
use Rattle.exif_xml.specs.declared.token.Kind.TheVariants.{Text, Cdata, Ignored, Start, End}
use Rattle.exif_xml.specs.declared.token.Token.{Token}
use Rattle.exif_xml.specs.Scans.{begins, closed_len, is_name_byte, is_space, is_text, run, tag_len}

-- how many bytes the name of a token has
abbrev pub name_len : Kind → ℕ
name_len Text = 0
name_len Cdata = 0
name_len Ignored = 0
name_len (Start n empty) = n
name_len (End n) = n

-- a token of `opening` bytes and as many more as were found
abbrev pub delimited : Kind → ℕ → Option ℕ → Result Token Fault
delimited kind opening None = Err Truncated
delimited kind opening (Some n) = Ok (record { kind = kind; len = opening + n })

-- a start tag whose name has n bytes, behind its `<`: it ends at the first `>` in no quotes, and is
-- empty if a `/` is before that
abbrev pub started : ℕ → List ℕ → Option ℕ → Result Token Fault
started n rest None = Err Truncated
started n rest (Some m) =
    let empty = nat_lt 1 m && (slice_index rest (n + m - 2) == 47) in
    Ok (record { kind = Start n empty; len = n + m + 1 })

unfoldable pub start_at : List ℕ → Result Token Fault
start_at rest =
    let n = run is_name_byte rest in
    if n == 0 then Err Malformed else started n rest (tag_len 0 (drop n rest))

-- an end tag, behind its `</`: its name, white space, `>`
unfoldable pub end_at : List ℕ → Result Token Fault
end_at rest =
    let n = run is_name_byte rest in
    let k = n + run is_space (drop n rest) in
    if n == 0 then Err Malformed else
    (if slice_index rest k == 62 then Ok (record { kind = End n; len = k + 3 }) else Err Malformed)

-- why a declaration is refused
abbrev pub declaration_fault : List ℕ → Fault
declaration_fault rest = if begins rest (codes "!DOCTYPE") then Doctype else Malformed

-- a CDATA section, behind its `<`
abbrev pub cdata_at : List ℕ → Result Token Fault
cdata_at rest =
    if begins rest (codes "![CDATA[") then delimited Cdata 9 (closed_len 93 2 0 (drop 8 rest)) else
    Err (declaration_fault rest)

-- a comment or a CDATA section, behind its `<`; any other declaration is refused
unfoldable pub declaration_at : List ℕ → Result Token Fault
declaration_at rest =
    if begins rest (codes "!--") then delimited Ignored 4 (closed_len 45 2 0 (drop 3 rest)) else
    cdata_at rest

-- a processing instruction, behind its `<?`
abbrev pub instruction_at : List ℕ → Result Token Fault
instruction_at rest = delimited Ignored 2 (closed_len 63 1 0 rest)

-- markup, behind its `<`
unfoldable pub markup_at : List ℕ → Result Token Fault
markup_at rest =
    let c = slice_index rest 0 in
    if c == 47 then end_at (drop 1 rest) else
    (if c == 63 then instruction_at (drop 1 rest) else
    (if c == 33 then declaration_at rest else start_at rest))

-- the token at the beginning: text up to the next `<`, or markup
unfoldable pub token_at : List ℕ → Result Token Fault
token_at input =
    if slice_index input 0 == 60 then markup_at (drop 1 input) else
    Ok (record { kind = Text; len = run is_text input })
