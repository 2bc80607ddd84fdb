-- One root element (Extensible Markup Language 1.0, 2.1).
use Rattle.std.specs.Prelude.{ℕ, ◌+◌, ◌-◌, ◌==◌, ◌&&◌, Bool, true, false, if◌then◌else◌, List, length, Option, Some, None, Result, Ok, Err}
use Rattle.exif_xml.specs.declared.fault.Fault.{Fault}
use Rattle.exif_xml.specs.declared.fault.Fault.TheVariants.{Malformed, MismatchedTag}
use Rattle.exif_xml.specs.declared.fault.Refusal.{Refusal}
use Rattle.exif_xml.specs.declared.root.Nested.{Nested}
use Rattle.exif_xml.specs.declared.root.Nesting.{Nesting}
use Rattle.exif_xml.specs.declared.token.Kind.{Kind}
use Rattle.exif_xml.specs.declared.token.Kind.TheVariants.{Text, Cdata, Ignored, Start, End}
use Rattle.exif_xml.specs.Refusals.{◌>>=◌, Stepped, located, truncated, walk}
use Rattle.exif_xml.specs.Scans.{is_space, run}
use Rattle.exif_xml.specs.Tokens.{token_at}

-- the nesting behind a start tag
abbrev pub start_nesting : Nesting → Bool → Nesting
start_nesting s is_empty =
    record { depth = if is_empty then s.depth else s.depth + 1; has_root = true }

-- the nesting behind a token: outside the root are white space, comments and instructions alone
abbrev pub kind_nesting : Kind → Nesting → Bool → Result Nesting Fault
kind_nesting Ignored s is_blank = Ok s
kind_nesting Text s is_blank =
    if (s.depth == 0) && (if is_blank then false else true) then Err Malformed else Ok s
kind_nesting Cdata s is_blank = if s.depth == 0 then Err Malformed else Ok s
kind_nesting (Start n is_empty) s is_blank =
    if (s.depth == 0) && s.has_root then Err Malformed else Ok (start_nesting s is_empty)
kind_nesting (End n) s is_blank =
    if s.depth == 0 then Err MismatchedTag else
    Ok (record { depth = s.depth - 1; has_root = s.has_root })

abbrev pub nesting_after : Nesting → Kind → Bool → Result Nesting Fault
nesting_after s kind is_blank = kind_nesting kind s is_blank

-- the token at the beginning, and the nesting behind it
unfoldable pub nested_at : Nesting → List ℕ → Result Nested Fault
nested_at s input =
    token_at input >>= λ t. (nesting_after s t.kind (run is_space input == t.len) >>= λ n.
    Ok (record { len = t.len; nesting = n }))

abbrev pub nesting_step : ℕ → Nesting → List ℕ → Result (Stepped Nesting) Refusal
nesting_step offset s input =
    located offset (nested_at s input) >>= λ x. Ok (record { len = x.len; state = x.nesting })

abbrev pub no_nesting : Nesting
no_nesting = record { depth = 0; has_root = false }

-- the nesting behind all tokens
unfoldable pub nesting_of : List ℕ → Result Nesting Refusal
nesting_of document = walk truncated nesting_step (length document) 0 no_nesting document

-- at the end the root is closed
abbrev pub end_fault : ℕ → Result Nesting Refusal → Option Refusal
end_fault len (Err r) = Some r
end_fault len (Ok s) = if s.has_root && (s.depth == 0) then None else Some (truncated len)

-- why a document is not one root element
abbrev pub root_fault : List ℕ → Option Refusal
root_fault document = end_fault (length document) (nesting_of document)
