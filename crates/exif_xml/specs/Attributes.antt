-- The attributes of a start tag (Extensible Markup Language 1.0, 3.1).
use Rattle.std.specs.Prelude.{ℕ, ◌+◌, ◌-◌, ◌==◌, if◌then◌else◌, List, [], ◌∷◌, ◌++◌, length, drop, slice_index, Option, Some, None, Result, Ok, Err}
use Rattle.exif_xml.specs.declared.attribute.Attribute.{Attribute}
use Rattle.exif_xml.specs.declared.attribute.Next.{Next}
use Rattle.exif_xml.specs.declared.fault.Fault.{Fault}
use Rattle.exif_xml.specs.declared.fault.Fault.TheVariants.{Malformed}
use Rattle.exif_xml.specs.declared.fault.Refusal.{Refusal}
use Rattle.exif_xml.specs.Refusals.{◌>>=◌, Stepped, located, truncated, walk}
use Rattle.exif_xml.specs.Scans.{is_name_byte, is_space, quoted_len, run}

-- how many bytes are white space, `=`, and white space; none where there is no `=`
abbrev pub equals_len_with : ℕ → List ℕ → Option ℕ
equals_len_with n rest =
    if slice_index rest n == 61 then Some (n + 1 + run is_space (drop (n + 1) rest)) else None

abbrev pub equals_len : List ℕ → Option ℕ
equals_len rest = equals_len_with (run is_space rest) rest

-- an attribute at an offset, whose name has n bytes, and whose value begins behind `opening` bytes
-- and ends with a quote, k bytes on
abbrev pub attribute_with : ℕ → ℕ → ℕ → Option ℕ → Result Next Fault
attribute_with offset n opening None = Err Malformed
attribute_with offset n opening (Some k) =
    Ok (record {
      len = opening + k;
      attribute = Some (record {
        name = record { start = offset; end = offset + n };
        value = record { start = offset + opening; end = offset + opening + k - 1 };
      });
    })

-- what follows a name of n bytes and `=`, with white space, of e bytes: a quote, a value, the same
-- quote
abbrev pub value_at : ℕ → ℕ → ℕ → List ℕ → Result Next Fault
value_at offset n e rest =
    let q = slice_index rest 0 in
    let inner = drop 1 rest in
    if q == 34 then attribute_with offset n (n + e + 1) (quoted_len 34 inner) else
    (if q == 39 then attribute_with offset n (n + e + 1) (quoted_len 39 inner) else Err Malformed)

abbrev pub named : ℕ → ℕ → Option ℕ → List ℕ → Result Next Fault
named offset n None rest = Err Malformed
named offset n (Some e) rest = value_at offset n e (drop e rest)

-- the attribute at the beginning of an input at an offset
unfoldable pub attribute_at : ℕ → List ℕ → Result Next Fault
attribute_at offset input =
    let n = run is_name_byte input in
    if n == 0 then Err Malformed else named offset n (equals_len (drop n input)) (drop n input)

-- with white space before it
abbrev pub behind : ℕ → Result Next Fault → Result Next Fault
behind s (Ok next) = Ok (record { len = s + next.len; attribute = next.attribute })
behind s (Err f) = Err f

-- white space, and the attribute that follows it, if one does
unfoldable pub next_at : ℕ → List ℕ → Result Next Fault
next_at offset input =
    let s = run is_space input in
    if s == 0 then Err Malformed else
    (if s == length input then Ok (record { len = s; attribute = None }) else
    behind s (attribute_at (offset + s) (drop s input)))

-- the attributes, with one more, if there is one
abbrev pub added : List Attribute → Option Attribute → List Attribute
added found None = found
added found (Some a) = found ++ a ∷ []

abbrev pub with_next : List Attribute → Next → List Attribute
with_next found next = added found next.attribute

abbrev pub next_step : ℕ → List Attribute → List ℕ → Result (Stepped (List Attribute)) Refusal
next_step offset found input =
    located offset (next_at offset input) >>= λ next.
    Ok (record { len = next.len; state = with_next found next })

-- the attributes between the name of a tag and its end, which begin at an offset
unfoldable pub attributes : ℕ → List ℕ → Result (List Attribute) Refusal
attributes offset input = walk truncated next_step (length input) offset [] input
