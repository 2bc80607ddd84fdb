-- Names and their namespaces (Namespaces in XML 1.0).
use Rattle.std.specs.Prelude.{ℕ, ◌+◌, ◌==◌, nat_lt, Bool, true, false, if◌then◌else◌, List, [], ◌∷◌, ◌++◌, length, codes, Option, Some, None, Result, Ok, Err}
use Rattle.std.specs.Str.{bytes_eq}
use Rattle.exif_xml.specs.declared.attribute.Attribute.{Attribute}
use Rattle.exif_xml.specs.declared.fault.Fault.{Fault}
use Rattle.exif_xml.specs.declared.fault.Fault.TheVariants.{UndeclaredPrefix}
use Rattle.exif_xml.specs.declared.name.Binding.{Binding}
use Rattle.exif_xml.specs.declared.name.Name.{Name}
use Rattle.exif_xml.specs.declared.name.QName.{QName}
use Rattle.exif_xml.specs.declared.span.Span.{Span}
use Rattle.exif_xml.specs.Scans.{begins, slice_of, run}

-- a byte that is not a colon
abbrev pub is_prefix_byte : ℕ → Bool
is_prefix_byte b = if b == 58 then false else true

-- the parts of a name that has n bytes before its first colon, or none
abbrev pub qname_at : List ℕ → Span → ℕ → QName
qname_at bytes name n =
    if nat_lt n (length bytes)
    then record {
      prefix = record { start = name.start; end = name.start + n };
      local = record { start = name.start + n + 1; end = name.end };
    }
    else record { prefix = record { start = name.start; end = name.start }; local = name }

abbrev pub qname_of : List ℕ → Span → QName
qname_of document name =
    qname_at (slice_of document name) name (run is_prefix_byte (slice_of document name))

-- the namespace of a prefix: the one that was declared last
abbrev pub lookup : List ℕ → List ℕ → Option Span → List Binding → Option Span
lookup document prefix found [] = found
lookup document prefix found (b ∷ bs) =
    lookup document prefix
    (if bytes_eq (slice_of document b.prefix) prefix then Some b.uri else found) bs

-- the namespace declaration that an attribute is
abbrev pub binding_named : List ℕ → Attribute → Option Binding
binding_named name a =
    if bytes_eq name (codes "xmlns")
    then Some (record { prefix = record { start = 0; end = 0 }; uri = a.value }) else
    (if begins name (codes "xmlns:")
    then Some (record {
      prefix = record { start = a.name.start + 6; end = a.name.end };
      uri = a.value;
    })
    else None)

abbrev pub binding_of : List ℕ → Attribute → Option Binding
binding_of document a = binding_named (slice_of document a.name) a

-- the declarations with one more, if there is one
abbrev pub with_binding : List Binding → Option Binding → List Binding
with_binding bs None = bs
with_binding bs (Some b) = bs ++ b ∷ []

-- the declarations with those among attributes
abbrev pub with_bindings : List ℕ → List Binding → List Attribute → List Binding
with_bindings document bs [] = bs
with_bindings document bs (a ∷ as') =
    with_bindings document (with_binding bs (binding_of document a)) as'

-- the name whose prefix has this namespace; without a prefix it may have none
abbrev pub resolved : QName → Option Span → Result Name Fault
resolved qname (Some uri) = Ok (record { prefix = qname.prefix; uri = uri; local = qname.local })
resolved qname None =
    if qname.prefix.start == qname.prefix.end
    then Ok (record {
      prefix = qname.prefix;
      uri = record { start = 0; end = 0 };
      local = qname.local;
    })
    else Err UndeclaredPrefix

unfoldable pub resolve : List ℕ → List Binding → Span → Result Name Fault
resolve document bs name =
    let qname = qname_of document name in
    resolved qname (lookup document (slice_of document qname.prefix) None bs)
