-- The path of a property (XMP Specification, Part 1, 6 and 7; the notation of Adobe's XMP Toolkit).
use Rattle.std.specs.Prelude.{ℕ, if◌then◌else◌, ◌==◌, List, [], ◌∷◌, ◌++◌, length}
use Rattle.std.specs.Fmt.{decimal}
use Rattle.exif_xml.specs.declared.name.Name.{Name}
use Rattle.exif_xml.specs.declared.span.Span.{Span}
use Rattle.exif_xml.specs.Prefixes.{usual_prefix}
use Rattle.exif_xml.specs.Scans.{slice_of}
use Rattle.exif_xmp.specs.declared.frame.Frame.{Frame}
use Rattle.exif_xmp.specs.declared.path.Step.{Step}
use Rattle.exif_xmp.specs.declared.path.Step.TheVariants.{Nothing, Named, Item}

-- an index of an array: `[2]`
abbrev pub with_index : List ℕ → ℕ → List ℕ
with_index path n = path ++ (91 ∷ (decimal n ++ (93 ∷ [])))

-- `/` between two names
abbrev pub separator : List ℕ → List ℕ
separator path = if length path == 0 then [] else 47 ∷ []

-- the usual prefix of the namespace, or else that of the packet; `:`; the local name
abbrev pub name_text : List ℕ → Name → List ℕ
name_text packet name =
    usual_prefix (slice_of packet name.uri) (slice_of packet name.prefix)
    ++ (58 ∷ slice_of packet name.local)

abbrev pub with_name : List ℕ → List ℕ → Name → List ℕ
with_name packet path name = path ++ (separator path ++ name_text packet name)

abbrev pub with_step : List ℕ → List ℕ → Step → List ℕ
with_step packet path Nothing = path
with_step packet path (Named name) = with_name packet path name
with_step packet path (Item n) = with_index path n

-- a path with the steps of open elements
abbrev pub path_from : List ℕ → List ℕ → List Frame → List ℕ
path_from packet path [] = path
path_from packet path (f ∷ fs) = path_from packet (with_step packet path f.step) fs

-- the path of a property in open elements, with the steps of the innermost one and of an attribute
unfoldable pub path_of : List ℕ → List Frame → Step → Step → List ℕ
path_of packet frames top last =
    with_step packet (with_step packet (path_from packet [] frames) top) last

-- the namespace of a step, or else another one
abbrev pub uri_or : Step → Span → Span
uri_or Nothing other = other
uri_or (Named name) other = name.uri
uri_or (Item n) other = other

-- the namespace of the outermost property
abbrev pub root_from : List Frame → Span → Span
root_from [] other = other
root_from (f ∷ fs) other = uri_or f.step (root_from fs other)

unfoldable pub root_of : List Frame → Step → Step → Span
root_of frames top last =
    root_from frames (uri_or top (uri_or last (record { start = 0; end = 0 })))
