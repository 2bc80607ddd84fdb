-- What is promised of a file without its metadata.
use Rattle.std.specs.List.{Contains}
use Rattle.std.specs.Prelude.{◌≡◌, ◌⊎◌, ◌==◌, ℕ, List, length, take, drop, All, Bool, false, Option, None, Some, if◌then◌else◌}
use Rattle.exif_inventory.specs.declared.kind.Kind.{Kind}
use Rattle.exif_inventory.specs.declared.kind.Kind.TheVariants as kind
use Rattle.exif_inventory.specs.declared.part.Part.{Part}
use Rattle.exif_inventory_heif.specs.Spans.{part_kind}
use Rattle.exif_inventory_heif.specs.Walks.{AreSpans}
use Rattle.exif_inventory_heif.specs.declared.role.Role.{Role}
use Rattle.exif_inventory_heif.specs.declared.role.Role.TheVariants.{ItemInfo, ItemLocation, Meta}
use Rattle.exif_inventory_heif.specs.declared.span.Span.{Span}
use Rattle.exif_blanks.specs.HeifBlanks.{blanked, described, span_blank}
use Rattle.exif_scrub.specs.HeifScrubbing.{bytes_of, stays}
use Rattle.exif_blanks.specs.declared.blank.Blank.{Blank}
use Rattle.exif_blanks.specs.declared.blank.Blank.TheVariants.{Nothing, Fields, Packet, Zeros, Free}

-- the bytes of a span become what its role asks for; those of a span that stays are as they were
abbrev pub Becomes : Bool → List ℕ → List ℕ → Span → Type 0
Becomes judged old new span =
    bytes_of span new ≡ blanked (span_blank judged span) (bytes_of span old)

-- the same of all spans of a file, which together are the file; one of another format stays
abbrev pub AllBecome : List ℕ → List ℕ → Option (List Span × Bool) → Type 0
AllBecome old new None = new ≡ old
AllBecome old new (Some (spans, judged)) =
    AreSpans 0 spans (length old) × All (Becomes judged old new) spans

-- the bytes of a part
abbrev pub part_bytes : Part → List ℕ → List ℕ
part_bytes part file = take part.len (drop part.offset file)

-- what a part of a kind is where it says nothing: an Exif item without fields, an XMP packet without
-- properties, an item of zeros; a box, which has a header, is free space
abbrev pub empty_of : Kind → Bool → Blank
empty_of kind.Exif is_item = Fields
empty_of kind.Xmp is_item = if is_item then Packet else Free
empty_of kind.Unknown is_item = if is_item then Zeros else Free
empty_of kind.ContentCredentials is_item = Free
empty_of k is_item = Nothing

-- bytes are what comes in their place
abbrev pub IsBlank : Blank → List ℕ → Type 0
IsBlank how bytes = (stays how ≡ false) × (blanked how bytes ≡ bytes)

-- a part of a file says nothing
abbrev pub IsEmpty : List ℕ → Part → Type 0
IsEmpty file part =
    IsBlank (empty_of part.kind (part.data_offset == part.offset)) (part_bytes part file)

-- a part of a file is the picture's, or says nothing, or is one of those that are answered
abbrev pub IsKnown : List ℕ → List Part → Part → Type 0
IsKnown file left part =
    (part.kind ≡ kind.Picture) ⊎ (IsEmpty file part ⊎ Contains left part)

-- so all parts of a file
abbrev pub AllKnown : List ℕ → List Part → Option (List Part) → Type 0
AllKnown file left None = ⊥
AllKnown file left (Some parts) = All (IsKnown file left) parts

-- the bytes of a span of the picture: of boxes that describe it, or list the items, without what
-- does not
abbrev pub picture_bytes : Role → List ℕ → List ℕ
picture_bytes Meta bytes = described bytes
picture_bytes ItemInfo bytes = described bytes
picture_bytes ItemLocation bytes = described bytes
picture_bytes role bytes = bytes

-- a span of the picture has these bytes
abbrev pub KeepsPicture : Bool → List ℕ → List ℕ → Span → Type 0
KeepsPicture judged old new span =
    part_kind judged span.role ≡ kind.Picture
    → bytes_of span new ≡ picture_bytes span.role (bytes_of span old)

-- so all spans of a file; one of another format stays as it is
abbrev pub PictureStays : List ℕ → List ℕ → Option (List Span × Bool) → Type 0
PictureStays old new None = new ≡ old
PictureStays old new (Some (spans, judged)) = All (KeepsPicture judged old new) spans
