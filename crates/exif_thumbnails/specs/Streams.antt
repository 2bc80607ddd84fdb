-- JPEG streams that are previews (ITU-T T.81, B.1.1.2 and B.2.1). There is no public standard of RW2:
-- what is said of it is what its files hold.
use Rattle.std.specs.Prelude.{◌≡◌, ◌<◌, ◌≤◌, ℕ, nat_eq, Bool, true, false, if◌then◌else◌, List, [], ◌∷◌, length, Option, Some, None}
use Rattle.std.specs.List.{starts_with}
use Rattle.std.specs.Option.{option_and_then}
use Rattle.exif_table.specs.declared.context.Context.TheVariants.{Tiff}
use Rattle.exif_text.specs.declared.ifd.In.{In}
use Rattle.exif_types.specs.Lookup.{last_named}
use Rattle.exif_types.specs.declared.field.Field.{Field}
use Rattle.exif_types.specs.declared.value.Value.{Value}
use Rattle.exif_types.specs.declared.value.Value.TheVariants.{Undefined}
use Rattle.exif_thumbnails.specs.Places.{largest_thumbnail}
use Rattle.exif_thumbnails.specs.declared.reading.Thumbnail.{Thumbnail}
use Rattle.exif_thumbnails.specs.declared.reading.Thumbnail.TheVariants.{CutOff, Item, Jpeg, TooLong}

-- whether bytes begin as a JPEG stream does: SOI, and the first byte of a marker
abbrev pub begins_stream : List ℕ → Bool
begins_stream bytes = starts_with nat_eq bytes (0xff ∷ 0xd8 ∷ 0xff ∷ [])

-- the JPEG stream that a value is
abbrev pub stream_in : Value → Option (List ℕ)
stream_in (Undefined bytes offset) = if begins_stream bytes then Some bytes else None
stream_in value = None

-- the first directory of the chain
abbrev pub first : In
first = record { 0 = 0 }

-- that of tag 0x2e of the first directory
abbrev pub jpg_from_raw : List Field → Option (List ℕ)
jpg_from_raw fields =
    option_and_then (λ field. stream_in field.value)
    (last_named fields (record { 0 = Tiff; 1 = 0x2e }) first)

-- the answer of a stream: itself, if it is not too long
abbrev pub IsWhole : List ℕ → Thumbnail → Type 0
IsWhole stream (Jpeg jpeg) = (length stream ≤ largest_thumbnail) × (jpeg.items ≡ stream)
IsWhole stream TooLong = largest_thumbnail < length stream
IsWhole stream CutOff = ⊥
IsWhole stream (Item coding) = ⊥

-- whether what is at the place of a preview is the answer, where the shortest are looked at first
abbrev pub ends_search : Thumbnail → Bool
ends_search (Jpeg jpeg) = begins_stream jpeg.items
ends_search TooLong = true
ends_search CutOff = false
ends_search (Item coding) = false
