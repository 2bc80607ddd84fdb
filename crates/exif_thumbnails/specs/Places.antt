-- Where a thumbnail is (Exif 2.32, section 4.5.8), and what is read there.
use Rattle.std.specs.Prelude.{◌≡◌, ◌<◌, ◌≤◌, ℕ, ◌+◌, nat_le, if◌then◌else◌, List, length, take, drop, Option, Some, None}
use Rattle.std.specs.Option.{option_and_then}
use Rattle.exif_table.specs.declared.context.Context.TheVariants.{Tiff}
use Rattle.exif_text.specs.declared.ifd.In.{In}
use Rattle.exif_types.specs.Contents.{ExifContents}
use Rattle.exif_types.specs.Lookup.{last_named}
use Rattle.exif_types.specs.Numbers.{number_in}
use Rattle.exif_types.specs.declared.field.Field.{Field}
use Rattle.exif_types.specs.declared.tag.Tag.{Tag}
use Rattle.exif_thumbnails.specs.declared.place.Place.{Place}
use Rattle.exif_thumbnails.specs.declared.reading.Thumbnail.{Thumbnail}
use Rattle.exif_thumbnails.specs.declared.reading.Thumbnail.TheVariants.{CutOff, Item, Jpeg, TooLong}

-- the most bytes of a thumbnail that are read: 1 MiB
abbrev pub largest_thumbnail : ℕ
largest_thumbnail = 1048576

-- the second directory of the chain
abbrev pub second : In
second = record { 0 = 1 }

-- the number that a field of it holds
abbrev pub number_named : List Field → Tag → Option ℕ
number_named fields tag =
    option_and_then (λ field. number_in field.value 0) (last_named fields tag second)

-- what its tags 0x201 and 0x202 say
abbrev pub place_in : ExifContents → Option Place
place_in exif =
    option_and_then (λ offset. option_and_then (λ len. Some (record { offset = offset; len = len }))
    (number_named exif.fields (record { 0 = Tiff; 1 = 0x202 })))
    (number_named exif.fields (record { 0 = Tiff; 1 = 0x201 }))

-- the bytes at a place, if they are there
abbrev pub held_at : List ℕ → Place → Option (List ℕ)
held_at bytes place =
    if nat_le (place.offset + place.len) (length bytes)
    then Some (take place.len (drop place.offset bytes)) else None

-- the thumbnail in Exif data that are held whole
abbrev pub thumbnail_in : ExifContents → Option (List ℕ)
thumbnail_in exif = option_and_then (held_at exif.buf) (place_in exif)

-- the answer of a place of a file: its bytes, if they are not too many, and all there
abbrev pub IsReadAt : Place → List ℕ → Thumbnail → Type 0
IsReadAt place bytes (Jpeg jpeg) =
    (place.len ≤ largest_thumbnail) × (place.offset + place.len ≤ length bytes)
    × (jpeg.items ≡ take place.len (drop place.offset bytes))
IsReadAt place bytes TooLong = largest_thumbnail < place.len
IsReadAt place bytes CutOff =
    (place.len ≤ largest_thumbnail) × (length bytes < place.offset + place.len)
IsReadAt place bytes (Item coding) = ⊥
