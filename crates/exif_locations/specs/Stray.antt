-- Text of an XMP packet that is no value of a property.
--
-- The value of a property stands between the start tag and the end tag of one element (XMP, part 1,
-- 7.3 to 7.9). Between other tags, in front of the first one and behind the last one XML has
-- nothing but white space (XML 1.0, 2.4 and 2.8), and RDF likewise.
use Rattle.std.specs.Prelude.{ℕ, ◌==◌, ◌&&◌, ◌||◌, not, Bool, true, false, if◌then◌else◌, List, [], ◌∷◌, Option, None, Some}
use Rattle.exif_locations.specs.declared.stray.Place.{Place}
use Rattle.exif_locations.specs.declared.stray.Place.TheVariants as place

-- white space (XML 1.0, 2.3), a zero byte, and the bytes of a byte order mark in UTF-8
abbrev pub is_blank : ℕ → Bool
is_blank b =
    (b == 32) || (b == 9) || (b == 10) || (b == 13) || (b == 0)
    || (b == 239) || (b == 187) || (b == 191)

-- whether a tag that begins with this byte is no start tag: `/`, `?`, `!`
abbrev pub is_other_tag : ℕ → Bool
is_other_tag b = (b == 47) || (b == 63) || (b == 33)

-- what a byte of text makes of the place; none if it is text that is no value
abbrev pub text_step : Bool → Bool → ℕ → Option Place
text_step holds filled b =
    if b == 60 then Some (place.Opening filled)
    else if is_blank b then Some (place.Between holds filled)
    else if holds then Some (place.Between holds true) else None

-- the first byte of a tag; text in front of it is a value if the tag is an end tag
abbrev pub opening_step : Bool → ℕ → Option Place
opening_step filled b =
    if b == 47 then Some (place.Tag false false)
    else if filled then None else Some (place.Tag (not (is_other_tag b)) false)

-- a byte within a tag: `>` ends it, and `/` in front of that makes an element without content
abbrev pub tag_step : Bool → Bool → ℕ → Place
tag_step starts slash b =
    if b == 62 then place.Between (starts && not slash) false else place.Tag starts (b == 47)

-- the place behind a byte; none where it is text that is no value
abbrev pub next_place : Place → ℕ → Option Place
next_place (place.Between holds filled) b = text_step holds filled b
next_place (place.Opening filled) b = opening_step filled b
next_place (place.Tag starts slash) b = Some (tag_step starts slash b)

-- whether bytes that end here end with text that no end tag follows
abbrev pub ends_with_text : Place → Bool
ends_with_text (place.Between holds filled) = filled
ends_with_text (place.Opening filled) = filled
ends_with_text (place.Tag starts slash) = false

-- whether there is such text from a place on, if there is one
abbrev pub is_stray : (Place → Bool) → Option Place → Bool
is_stray later (Some at) = later at
is_stray later None = true

-- whether such text is among bytes from this place on
abbrev pub has_stray_from : List ℕ → Place → Bool
has_stray_from [] at = ends_with_text at
has_stray_from (b ∷ bytes) at = is_stray (has_stray_from bytes) (next_place at b)

-- whether a packet has such text
abbrev pub has_stray_text : List ℕ → Bool
has_stray_text bytes = has_stray_from bytes (place.Between false false)
