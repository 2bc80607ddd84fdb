-- Worked examples: parts of files, and what is erased of them.
use Rattle.std.specs.Prelude.{◌≡◌, refl, ℕ, List, [], ◌∷◌, ◌++◌, codes, replicate}
use Rattle.exif_inventory.specs.declared.kind.Kind.TheVariants as kind
use Rattle.exif_inventory.specs.declared.part.Part.{Part}
use Rattle.exif_locations.specs.XmpErasing.{erased_by, step_at}
use Rattle.exif_locations.specs.XmpNames.{is_location, is_word}
use Rattle.exif_locations.specs.XmpTokens.{attribute_at, content_at, markup_at, opening_at, tag_at}
use Rattle.exif_privacy.specs.Erasing.{found, parts_erased, stays_for}
use Rattle.exif_privacy.specs.Parts.{part_answer, part_reasons}
use Rattle.exif_privacy.specs.Portions.{joined, joined_len, run_len}
use Rattle.exif_privacy.specs.declared.remaining.Reason.TheVariants.{NotJudged, StillThere}
use Rattle.exif_locations.specs.declared.unread.Unread.TheVariants.{Keep}

-- a comment of zeros holds nothing, another one may hold a location
zeros_hold_nothing : part_answer Keep kind.Comment (0 ∷ 0 ∷ []) ≡ (0 ∷ 0 ∷ [], [])
zeros_hold_nothing = refl

others_may : part_reasons Keep kind.Comment (0 ∷ 7 ∷ []) ≡ NotJudged ∷ []
others_may = refl

-- a JFIF header of 14 bytes holds nothing, what follows them may, and so may a thumbnail, a caption
-- of Photoshop, and Adobe's segment with more than 12 bytes
header_holds_nothing : part_reasons Keep kind.Jfif (replicate 14 9) ≡ []
header_holds_nothing = refl

more_may : part_reasons Keep kind.Jfif (replicate 15 9) ≡ NotJudged ∷ []
more_may = refl

thumbnail_may : part_reasons Keep kind.JfifThumbnail (9 ∷ []) ≡ NotJudged ∷ []
thumbnail_may = refl

caption_may : part_reasons Keep kind.PhotoshopOther (9 ∷ []) ≡ NotJudged ∷ []
caption_may = refl

adobe_may : part_reasons Keep kind.Adobe (replicate 13 9) ≡ NotJudged ∷ []
adobe_may = refl

-- the data of a portion: a GUID of this letter, the length of the packet, and the offset in it
abbrev held : ℕ → ℕ → ℕ → List ℕ → List ℕ
held letter len offset bytes =
    replicate 32 letter ++ 0 ∷ 0 ∷ 0 ∷ len ∷ 0 ∷ 0 ∷ 0 ∷ offset ∷ bytes

-- a part of a file with these data of its first picture
abbrev part : ℕ → ℕ → Part
part from len = record {
  kind = kind.ExtendedXmp;
  picture = 0;
  offset = from;
  len = len;
  data_offset = from;
  data_len = len;
}

-- two portions of a packet, "<a x:City='Basel'/>", of 19 bytes
abbrev file : List ℕ
file = held 65 19 0 (codes "<a x:City='Ba") ++ held 65 19 13 (codes "sel'/>")

abbrev parts : List Part
parts = part 0 53 ∷ part 53 46 ∷ []

both : joined_len file parts ≡ 2
unfolding run_len
both = refl

whole : joined parts file ≡ codes "<a x:City='Basel'/>"
whole = refl

-- without its location, and what is found in that, and in the old file
abbrev new : List ℕ
new = held 65 19 0 (codes "<a           ") ++ held 65 19 13 (codes "    />")

erased_in_both : parts_erased Keep 0 parts file ≡ new
unfolding run_len erased_by step_at content_at markup_at opening_at tag_at attribute_at is_location is_word
erased_in_both = refl

nothing_found : found Keep new parts ≡ []
unfolding run_len erased_by step_at content_at markup_at opening_at tag_at attribute_at is_location is_word
nothing_found = refl

found_before : found Keep file parts
    ≡ stays_for (part 0 53) StillThere ∷ stays_for (part 53 46) StillThere ∷ []
unfolding run_len erased_by step_at content_at markup_at opening_at tag_at attribute_at is_location is_word
found_before = refl

-- the second one alone is no packet, nor are both in another order, or of two packets
second_alone : joined_len file (part 53 46 ∷ []) ≡ 0
unfolding run_len
second_alone = refl

other_order : joined_len file (part 53 46 ∷ part 0 53 ∷ []) ≡ 0
unfolding run_len
other_order = refl

abbrev two_packets : List ℕ
two_packets = held 65 19 0 (codes "<a x:City='Ba") ++ held 66 19 13 (codes "sel'/>")

other_packet : joined_len two_packets parts ≡ 0
unfolding run_len
other_packet = refl

-- one that ends too early, and one that is longer than it is to be
cut : joined_len file (part 0 53 ∷ []) ≡ 0
unfolding run_len
cut = refl

abbrev shorter : List ℕ
shorter = held 65 18 0 (codes "<a x:City='Ba") ++ held 65 18 13 (codes "sel'/>")

longer : joined_len shorter parts ≡ 0
unfolding run_len
longer = refl

-- a part of a packet that is not whole may hold a location
part_of_one : found Keep file (part 0 53 ∷ []) ≡ stays_for (part 0 53) NotJudged ∷ []
unfolding run_len
part_of_one = refl
