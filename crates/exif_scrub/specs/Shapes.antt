-- The types and counts of the values that describe a picture (TIFF 6.0, section 8 and Appendix A;
-- Adobe Photoshop TIFF Technical Notes; ICC.1:2022, B.5).
use Rattle.std.specs.Prelude.{ℕ, ◌*◌, ◌^◌, nat_le, not, ◌==◌, ◌&&◌, ◌||◌, Bool, true, false, List, Option, Some, None, Result, Ok, Err, zero, suc, ◌+◌, if◌then◌else◌}
use Rattle.exif_base.specs.Bytes.{Reading}
use Rattle.exif_scrub.specs.Entries.{count_of, entry_named, item_at, kind_of}
use Rattle.exif_scrub.specs.Keeping.{◌>>=◌, number_in}
use Rattle.exif_scrub.specs.Tags.{describes_picture, in_range, size_of_type}
use Rattle.exif_scrub.specs.declared.tiff.fault.Fault.{Fault}
use Rattle.exif_scrub.specs.declared.tiff.fault.Fault.TheVariants.{OddTag}

-- whether a tag has fractions: resolutions, colours, coefficients and reference values
abbrev pub is_fraction : ℕ → Bool
is_fraction tag =
    in_range 282 283 tag || in_range 318 319 tag || (tag == 529) || (tag == 532)

-- whether a tag has several numbers of 16 bits
abbrev pub is_short : ℕ → Bool
is_short tag =
    (tag == 258) || in_range 280 281 tag || (tag == 291) || (tag == 297) || (tag == 301)
    || in_range 320 321 tag || in_range 338 339 tag || (tag == 342) || (tag == 530)

-- whether a tag may have values of a type: JPEG tables and a colour profile of any, the extremes of
-- samples of any but texts, the range of dots bytes or numbers of 16 bits, directories offsets; all
-- others have numbers of 16 bits or, where there is one alone, of 32
abbrev pub type_fits : ℕ → ℕ → Bool
type_fits tag kind =
    if (tag == 347) || (tag == 34675) then true else
    if in_range 340 341 tag then not ((kind == 2) || (kind == 7)) else
    if is_fraction tag then kind == 5 else
    if tag == 336 then (kind == 1) || (kind == 3) else
    if is_short tag then kind == 3 else
    if tag == 330 then (kind == 4) || (kind == 13) else (kind == 3) || (kind == 4)

-- whether the count of a tag's values is that of strips, tiles or directories, which are visited,
-- or the length of a stream or profile
abbrev pub is_visited : ℕ → Bool
is_visited tag =
    (tag == 273) || (tag == 279) || in_range 324 325 tag || (tag == 330) || (tag == 347)
    || (tag == 34675)

-- whether a tag has a value for each sample of a pixel
abbrev pub is_by_sample : ℕ → Bool
is_by_sample tag = (tag == 258) || in_range 280 281 tag || in_range 338 341 tag

-- whether a tag has up to three values for each colour of so many bits
abbrev pub is_by_color : ℕ → Bool
is_by_color tag = (tag == 291) || (tag == 301) || (tag == 320)

-- how many values a tag has that does not depend on the picture: pages, white point, halftones and
-- subsampling two, coefficients three, chromaticities, transfer range and reference values six
abbrev pub most_values : ℕ → ℕ
most_values tag =
    if (tag == 297) || (tag == 318) || (tag == 321) || (tag == 530) then 2 else
    if tag == 529 then 3 else if (tag == 319) || (tag == 342) || (tag == 532) then 6 else 1

-- whether a tag may have so many values, in a picture of so many samples with so many bits
abbrev pub items_fit : ℕ → ℕ → ℕ → ℕ → Bool
items_fit tag samples bits count =
    if is_visited tag then true else
    if is_by_sample tag then nat_le count samples else
    if tag == 336 then nat_le count (2 * samples) else
    if is_by_color tag then nat_le bits 16 && nat_le count (3 * 2 ^ bits)
    else nat_le count (most_values tag)

-- the first number of a tag, or another one where it is not there
abbrev pub number_by : Reading → List ℕ → ℕ → Option ℕ → Result ℕ Fault
number_by number old other None = Ok other
number_by number old other (Some e) = item_at number old e 0

abbrev pub number_or : Reading → List ℕ → ℕ → ℕ → ℕ → ℕ → Result ℕ Fault
number_or number old count first tag other =
    entry_named number old tag count first >>= number_by number old other

-- whether an entry is this one
abbrev pub is_entry : ℕ → Option ℕ → Bool
is_entry e None = false
is_entry e (Some first) = first == e

-- what does not fit is refused
abbrev pub if_fits : Bool → Result Unit Fault
if_fits fits = if fits then Ok tt else Err OddTag

-- an entry of a type, among so many: refused where another one before it has its tag, or its values
-- are not those that the tag has
abbrev pub value_shaped : Reading → List ℕ → ℕ → ℕ → ℕ → ℕ → ℕ → Result Unit Fault
value_shaped number old count first e tag kind = do
  items ← count_of number old e
  samples ← number_or number old count first 277 1
  bits ← number_or number old count first 258 1
  found ← entry_named number old tag count first
  if_fits (type_fits tag kind && items_fit tag samples bits items && is_entry e found)

-- the same where it stays
abbrev pub entry_shaped : Reading → List ℕ → Bool → ℕ → ℕ → ℕ → Result Unit Fault
entry_shaped number old keeps_orientation count first e = do
  tag ← number_in number 2 old e
  kind ← kind_of number old e
  if not (describes_picture keeps_orientation tag) || (size_of_type kind == 0) then Ok tt
      else value_shaped number old count first e tag kind

-- the same of so many entries from e on
abbrev pub entries_shaped : Reading → List ℕ → Bool → ℕ → ℕ → ℕ → ℕ → Result Unit Fault
entries_shaped number old keeps_orientation count first zero e = Ok tt
entries_shaped number old keeps_orientation count first (suc left) e =
    entry_shaped number old keeps_orientation count first e
    >>= λ u. entries_shaped number old keeps_orientation count first left (e + 12)
