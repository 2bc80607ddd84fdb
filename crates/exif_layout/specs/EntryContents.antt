-- What the values of entries are made of, as the program holds it: their types, their counts and
-- their lengths, and the same in the words of images (TIFF 6.0, section 2, "IFD Entry").
use Rattle.std.specs.Prelude.{ℕ, ◌≡◌, ◌*◌, false, List, [], ◌∷◌, length, map, ⊤}
use denote.Ref.{Bor}
use Rattle.exif_layout.specs.Slots as format
use Rattle.exif_layout.specs.declared.content.Content.{Content}
use Rattle.exif_layout.specs.declared.content.Content.TheVariants.{Known, OneShort, OneLong, OffsetsOf, LengthsOf, OffsetOf}
use Rattle.exif_types.specs.declared.value.Value.TheVariants.{Short, Long}
use Rattle.exif_layout.specs.Encoding.{moved_to}
use Rattle.exif_types.specs.ValueTypes.{type_number, count_of}
use Rattle.exif_text.specs.FieldTypes.{unit}
use Rattle.exif_layout.specs.Refused.{is_unknown}
use Rattle.exif_layout.specs.Views.{blocks_of}

-- how long borrowed blocks are
abbrev pub lens : List (Bor (List ℕ)) → List ℕ
lens blocks = map length (blocks_of blocks)

-- where the value comes from, in the words of images
abbrev pub symbol_of : Content → format.Content
symbol_of (Known value) = format.Known (moved_to 0 value)
symbol_of (OneShort x) = format.Known (Short (x ∷ []))
symbol_of (OneLong x) = format.Known (Long (x ∷ []))
symbol_of (OffsetsOf kind blocks) = format.OffsetsOf kind (lens blocks.now)
symbol_of (LengthsOf kind blocks) = format.LengthsOf kind (lens blocks.now)
symbol_of (OffsetOf context) = format.OffsetOf context

-- the number of the value's type
abbrev pub content_type : Content → ℕ
content_type (Known value) = type_number value
content_type (OneShort x) = 3
content_type (OneLong x) = 4
content_type (OffsetsOf kind blocks) = 4
content_type (LengthsOf kind blocks) = 4
content_type (OffsetOf context) = 4

-- how many members the value has, which is the count of its entry
abbrev pub content_count : Content → ℕ
content_count (Known value) = count_of value
content_count (OneShort x) = 1
content_count (OneLong x) = 1
content_count (OffsetsOf kind blocks) = length blocks.now
content_count (LengthsOf kind blocks) = length blocks.now
content_count (OffsetOf context) = 1

-- how many bytes the value has: those of one member, times how many there are
abbrev pub content_size : Content → ℕ
content_size content = unit (content_type content) * content_count content

-- the value's type is known
abbrev pub IsKnownContent : Content → Type 0
IsKnownContent (Known value) = is_unknown value ≡ false
IsKnownContent (OneShort x) = ⊤
IsKnownContent (OneLong x) = ⊤
IsKnownContent (OffsetsOf kind blocks) = ⊤
IsKnownContent (LengthsOf kind blocks) = ⊤
IsKnownContent (OffsetOf context) = ⊤
