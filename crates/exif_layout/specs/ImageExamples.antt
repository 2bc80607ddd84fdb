-- Worked examples: the definitions compute the images of small groups, and for which nothing is
-- written.
use Rattle.std.specs.Prelude.{Some, None, negsuc, pos, ℕ, ◌≡◌, refl, List, [], ◌∷◌, length, map, replicate, codes, true, false}
use Rattle.std.specs.List.{range_with_len}
use Rattle.exif_base.specs.declared.endian.Order.TheVariants.{Big, Little}
use Rattle.exif_types.specs.declared.value.Value.TheVariants.{Byte, Ascii, Short, Long, Rational, SByte, Undefined, SLong, Unknown}
use Rattle.exif_table.specs.declared.context.Context.TheVariants.{Tiff, Exif, Gps, Interop}
use Rattle.exif_types.specs.declared.field.Field.{Field}
use Rattle.exif_tiff.specs.declared.fault.Fault.TheVariants.{TooManyDirectories}
use Rattle.exif_layout.specs.declared.write_fault.WriteFault.TheVariants.{NoDirectory, EmptyDirectory, TooManyFields, UnknownType}
use Rattle.exif_tiff.specs.Trace.{ordered_trace}
use Rattle.exif_tiff.specs.Answers.{Refused, Whole, Partial, raw_answer}
use Rattle.exif_layout.specs.Groups.{Group, empty_group, entry_of, pushed, strips_set, tiles_set, jpeg_set}
use Rattle.exif_layout.specs.Slots.{tiff_slots, exif_slots, gps_slots, interop_slots}
use Rattle.exif_layout.specs.Offsets.{tiff_offset, exif_offset, gps_offset, interop_offset, tiff_values, exif_values, gps_values, interop_values, strips_offset, tiles_offset, jpeg_offset, draft_end}
use Rattle.exif_layout.specs.Image.{image, draft_parts}
use Rattle.exif_layout.specs.Flat.{field_of, flat}
use Rattle.exif_layout.specs.Refused.{write_fault, group_fault}
use Rattle.exif_layout.specs.Rewriting.{rewritten}
use Rattle.exif_layout.specs.Calls.{Call, Push, SetJpeg, made, directories, group_made}
use Rattle.exif_layout.specs.Scrubbing.{scrubbed}

abbrev description : ℕ → List ℕ → Field
description ifd text = field_of Tiff 0x10e ifd (Ascii (text ∷ []))

-- one field, in both orders
abbrev described : List Group
described = pushed (description 0 (codes "Sample")) []

described_big : image Big described ≡ 77 ∷ 77 ∷ 0 ∷ 42 ∷ 0 ∷ 0 ∷ 0 ∷ 8 ∷ 0 ∷ 1 ∷ 1 ∷ 14 ∷ 0 ∷ 2 ∷ 0 ∷ 0 ∷ 0 ∷ 7 ∷ 0 ∷ 0 ∷ 0 ∷ 26 ∷ 0 ∷ 0 ∷ 0 ∷ 0 ∷ 83 ∷ 97 ∷ 109 ∷ 112 ∷ 108 ∷ 101 ∷ 0 ∷ []
unfolding image draft_parts tiff_slots exif_slots gps_slots interop_slots tiff_offset exif_offset gps_offset interop_offset tiff_values exif_values gps_values interop_values strips_offset tiles_offset jpeg_offset draft_end
described_big = refl

described_little : image Little described ≡ 73 ∷ 73 ∷ 42 ∷ 0 ∷ 8 ∷ 0 ∷ 0 ∷ 0 ∷ 1 ∷ 0 ∷ 14 ∷ 1 ∷ 2 ∷ 0 ∷ 7 ∷ 0 ∷ 0 ∷ 0 ∷ 26 ∷ 0 ∷ 0 ∷ 0 ∷ 0 ∷ 0 ∷ 0 ∷ 0 ∷ 83 ∷ 97 ∷ 109 ∷ 112 ∷ 108 ∷ 101 ∷ 0 ∷ []
unfolding image draft_parts tiff_slots exif_slots gps_slots interop_slots tiff_offset exif_offset gps_offset interop_offset tiff_values exif_values gps_values interop_values strips_offset tiles_offset jpeg_offset draft_end
described_little = refl

described_read : raw_answer false None (image Little described) ≡ Whole (description 0 (codes "Sample") ∷ [])
unfolding raw_answer ordered_trace image draft_parts tiff_slots exif_slots gps_slots interop_slots tiff_offset exif_offset gps_offset interop_offset tiff_values exif_values gps_values interop_values strips_offset tiles_offset jpeg_offset draft_end
described_read = refl

-- all four kinds of directories, and a thumbnail in the second of the chain
abbrev four_kinds : List Group
four_kinds = jpeg_set (codes "JPEG") 1
    (pushed (field_of Interop 1 0 (Ascii (codes "ABC" ∷ [])))
    (pushed (field_of Gps 0 0 (Byte (2 ∷ 3 ∷ 0 ∷ 0 ∷ [])))
    (pushed (field_of Exif 0x9000 0 (Undefined (codes "0231") 0))
    (pushed (description 0 (codes "Sample")) []))))

four_kinds_big : image Big four_kinds ≡ 77 ∷ 77 ∷ 0 ∷ 42 ∷ 0 ∷ 0 ∷ 0 ∷ 8 ∷ 0 ∷ 3 ∷ 1 ∷ 14 ∷ 0 ∷ 2 ∷ 0 ∷ 0 ∷ 0 ∷ 7 ∷ 0 ∷ 0 ∷ 0 ∷ 116 ∷ 135 ∷ 105 ∷ 0 ∷ 4 ∷ 0 ∷ 0 ∷ 0 ∷ 1 ∷ 0 ∷ 0 ∷ 0 ∷ 50 ∷ 136 ∷ 37 ∷ 0 ∷ 4 ∷ 0 ∷ 0 ∷ 0 ∷ 1 ∷ 0 ∷ 0 ∷ 0 ∷ 80 ∷ 0 ∷ 0 ∷ 0 ∷ 124 ∷ 0 ∷ 2 ∷ 144 ∷ 0 ∷ 0 ∷ 7 ∷ 0 ∷ 0 ∷ 0 ∷ 4 ∷ 48 ∷ 50 ∷ 51 ∷ 49 ∷ 160 ∷ 5 ∷ 0 ∷ 4 ∷ 0 ∷ 0 ∷ 0 ∷ 1 ∷ 0 ∷ 0 ∷ 0 ∷ 98 ∷ 0 ∷ 0 ∷ 0 ∷ 0 ∷ 0 ∷ 1 ∷ 0 ∷ 0 ∷ 0 ∷ 1 ∷ 0 ∷ 0 ∷ 0 ∷ 4 ∷ 2 ∷ 3 ∷ 0 ∷ 0 ∷ 0 ∷ 0 ∷ 0 ∷ 0 ∷ 0 ∷ 1 ∷ 0 ∷ 1 ∷ 0 ∷ 2 ∷ 0 ∷ 0 ∷ 0 ∷ 4 ∷ 65 ∷ 66 ∷ 67 ∷ 0 ∷ 0 ∷ 0 ∷ 0 ∷ 0 ∷ 83 ∷ 97 ∷ 109 ∷ 112 ∷ 108 ∷ 101 ∷ 0 ∷ 0 ∷ 0 ∷ 2 ∷ 2 ∷ 1 ∷ 0 ∷ 4 ∷ 0 ∷ 0 ∷ 0 ∷ 1 ∷ 0 ∷ 0 ∷ 0 ∷ 154 ∷ 2 ∷ 2 ∷ 0 ∷ 4 ∷ 0 ∷ 0 ∷ 0 ∷ 1 ∷ 0 ∷ 0 ∷ 0 ∷ 4 ∷ 0 ∷ 0 ∷ 0 ∷ 0 ∷ 74 ∷ 80 ∷ 69 ∷ 71 ∷ []
unfolding image draft_parts tiff_slots exif_slots gps_slots interop_slots tiff_offset exif_offset gps_offset interop_offset tiff_values exif_values gps_values interop_values strips_offset tiles_offset jpeg_offset draft_end
four_kinds_big = refl

four_kinds_little_length : length (image Little four_kinds) ≡ 158
unfolding image draft_parts tiff_slots exif_slots gps_slots interop_slots tiff_offset exif_offset gps_offset interop_offset tiff_values exif_values gps_values interop_values strips_offset tiles_offset jpeg_offset draft_end
four_kinds_little_length = refl

abbrev four_kinds_fields : List Field
four_kinds_fields =
    description 0 (codes "Sample") ∷ field_of Exif 0x9000 0 (Undefined (codes "0231") 0x3c) ∷ field_of Interop 1 0 (Ascii (codes "ABC" ∷ []))
    ∷ field_of Gps 0 0 (Byte (2 ∷ 3 ∷ 0 ∷ 0 ∷ [])) ∷ field_of Tiff 0x201 1 (Long (154 ∷ [])) ∷ field_of Tiff 0x202 1 (Long (4 ∷ [])) ∷ []

four_kinds_read : raw_answer false None (image Big four_kinds) ≡ Whole four_kinds_fields
unfolding raw_answer ordered_trace image draft_parts tiff_slots exif_slots gps_slots interop_slots tiff_offset exif_offset gps_offset interop_offset tiff_values exif_values gps_values interop_values strips_offset tiles_offset jpeg_offset draft_end
four_kinds_read = refl

four_kinds_flat : flat four_kinds ≡ four_kinds_fields
unfolding flat tiff_slots exif_slots gps_slots interop_slots tiff_offset exif_offset gps_offset interop_offset tiff_values exif_values gps_values interop_values strips_offset tiles_offset jpeg_offset draft_end
four_kinds_flat = refl

four_kinds_written : write_fault four_kinds ≡ None
unfolding write_fault group_fault tiff_slots exif_slots gps_slots interop_slots tiff_offset exif_offset gps_offset interop_offset tiff_values exif_values gps_values interop_values strips_offset tiles_offset jpeg_offset draft_end
four_kinds_written = refl

four_kinds_again : image Big (rewritten four_kinds) ≡ image Big four_kinds
unfolding flat image draft_parts tiff_slots exif_slots gps_slots interop_slots tiff_offset exif_offset gps_offset interop_offset tiff_values exif_values gps_values interop_values strips_offset tiles_offset jpeg_offset draft_end
four_kinds_again = refl

-- a strip, without pad bytes before it
abbrev one_strip : List Group
one_strip = strips_set (codes "STRIP" ∷ []) 1 (pushed (description 0 (codes "tif")) [])

one_strip_big : image Big one_strip ≡ 77 ∷ 77 ∷ 0 ∷ 42 ∷ 0 ∷ 0 ∷ 0 ∷ 8 ∷ 0 ∷ 1 ∷ 1 ∷ 14 ∷ 0 ∷ 2 ∷ 0 ∷ 0 ∷ 0 ∷ 4 ∷ 116 ∷ 105 ∷ 102 ∷ 0 ∷ 0 ∷ 0 ∷ 0 ∷ 26 ∷ 0 ∷ 2 ∷ 1 ∷ 17 ∷ 0 ∷ 4 ∷ 0 ∷ 0 ∷ 0 ∷ 1 ∷ 0 ∷ 0 ∷ 0 ∷ 56 ∷ 1 ∷ 23 ∷ 0 ∷ 4 ∷ 0 ∷ 0 ∷ 0 ∷ 1 ∷ 0 ∷ 0 ∷ 0 ∷ 5 ∷ 0 ∷ 0 ∷ 0 ∷ 0 ∷ 83 ∷ 84 ∷ 82 ∷ 73 ∷ 80 ∷ []
unfolding image draft_parts tiff_slots exif_slots gps_slots interop_slots tiff_offset exif_offset gps_offset interop_offset tiff_values exif_values gps_values interop_values strips_offset tiles_offset jpeg_offset draft_end
one_strip_big = refl

one_strip_again : image Little (rewritten one_strip) ≡ image Little one_strip
unfolding flat image draft_parts tiff_slots exif_slots gps_slots interop_slots tiff_offset exif_offset gps_offset interop_offset tiff_values exif_values gps_values interop_values strips_offset tiles_offset jpeg_offset draft_end
one_strip_again = refl

-- strips that are set and are none
abbrev no_strips : List Group
no_strips = strips_set [] 0 []

no_strips_length : length (image Big no_strips) ≡ 38
unfolding image draft_parts tiff_slots exif_slots gps_slots interop_slots tiff_offset exif_offset gps_offset interop_offset tiff_values exif_values gps_values interop_values strips_offset tiles_offset jpeg_offset draft_end
no_strips_length = refl

no_strips_read : raw_answer false None (image Big no_strips) ≡ Whole (field_of Tiff 0x111 0 (Long []) ∷ field_of Tiff 0x117 0 (Long []) ∷ [])
unfolding raw_answer ordered_trace image draft_parts tiff_slots exif_slots gps_slots interop_slots tiff_offset exif_offset gps_offset interop_offset tiff_values exif_values gps_values interop_values strips_offset tiles_offset jpeg_offset draft_end
no_strips_read = refl

-- a chain of nine directories, of which a reader follows eight
abbrev nine : List Group
nine = pushed (description 8 (codes "p")) (pushed (description 7 (codes "p")) (pushed (description 6 (codes "p")) (pushed (description 5 (codes "p")) (pushed (description 4 (codes "p"))
    (pushed (description 3 (codes "p")) (pushed (description 2 (codes "p")) (pushed (description 1 (codes "p")) (pushed (description 0 (codes "p")) []))))))))

nine_length : length (image Big nine) ≡ 170
unfolding image draft_parts tiff_slots exif_slots gps_slots interop_slots tiff_offset exif_offset gps_offset interop_offset tiff_values exif_values gps_values interop_values strips_offset tiles_offset jpeg_offset draft_end
nine_length = refl

nine_lenient : raw_answer true None (image Big nine) ≡ Partial (description 0 (codes "p") ∷ description 1 (codes "p") ∷ description 2 (codes "p") ∷ description 3 (codes "p") ∷ description 4 (codes "p") ∷ description 5 (codes "p") ∷ description 6 (codes "p") ∷ description 7 (codes "p") ∷ []) (TooManyDirectories ∷ [])
unfolding raw_answer ordered_trace image draft_parts tiff_slots exif_slots gps_slots interop_slots tiff_offset exif_offset gps_offset interop_offset tiff_values exif_values gps_values interop_values strips_offset tiles_offset jpeg_offset draft_end
nine_lenient = refl

nine_strict : raw_answer false None (image Big nine) ≡ Refused TooManyDirectories
unfolding raw_answer ordered_trace image draft_parts tiff_slots exif_slots gps_slots interop_slots tiff_offset exif_offset gps_offset interop_offset tiff_values exif_values gps_values interop_values strips_offset tiles_offset jpeg_offset draft_end
nine_strict = refl

-- equal tags keep the order in which they were pushed
abbrev twice_each : List Group
twice_each = pushed (field_of Exif 0x9000 0 (Undefined (codes "0231") 0x48)) (pushed (field_of Exif 0x9000 0 (Undefined (codes "0231") 0x48))
    (pushed (field_of Tiff 0x100 0 (Short (21 ∷ []))) (pushed (field_of Tiff 0x100 0 (Short (20 ∷ []))) [])))

twice_each_length : length (image Little twice_each) ≡ 80
unfolding image draft_parts tiff_slots exif_slots gps_slots interop_slots tiff_offset exif_offset gps_offset interop_offset tiff_values exif_values gps_values interop_values strips_offset tiles_offset jpeg_offset draft_end
twice_each_length = refl

twice_each_read : raw_answer false None (image Big twice_each) ≡ Whole (field_of Tiff 0x100 0 (Short (20 ∷ [])) ∷ field_of Tiff 0x100 0 (Short (21 ∷ []))
    ∷ field_of Exif 0x9000 0 (Undefined (codes "0231") 0x3c) ∷ field_of Exif 0x9000 0 (Undefined (codes "0231") 0x48) ∷ [])
unfolding raw_answer ordered_trace image draft_parts tiff_slots exif_slots gps_slots interop_slots tiff_offset exif_offset gps_offset interop_offset tiff_values exif_values gps_values interop_values strips_offset tiles_offset jpeg_offset draft_end
twice_each_read = refl

twice_each_again : image Little (rewritten twice_each) ≡ image Little twice_each
unfolding flat image draft_parts tiff_slots exif_slots gps_slots interop_slots tiff_offset exif_offset gps_offset interop_offset tiff_values exif_values gps_values interop_values strips_offset tiles_offset jpeg_offset draft_end
twice_each_again = refl

-- a tag of the writer's own is plain in another context
abbrev exif_offsets : List Group
exif_offsets = pushed (field_of Exif 0x111 0 (Short (5 ∷ []))) []

exif_offsets_big : image Big exif_offsets ≡ 77 ∷ 77 ∷ 0 ∷ 42 ∷ 0 ∷ 0 ∷ 0 ∷ 8 ∷ 0 ∷ 1 ∷ 135 ∷ 105 ∷ 0 ∷ 4 ∷ 0 ∷ 0 ∷ 0 ∷ 1 ∷ 0 ∷ 0 ∷ 0 ∷ 26 ∷ 0 ∷ 0 ∷ 0 ∷ 0 ∷ 0 ∷ 1 ∷ 1 ∷ 17 ∷ 0 ∷ 3 ∷ 0 ∷ 0 ∷ 0 ∷ 1 ∷ 0 ∷ 5 ∷ 0 ∷ 0 ∷ 0 ∷ 0 ∷ 0 ∷ 0 ∷ []
unfolding image draft_parts tiff_slots exif_slots gps_slots interop_slots tiff_offset exif_offset gps_offset interop_offset tiff_values exif_values gps_values interop_values strips_offset tiles_offset jpeg_offset draft_end
exif_offsets_big = refl

exif_offsets_read : raw_answer false None (image Big exif_offsets) ≡ Whole (field_of Exif 0x111 0 (Short (5 ∷ [])) ∷ [])
unfolding raw_answer ordered_trace image draft_parts tiff_slots exif_slots gps_slots interop_slots tiff_offset exif_offset gps_offset interop_offset tiff_values exif_values gps_values interop_values strips_offset tiles_offset jpeg_offset draft_end
exif_offsets_read = refl

-- in its own context it is ignored
own_offsets : pushed (field_of Tiff 0x111 0 (Short (5 ∷ []))) [] ≡ []
own_offsets = refl

-- signed numbers, in two's complement
abbrev signed : List Group
signed = pushed (field_of Tiff 0xc000 0 (SByte (negsuc 0 ∷ pos 127 ∷ []))) (pushed (field_of Tiff 0xc001 0 (SLong (negsuc 19088743 ∷ []))) [])

signed_read : raw_answer false None (image Little signed) ≡ Whole (field_of Tiff 0xc000 0 (SByte (negsuc 0 ∷ pos 127 ∷ [])) ∷ field_of Tiff 0xc001 0 (SLong (negsuc 19088743 ∷ [])) ∷ [])
unfolding raw_answer ordered_trace image draft_parts tiff_slots exif_slots gps_slots interop_slots tiff_offset exif_offset gps_offset interop_offset tiff_values exif_values gps_values interop_values strips_offset tiles_offset jpeg_offset draft_end
signed_read = refl

-- nothing to write
nothing_written : write_fault [] ≡ Some NoDirectory
unfolding write_fault group_fault tiff_slots exif_slots gps_slots interop_slots tiff_offset exif_offset gps_offset interop_offset tiff_values exif_values gps_values interop_values strips_offset tiles_offset jpeg_offset draft_end
nothing_written = refl

-- a thumbnail alone leaves the first directory empty
thumbnail_alone : write_fault (jpeg_set (codes "JPEG") 1 []) ≡ Some EmptyDirectory
unfolding write_fault group_fault tiff_slots exif_slots gps_slots interop_slots tiff_offset exif_offset gps_offset interop_offset tiff_values exif_values gps_values interop_values strips_offset tiles_offset jpeg_offset draft_end
thumbnail_alone = refl

-- a value of an unknown type
unknown_written : write_fault (pushed (field_of Tiff 0x100 0 (Unknown 65535 1 18)) []) ≡ Some UnknownType
unfolding write_fault group_fault tiff_slots exif_slots gps_slots interop_slots tiff_offset exif_offset gps_offset interop_offset tiff_values exif_values gps_values interop_values strips_offset tiles_offset jpeg_offset draft_end
unknown_written = refl

-- the first directory with a cause decides
unknown_before_empty : write_fault (jpeg_set (codes "JPEG") 2 (pushed (field_of Tiff 0x100 0 (Unknown 65535 1 18)) [])) ≡ Some UnknownType
unfolding write_fault group_fault tiff_slots exif_slots gps_slots interop_slots tiff_offset exif_offset gps_offset interop_offset tiff_values exif_values gps_values interop_values strips_offset tiles_offset jpeg_offset draft_end
unknown_before_empty = refl

empty_before_unknown : write_fault (pushed (field_of Tiff 0x100 2 (Unknown 65535 1 18)) (pushed (description 0 (codes "Sample")) [])) ≡ Some EmptyDirectory
unfolding write_fault group_fault tiff_slots exif_slots gps_slots interop_slots tiff_offset exif_offset gps_offset interop_offset tiff_values exif_values gps_values interop_values strips_offset tiles_offset jpeg_offset draft_end
empty_before_unknown = refl

-- 65,536 entries, all under one tag; the unknown type among them is not looked at
many_written : write_fault (record empty_group { tiff = replicate 65536 (entry_of (field_of Tiff 0x100 0 (Unknown 65535 1 18))) } ∷ []) ≡ Some TooManyFields
unfolding write_fault group_fault tiff_slots exif_slots gps_slots interop_slots tiff_offset exif_offset gps_offset interop_offset tiff_values exif_values gps_values interop_values strips_offset tiles_offset jpeg_offset draft_end
many_written = refl

-- tiles and a thumbnail in one directory, the thumbnail at an odd offset
abbrev two_kinds : List Group
two_kinds = jpeg_set (codes "J") 0 (tiles_set (codes "AB" ∷ codes "C" ∷ []) 0 [])

abbrev two_kinds_bytes : List ℕ
two_kinds_bytes =
    77 ∷ 77 ∷ 0 ∷ 42 ∷ 0 ∷ 0 ∷ 0 ∷ 8
    ∷ 0 ∷ 4
    ∷ 1 ∷ 68 ∷ 0 ∷ 4 ∷ 0 ∷ 0 ∷ 0 ∷ 2 ∷ 0 ∷ 0 ∷ 0 ∷ 62
    ∷ 1 ∷ 69 ∷ 0 ∷ 4 ∷ 0 ∷ 0 ∷ 0 ∷ 2 ∷ 0 ∷ 0 ∷ 0 ∷ 70
    ∷ 2 ∷ 1 ∷ 0 ∷ 4 ∷ 0 ∷ 0 ∷ 0 ∷ 1 ∷ 0 ∷ 0 ∷ 0 ∷ 81
    ∷ 2 ∷ 2 ∷ 0 ∷ 4 ∷ 0 ∷ 0 ∷ 0 ∷ 1 ∷ 0 ∷ 0 ∷ 0 ∷ 1
    ∷ 0 ∷ 0 ∷ 0 ∷ 0
    ∷ 0 ∷ 0 ∷ 0 ∷ 78 ∷ 0 ∷ 0 ∷ 0 ∷ 80
    ∷ 0 ∷ 0 ∷ 0 ∷ 2 ∷ 0 ∷ 0 ∷ 0 ∷ 1
    ∷ 65 ∷ 66 ∷ 67 ∷ 74 ∷ []

two_kinds_big : image Big two_kinds ≡ two_kinds_bytes
unfolding image draft_parts tiff_slots exif_slots gps_slots interop_slots tiff_offset exif_offset gps_offset interop_offset tiff_values exif_values gps_values interop_values strips_offset tiles_offset jpeg_offset draft_end
two_kinds_big = refl

two_kinds_read : raw_answer true None (image Big two_kinds) ≡ Whole (field_of Tiff 0x144 0 (Long (78 ∷ 80 ∷ [])) ∷ field_of Tiff 0x145 0 (Long (2 ∷ 1 ∷ []))
    ∷ field_of Tiff 0x201 0 (Long (81 ∷ [])) ∷ field_of Tiff 0x202 0 (Long (1 ∷ [])) ∷ [])
unfolding raw_answer ordered_trace image draft_parts tiff_slots exif_slots gps_slots interop_slots tiff_offset exif_offset gps_offset interop_offset tiff_values exif_values gps_values interop_values strips_offset tiles_offset jpeg_offset draft_end
two_kinds_read = refl

two_kinds_again : image Little (rewritten two_kinds) ≡ image Little two_kinds
unfolding flat image draft_parts tiff_slots exif_slots gps_slots interop_slots tiff_offset exif_offset gps_offset interop_offset tiff_values exif_values gps_values interop_values strips_offset tiles_offset jpeg_offset draft_end
two_kinds_again = refl

-- long values in each child directory, with pads behind those of odd lengths
abbrev long_values : List Group
long_values = pushed (field_of Interop 0x1000 0 (Ascii (codes "ABCDE" ∷ [])))
    (pushed (field_of Gps 0x1d 0 (Ascii (codes "2026" ∷ [])))
    (pushed (field_of Exif 0xa20e 0 (Rational (record { num = 1; denom = 60 } ∷ [])))
    (pushed (field_of Exif 0x9286 0 (Undefined (codes "12345") 0)) [])))

abbrev long_values_bytes : List ℕ
long_values_bytes =
    73 ∷ 73 ∷ 42 ∷ 0 ∷ 8 ∷ 0 ∷ 0 ∷ 0
    ∷ 2 ∷ 0
    ∷ 105 ∷ 135 ∷ 4 ∷ 0 ∷ 1 ∷ 0 ∷ 0 ∷ 0 ∷ 38 ∷ 0 ∷ 0 ∷ 0
    ∷ 37 ∷ 136 ∷ 4 ∷ 0 ∷ 1 ∷ 0 ∷ 0 ∷ 0 ∷ 80 ∷ 0 ∷ 0 ∷ 0
    ∷ 0 ∷ 0 ∷ 0 ∷ 0
    ∷ 3 ∷ 0
    ∷ 134 ∷ 146 ∷ 7 ∷ 0 ∷ 5 ∷ 0 ∷ 0 ∷ 0 ∷ 116 ∷ 0 ∷ 0 ∷ 0
    ∷ 5 ∷ 160 ∷ 4 ∷ 0 ∷ 1 ∷ 0 ∷ 0 ∷ 0 ∷ 98 ∷ 0 ∷ 0 ∷ 0
    ∷ 14 ∷ 162 ∷ 5 ∷ 0 ∷ 1 ∷ 0 ∷ 0 ∷ 0 ∷ 122 ∷ 0 ∷ 0 ∷ 0
    ∷ 0 ∷ 0 ∷ 0 ∷ 0
    ∷ 1 ∷ 0
    ∷ 29 ∷ 0 ∷ 2 ∷ 0 ∷ 5 ∷ 0 ∷ 0 ∷ 0 ∷ 130 ∷ 0 ∷ 0 ∷ 0
    ∷ 0 ∷ 0 ∷ 0 ∷ 0
    ∷ 1 ∷ 0
    ∷ 0 ∷ 16 ∷ 2 ∷ 0 ∷ 6 ∷ 0 ∷ 0 ∷ 0 ∷ 136 ∷ 0 ∷ 0 ∷ 0
    ∷ 0 ∷ 0 ∷ 0 ∷ 0
    ∷ 49 ∷ 50 ∷ 51 ∷ 52 ∷ 53 ∷ 0
    ∷ 1 ∷ 0 ∷ 0 ∷ 0 ∷ 60 ∷ 0 ∷ 0 ∷ 0
    ∷ 50 ∷ 48 ∷ 50 ∷ 54 ∷ 0 ∷ 0
    ∷ 65 ∷ 66 ∷ 67 ∷ 68 ∷ 69 ∷ 0 ∷ []

long_values_little : image Little long_values ≡ long_values_bytes
unfolding image draft_parts tiff_slots exif_slots gps_slots interop_slots tiff_offset exif_offset gps_offset interop_offset tiff_values exif_values gps_values interop_values strips_offset tiles_offset jpeg_offset draft_end
long_values_little = refl

long_values_read : raw_answer false None (image Little long_values) ≡ Whole (field_of Exif 0x9286 0 (Undefined (codes "12345") 116) ∷ field_of Interop 0x1000 0 (Ascii (codes "ABCDE" ∷ []))
    ∷ field_of Exif 0xa20e 0 (Rational (record { num = 1; denom = 60 } ∷ [])) ∷ field_of Gps 0x1d 0 (Ascii (codes "2026" ∷ [])) ∷ [])
unfolding raw_answer ordered_trace image draft_parts tiff_slots exif_slots gps_slots interop_slots tiff_offset exif_offset gps_offset interop_offset tiff_values exif_values gps_values interop_values strips_offset tiles_offset jpeg_offset draft_end
long_values_read = refl

long_values_again : image Big (rewritten long_values) ≡ image Big long_values
unfolding flat image draft_parts tiff_slots exif_slots gps_slots interop_slots tiff_offset exif_offset gps_offset interop_offset tiff_values exif_values gps_values interop_values strips_offset tiles_offset jpeg_offset draft_end
long_values_again = refl

-- calls: of two thumbnails the last one counts, and an ignored push makes no directory
abbrev five_calls : List Call
five_calls =
    SetJpeg (codes "OLD") 1 ∷ Push (field_of Tiff 0x111 7 (Short (5 ∷ []))) ∷ Push (description 0 (codes "Sample"))
    ∷ SetJpeg (codes "NEW") 1 ∷ Push (field_of Gps 0 0 (Byte (2 ∷ 3 ∷ 0 ∷ 0 ∷ []))) ∷ []

abbrev five_calls_groups : List Group
five_calls_groups =
    record empty_group { tiff = entry_of (description 0 (codes "Sample")) ∷ []; gps = entry_of (field_of Gps 0 0 (Byte (2 ∷ 3 ∷ 0 ∷ 0 ∷ []))) ∷ [] }
    ∷ record empty_group { jpeg = Some (codes "NEW") } ∷ []

five_calls_made : made five_calls ≡ five_calls_groups
five_calls_made = refl

five_calls_closed : map (group_made five_calls) (range_with_len 0 (directories five_calls)) ≡ five_calls_groups
five_calls_closed = refl

-- scrubbing takes out where a picture was taken, and values of unknown types
abbrev pub a_picture : List Field
a_picture = field_of Exif 0x9000 0 (Undefined (codes "0231") 99) ∷ field_of Gps 0 0 (Byte (2 ∷ 3 ∷ 0 ∷ 0 ∷ []))
    ∷ field_of Tiff 0x100 0 (Unknown 65535 1 18) ∷ description 0 (codes "Sample") ∷ []

-- once scrubbed, the picture is not refused: its value of an unknown type is gone
pub a_picture_written : write_fault (scrubbed a_picture) ≡ None
unfolding write_fault group_fault tiff_slots exif_slots gps_slots interop_slots tiff_offset exif_offset gps_offset interop_offset tiff_values exif_values gps_values interop_values strips_offset tiles_offset jpeg_offset draft_end
a_picture_written = refl

a_picture_flat : flat (scrubbed a_picture) ≡ description 0 (codes "Sample") ∷ field_of Exif 0x9000 0 (Undefined (codes "0231") 48) ∷ []
unfolding flat tiff_slots exif_slots gps_slots interop_slots tiff_offset exif_offset gps_offset interop_offset tiff_values exif_values gps_values interop_values strips_offset tiles_offset jpeg_offset draft_end
a_picture_flat = refl

a_picture_again : image Big (scrubbed (flat (scrubbed a_picture))) ≡ image Big (scrubbed a_picture)
unfolding flat image draft_parts tiff_slots exif_slots gps_slots interop_slots tiff_offset exif_offset gps_offset interop_offset tiff_values exif_values gps_values interop_values strips_offset tiles_offset jpeg_offset draft_end
a_picture_again = refl
