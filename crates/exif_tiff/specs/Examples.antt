-- Worked examples: the definitions compute what small files hold.
use Rattle.std.specs.Prelude.{true, false, None, Some, take, negsuc, ℕ, ◌≡◌, refl, List, [], ◌∷◌, Ok, Err, codes}
use Rattle.exif_types.specs.Texts.{texts}
use Rattle.exif_types.specs.Lookup.{last_named}
use Rattle.exif_tiff.specs.Trace.{Node, Opens, Visit, Found, Met, trace, ordered_trace, header, fields_of, faults_of, visits_of, cut}
use Rattle.exif_tiff.specs.Answers.{Refused, Whole, Partial, raw_answer}
use Rattle.exif_types.specs.declared.value.Value.TheVariants as value
use Rattle.exif_table.specs.declared.context.Context.{Context}
use Rattle.exif_table.specs.declared.context.Context.TheVariants.{Tiff, Exif}
use Rattle.exif_types.specs.declared.field.Field.{Field}
use Rattle.exif_tiff.specs.declared.fault.Fault.TheVariants.{TruncatedHeader, InvalidByteOrder, InvalidFortyTwo, TruncatedNextOffset, TruncatedDirectory, TruncatedValue, InvalidPointer, TooManyDirectories, UnexpectedNext, TruncatedCount, TooManyEntries}
use Rattle.exif_base.specs.declared.endian.Order.TheVariants.{Big}

-- a directory that is opened, and a field with its entry and the directory that has it
abbrev opens : Context → ℕ → Node
opens c p = Opens (record { offset = p; context = c })

abbrev found : Field → ℕ → ℕ → Node
found field entry directory = Found (record { field = field; entry = entry; directory = directory })

texts_a : texts (65 ∷ []) ≡ (65 ∷ []) ∷ []
texts_a = refl

texts_none : texts [] ≡ []
texts_none = refl

texts_zero : texts (0 ∷ []) ≡ [] ∷ []
texts_zero = refl

texts_two : texts (0 ∷ 0 ∷ []) ≡ [] ∷ [] ∷ []
texts_two = refl

texts_a0b : texts (65 ∷ 0 ∷ 66 ∷ []) ≡ (65 ∷ []) ∷ (66 ∷ []) ∷ []
texts_a0b = refl

texts_a00 : texts (97 ∷ 0 ∷ 0 ∷ []) ≡ (97 ∷ []) ∷ [] ∷ []
texts_a00 = refl

abbrev empty_data : List ℕ
empty_data = 77 ∷ 77 ∷ 0 ∷ 42 ∷ 0 ∷ 0 ∷ 0 ∷ 0 ∷ []

empty_data_header : header empty_data ≡ Ok Big
unfolding trace ordered_trace
empty_data_header = refl

empty_data_trace : trace empty_data ≡ []
unfolding trace ordered_trace
empty_data_trace = refl

-- one directory whose next offset is itself
abbrev circle : List ℕ
circle =
    77 ∷ 77 ∷ 0 ∷ 42 ∷ 0 ∷ 0 ∷ 0 ∷ 8
    ∷ 0 ∷ 1
    ∷ 1 ∷ 0 ∷ 0 ∷ 3 ∷ 0 ∷ 0 ∷ 0 ∷ 1 ∷ 0 ∷ 20 ∷ 0 ∷ 0
    ∷ 0 ∷ 0 ∷ 0 ∷ 8 ∷ []

abbrev width : ℕ → ℕ → Field
width k n = record { tag = record { 0 = Tiff; 1 = 0x100 }; ifd_num = record { 0 = k }; value = value.Short (n ∷ []) }

circle_fields : fields_of (trace circle) ≡ width 0 20 ∷ width 1 20 ∷ width 2 20 ∷ width 3 20 ∷ width 4 20 ∷ width 5 20 ∷ width 6 20 ∷ width 7 20 ∷ []
unfolding trace ordered_trace
circle_fields = refl

circle_faults : faults_of (trace circle) ≡ TooManyDirectories ∷ []
unfolding trace ordered_trace
circle_faults = refl

short_header : header (take 7 empty_data) ≡ Err TruncatedHeader
unfolding trace ordered_trace
short_header = refl

abbrev wrong_child : List ℕ
wrong_child =
    77 ∷ 77 ∷ 0 ∷ 42 ∷ 0 ∷ 0 ∷ 0 ∷ 8 ∷ 0 ∷ 2 ∷ 135 ∷ 105 ∷ 0 ∷ 4 ∷ 0 ∷ 0 ∷ 0 ∷ 1 ∷ 0 ∷ 0 ∷ 0 ∷ 38 ∷ 253 ∷ 232 ∷ 0 ∷ 9 ∷ 0 ∷ 0 ∷ 0 ∷ 1 ∷ 254 ∷ 220 ∷ 186 ∷ 152 ∷ 255 ∷ 255 ∷ 255 ∷ 255 ∷ 0 ∷ 1 ∷ 144 ∷ 0 ∷ 0 ∷ 7 ∷ 0 ∷ 0 ∷ 0 ∷ 4 ∷ 0 ∷ 2 ∷ 3 ∷ 2 ∷ 0 ∷ 0 ∷ 0 ∷ 1 ∷ []

version : Field
version = record { tag = record { 0 = Exif; 1 = 0x9000 }; ifd_num = record { 0 = 0 }; value = value.Undefined (0 ∷ 2 ∷ 3 ∷ 2 ∷ []) 0x30 }

wrong_child_fields : fields_of (trace wrong_child) ≡ record { tag = record { 0 = Exif; 1 = 0x9000 }; ifd_num = record { 0 = 0 }; value = value.Undefined (0 ∷ 2 ∷ 3 ∷ 2 ∷ []) 0x30 }
    ∷ record { tag = record { 0 = Tiff; 1 = 65000 }; ifd_num = record { 0 = 0 }; value = value.SLong (negsuc 19088743 ∷ []) } ∷ []
unfolding trace ordered_trace
wrong_child_fields = refl

wrong_child_faults : faults_of (trace wrong_child) ≡ UnexpectedNext ∷ TruncatedCount ∷ []
unfolding trace ordered_trace
wrong_child_faults = refl

abbrev unknown_type : List ℕ
unknown_type =
    77 ∷ 77 ∷ 0 ∷ 42 ∷ 0 ∷ 0 ∷ 0 ∷ 8 ∷ 0 ∷ 1 ∷ 1 ∷ 0 ∷ 255 ∷ 255 ∷ 0 ∷ 0 ∷ 0 ∷ 1 ∷ 0 ∷ 20 ∷ 0 ∷ 0 ∷ 0 ∷ 0 ∷ 0 ∷ 0 ∷ []

unknown_type_trace : trace unknown_type ≡ opens Tiff 8 ∷ Visit ∷ found (record { tag = record { 0 = Tiff; 1 = 0x100 }; ifd_num = record { 0 = 0 }; value = value.Unknown 65535 1 18 }) 10 8 ∷ []
unfolding trace ordered_trace
unknown_type_trace = refl

abbrev shared_child : List ℕ
shared_child =
    77 ∷ 77 ∷ 0 ∷ 42 ∷ 0 ∷ 0 ∷ 0 ∷ 8 ∷ 0 ∷ 4 ∷ 1 ∷ 0 ∷ 0 ∷ 3 ∷ 0 ∷ 0 ∷ 0 ∷ 1 ∷ 0 ∷ 20 ∷ 0 ∷ 0 ∷ 1 ∷ 0 ∷ 0 ∷ 3 ∷ 0 ∷ 0 ∷ 0 ∷ 1 ∷ 0 ∷ 21 ∷ 0 ∷ 0 ∷ 135 ∷ 105 ∷ 0 ∷ 4 ∷ 0 ∷ 0 ∷ 0 ∷ 1 ∷ 0 ∷ 0 ∷ 0 ∷ 62 ∷ 135 ∷ 105 ∷ 0 ∷ 4 ∷ 0 ∷ 0 ∷ 0 ∷ 1 ∷ 0 ∷ 0 ∷ 0 ∷ 62 ∷ 0 ∷ 0 ∷ 0 ∷ 0 ∷ 0 ∷ 1 ∷ 144 ∷ 0 ∷ 0 ∷ 7 ∷ 0 ∷ 0 ∷ 0 ∷ 4 ∷ 48 ∷ 50 ∷ 51 ∷ 49 ∷ 0 ∷ 0 ∷ 0 ∷ 0 ∷ []

abbrev exif_version : Field
exif_version = record { tag = record { 0 = Exif; 1 = 0x9000 }; ifd_num = record { 0 = 0 }; value = value.Undefined (48 ∷ 50 ∷ 51 ∷ 49 ∷ []) 0x48 }

shared_child_trace : trace shared_child ≡ opens Tiff 8 ∷ Visit ∷ found (width 0 20) 10 8 ∷ Visit ∷ found (width 0 21) 22 8 ∷ Visit ∷ opens Exif 62 ∷ Visit ∷ found exif_version 64 62 ∷ Visit ∷ opens Exif 62 ∷ Visit ∷ found exif_version 64 62 ∷ []
unfolding trace ordered_trace
shared_child_trace = refl

shared_child_visits : visits_of (trace shared_child) ≡ 6
unfolding trace ordered_trace
shared_child_visits = refl

shared_child_last : last_named (fields_of (trace shared_child)) (record { 0 = Tiff; 1 = 0x100 }) (record { 0 = 0 }) ≡ Some (width 0 21)
unfolding trace ordered_trace
shared_child_last = refl

shared_child_cut : cut 5 (trace shared_child) ≡ opens Tiff 8 ∷ Visit ∷ found (width 0 20) 10 8 ∷ Visit ∷ found (width 0 21) 22 8 ∷ Visit ∷ opens Exif 62 ∷ Visit ∷ found exif_version 64 62 ∷ Visit ∷ opens Exif 62 ∷ Met TooManyEntries ∷ []
unfolding trace ordered_trace
shared_child_cut = refl

-- one description, in both orders
abbrev described_big : List ℕ
described_big = 77 ∷ 77 ∷ 0 ∷ 42 ∷ 0 ∷ 0 ∷ 0 ∷ 8 ∷ 0 ∷ 1 ∷ 1 ∷ 14 ∷ 0 ∷ 2 ∷ 0 ∷ 0 ∷ 0 ∷ 7 ∷ 0 ∷ 0 ∷ 0 ∷ 26 ∷ 0 ∷ 0 ∷ 0 ∷ 0 ∷ 83 ∷ 97 ∷ 109 ∷ 112 ∷ 108 ∷ 101 ∷ 0 ∷ []

abbrev described_little : List ℕ
described_little = 73 ∷ 73 ∷ 42 ∷ 0 ∷ 8 ∷ 0 ∷ 0 ∷ 0 ∷ 1 ∷ 0 ∷ 14 ∷ 1 ∷ 2 ∷ 0 ∷ 7 ∷ 0 ∷ 0 ∷ 0 ∷ 26 ∷ 0 ∷ 0 ∷ 0 ∷ 0 ∷ 0 ∷ 0 ∷ 0 ∷ 83 ∷ 97 ∷ 109 ∷ 112 ∷ 108 ∷ 101 ∷ 0 ∷ []

abbrev description : Field
description = record { tag = record { 0 = Tiff; 1 = 0x10e }; ifd_num = record { 0 = 0 }; value = value.Ascii (codes "Sample" ∷ []) }

described_big_trace : trace described_big ≡ opens Tiff 8 ∷ Visit ∷ found description 10 8 ∷ []
unfolding trace ordered_trace
described_big_trace = refl

described_little_trace : trace described_little ≡ opens Tiff 8 ∷ Visit ∷ found description 10 8 ∷ []
unfolding trace ordered_trace
described_little_trace = refl

-- the same without its last byte
cut_value : trace (take 32 described_big) ≡ opens Tiff 8 ∷ Visit ∷ Met TruncatedValue ∷ []
unfolding trace ordered_trace
cut_value = refl

-- a pointer that is signed, and one without a number
abbrev wrong_pointers_data : List ℕ
wrong_pointers_data = 77 ∷ 77 ∷ 0 ∷ 42 ∷ 0 ∷ 0 ∷ 0 ∷ 8 ∷ 0 ∷ 2 ∷ 135 ∷ 105 ∷ 0 ∷ 9 ∷ 0 ∷ 0 ∷ 0 ∷ 1 ∷ 0 ∷ 0 ∷ 0 ∷ 26 ∷ 135 ∷ 105 ∷ 0 ∷ 4 ∷ 0 ∷ 0 ∷ 0 ∷ 0 ∷ 0 ∷ 0 ∷ 0 ∷ 26 ∷ 0 ∷ 0 ∷ 0 ∷ 0 ∷ []

wrong_pointers : trace wrong_pointers_data ≡ opens Tiff 8 ∷ Visit ∷ Met InvalidPointer ∷ Visit ∷ Met InvalidPointer ∷ []
unfolding trace ordered_trace
wrong_pointers = refl

-- a child with a next offset, after its field
next_of_child : trace (77 ∷ 77 ∷ 0 ∷ 42 ∷ 0 ∷ 0 ∷ 0 ∷ 8 ∷ 0 ∷ 1 ∷ 135 ∷ 105 ∷ 0 ∷ 4 ∷ 0 ∷ 0 ∷ 0 ∷ 1 ∷ 0 ∷ 0 ∷ 0 ∷ 26 ∷ 0 ∷ 0 ∷ 0 ∷ 0 ∷ 0 ∷ 1 ∷ 144 ∷ 0 ∷ 0 ∷ 7 ∷ 0 ∷ 0 ∷ 0 ∷ 4 ∷ 48 ∷ 50 ∷ 51 ∷ 49 ∷ 0 ∷ 0 ∷ 0 ∷ 8 ∷ []) ≡ opens Tiff 8 ∷ Visit ∷ opens Exif 26 ∷ Visit ∷ found (record { tag = record { 0 = Exif; 1 = 0x9000 }; ifd_num = record { 0 = 0 }; value = value.Undefined (codes "0231") 0x24 }) 28 26 ∷ Met UnexpectedNext ∷ []
unfolding trace ordered_trace
next_of_child = refl

-- two entries, of which the last lacks a byte
cut_directory : trace (77 ∷ 77 ∷ 0 ∷ 42 ∷ 0 ∷ 0 ∷ 0 ∷ 8 ∷ 0 ∷ 2 ∷ 1 ∷ 0 ∷ 0 ∷ 3 ∷ 0 ∷ 0 ∷ 0 ∷ 1 ∷ 0 ∷ 20 ∷ 0 ∷ 0 ∷ 1 ∷ 1 ∷ 0 ∷ 3 ∷ 0 ∷ 0 ∷ 0 ∷ 1 ∷ 0 ∷ 21 ∷ 0 ∷ []) ≡ opens Tiff 8 ∷ Visit ∷ found (width 0 20) 10 8 ∷ Met TruncatedDirectory ∷ []
unfolding trace ordered_trace
cut_directory = refl

-- Each fault of a header but that of too large data, which can't be written out here:
-- `TooLargeIsExact` says when it comes. neither byte order, the number 42 in the wrong order, and
-- another number
wrong_order : header (77 ∷ 73 ∷ 0 ∷ 42 ∷ 0 ∷ 0 ∷ 0 ∷ 0 ∷ []) ≡ Err InvalidByteOrder
wrong_order = refl

swapped_mark : header (73 ∷ 73 ∷ 0 ∷ 42 ∷ 8 ∷ 0 ∷ 0 ∷ 0 ∷ []) ≡ Err InvalidFortyTwo
swapped_mark = refl

wrong_mark : header (77 ∷ 77 ∷ 0 ∷ 43 ∷ 0 ∷ 8 ∷ 0 ∷ 0 ∷ []) ≡ Err InvalidFortyTwo
wrong_mark = refl

-- a hard fault in both modes
short_lenient : raw_answer true None (take 7 empty_data) ≡ Refused TruncatedHeader
unfolding raw_answer
short_lenient = refl

short_strict : raw_answer false None (take 7 empty_data) ≡ Refused TruncatedHeader
unfolding raw_answer
short_strict = refl

-- a directory whose count lacks a byte, and one whose next offset lacks one
cut_count : trace (77 ∷ 77 ∷ 0 ∷ 42 ∷ 0 ∷ 0 ∷ 0 ∷ 8 ∷ 0 ∷ []) ≡ opens Tiff 8 ∷ Met TruncatedCount ∷ []
unfolding trace ordered_trace
cut_count = refl

cut_next : trace (take 25 circle) ≡ opens Tiff 8 ∷ Visit ∷ found (width 0 20) 10 8 ∷ Met TruncatedNextOffset ∷ []
unfolding trace ordered_trace
cut_next = refl

-- a limit of six entries lets all of six be read, and one of five does not
shared_child_within : raw_answer false (Some 6) shared_child ≡ Whole (width 0 20 ∷ width 0 21 ∷ exif_version ∷ exif_version ∷ [])
unfolding raw_answer ordered_trace
shared_child_within = refl

shared_child_lenient : raw_answer true (Some 5) shared_child ≡ Partial (width 0 20 ∷ width 0 21 ∷ exif_version ∷ []) (TooManyEntries ∷ [])
unfolding raw_answer ordered_trace
shared_child_lenient = refl

shared_child_strict : raw_answer false (Some 5) shared_child ≡ Refused TooManyEntries
unfolding raw_answer ordered_trace
shared_child_strict = refl

-- a fault before the limit is strict reading's answer
pointer_then_limit : raw_answer true (Some 1) wrong_pointers_data ≡ Partial [] (InvalidPointer ∷ TooManyEntries ∷ [])
unfolding raw_answer ordered_trace
pointer_then_limit = refl

pointer_before_limit : raw_answer false (Some 1) wrong_pointers_data ≡ Refused InvalidPointer
unfolding raw_answer ordered_trace
pointer_before_limit = refl
