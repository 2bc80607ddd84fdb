-- Worked examples: formats by bytes written by hand, and what becomes of these bytes.
use Rattle.std.specs.Prelude.{◌≡◌, refl, List, [], ◌∷◌, ◌++◌, codes, true, Some, None}
use Rattle.exif_containers.specs.declared.container.Format.TheVariants.{Tiff}
use Rattle.exif_tiff.specs.Answers.{Refused, Whole, Partial}
use Rattle.exif_tiff.specs.declared.fault.Fault.TheVariants.{InvalidByteOrder, TooManyEntries}
use Rattle.exif_table.specs.declared.context.Context.TheVariants as context
use Rattle.exif_formats.specs.Formats.{begins_jpeg_xl, begins_orf, begins_rw2, other_format_in}
use Rattle.exif_formats.specs.Magic.{as_tiff}
use Rattle.exif_formats.specs.Pictures.{as_read, context_for, joined}
use Rattle.exif_formats.specs.declared.format.PictureFormat.TheVariants.{Container, Png, JpegXl, Raf, Orf, Rw2, Cr3}

-- ---- signatures

png : other_format_in (137 ∷ codes "PNG" ++ 13 ∷ 10 ∷ 26 ∷ 10 ∷ []) ≡ Some Png
unfolding other_format_in
png = refl

codestream : other_format_in (255 ∷ 10 ∷ 0 ∷ []) ≡ Some JpegXl
unfolding other_format_in
codestream = refl

container : other_format_in (0 ∷ 0 ∷ 0 ∷ 12 ∷ codes "JXL \r\n" ++ 135 ∷ 10 ∷ []) ≡ Some JpegXl
unfolding other_format_in
container = refl

fujifilm : other_format_in (codes "FUJIFILMCCD-RAW 0201") ≡ Some Raf
unfolding other_format_in
fujifilm = refl

olympus : other_format_in (codes "IIRS\u{8}\0\0\0") ≡ Some Orf
unfolding other_format_in
olympus = refl

panasonic : other_format_in (codes "IIU\0\u{18}\0\0\0") ≡ Some Rw2
unfolding other_format_in
panasonic = refl

canon : other_format_in (0 ∷ 0 ∷ 0 ∷ 24 ∷ codes "ftypcrx ") ≡ Some Cr3
unfolding other_format_in
canon = refl

-- a raw file of Panasonic with its bytes in the other order has no such signature
other_order : other_format_in (codes "MM\0U\0\0\0\u{8}") ≡ None
unfolding other_format_in
other_order = refl

-- ---- raw files as TIFF data

little : as_tiff (codes "IIRO\u{8}\0\0\0") ≡ codes "II*\0\u{8}\0\0\0"
little = refl

big : as_tiff (codes "MMOR\0\0\0\u{8}") ≡ codes "MM\0*\0\0\0\u{8}"
big = refl

-- a file of another format is read as it is
as_it_is : as_read (Some (Container Tiff)) (codes "II*\0\u{8}\0\0\0") ≡ codes "II*\0\u{8}\0\0\0"
as_it_is = refl

-- ---- directories of a CR3 file

-- a directory of its own has the context that its box says; one that it names keeps its own
own_context : context_for context.Gps context.Tiff ≡ context.Gps
own_context = refl

named_context : context_for context.Exif context.Interop ≡ context.Interop
named_context = refl

-- the first refusal is that of the file, and the faults of all follow one another
first_refused : joined (Refused InvalidByteOrder) (Whole []) ≡ Refused InvalidByteOrder
first_refused = refl

second_refused : joined (Whole []) (Refused InvalidByteOrder) ≡ Refused InvalidByteOrder
second_refused = refl

all_faults : joined (Partial [] (InvalidByteOrder ∷ [])) (Partial [] (TooManyEntries ∷ []))
    ≡ Partial [] (InvalidByteOrder ∷ TooManyEntries ∷ [])
all_faults = refl
