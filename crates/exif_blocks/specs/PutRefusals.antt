-- Why no block is put into a file.
use Rattle.std.specs.Prelude.{codes}
use Rattle.exif_types.specs.Refusals.{Refusal, not_supported, too_big}

-- a packet that does not fit
abbrev pub packet_too_large : Refusal
packet_too_large = too_big (codes "XMP packet too large")

-- a profile that does not fit
abbrev pub profile_too_large : Refusal
profile_too_large = too_big (codes "Colour profile too large")

-- a long packet has segments that chunks and boxes do not have
abbrev pub no_extension : Refusal
no_extension = not_supported (codes "XMP in several segments is copied into JPEG files only")

-- other formats than PNG do not compress profiles
abbrev pub is_compressed : Refusal
is_compressed =
    not_supported
    (codes "the compressed colour profile of a PNG file is copied into PNG files only")

-- the colours of a JPEG XL file are those that its codestream says
abbrev pub no_profile_box : Refusal
no_profile_box =
    not_supported
    (codes "no colour profile is put into a JPEG XL file, whose colours are in its codestream")
