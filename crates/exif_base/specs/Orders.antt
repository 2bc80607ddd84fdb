-- Numbers in a byte order (TIFF 6.0, section 2, "Image File Header").
use Rattle.std.specs.Prelude.{Bool, if◌then◌else◌}
use Rattle.byteorder.specs.Endian.{big_number, little_number}
use Rattle.exif_base.specs.Bytes.{Reading}
use Rattle.exif_base.specs.declared.endian.Order.{Order}
use Rattle.exif_base.specs.declared.endian.Order.TheVariants.{Big, Little}

-- the number that the first bytes spell, in an order
abbrev pub number_of : Order → Reading
number_of Big = big_number
number_of Little = little_number

-- the order of bytes that are little endian or not
abbrev pub order_named : Bool → Order
order_named little_endian = if little_endian then Little else Big
