-- Worked examples: texts of locations by hand, and boxes that ffmpeg 5.1 and exiftool 12.57 wrote.
use Rattle.std.specs.Prelude.{◌≡◌, refl, ℕ, List, [], ◌∷◌, ◌++◌, codes, Bool, true, false, Option, Some, None}
use Rattle.exif_movie_facts.specs.Headers.{movie_header, rotation, track_header, unix_seconds}
use Rattle.exif_movie_facts.specs.Locations.{after_name, iso6709_location, loci_location}
use Rattle.exif_movie_facts.specs.Numbers.{u16_of, u32_of, u64_of}
use Rattle.exif_movie_facts.specs.Texts.{item_text, user_data_text}
use Rattle.exif_movie_facts.specs.declared.location.Fraction.{Fraction}
use Rattle.exif_movie_facts.specs.declared.location.Location.{Location}

abbrev fraction : Bool → ℕ → ℕ → Fraction
fraction negative n d = record { negative = negative; numerator = n; denominator = d }

abbrev at : Fraction → Fraction → Option Fraction → Option Location
at north east altitude = Some (record { latitude = north; longitude = east; altitude = altitude })

-- degrees
by_degrees : iso6709_location (codes "+35.6586+139.7454+012.3/")
    ≡ at (fraction false 356586 10000) (fraction false 1397454 10000) (Some (fraction false 123 10))
by_degrees = refl

-- degrees and minutes, to the south and the east, without an altitude
by_minutes : iso6709_location (codes "-3539.516+13944.724/")
    ≡ at (fraction true 2139516 60000) (fraction false 8384724 60000) None
by_minutes = refl

-- degrees, minutes and seconds, below the sea, followed by the name of a system
by_seconds : iso6709_location (codes "+401213.1-0750015.1-5CRSWGS_84/")
    ≡ at (fraction false 1447331 36000) (fraction true 2700151 36000) (Some (fraction true 5 1))
by_seconds = refl

-- the limits: the south pole at 180 degrees to the west
at_limits : iso6709_location (codes "-90-180/")
    ≡ at (fraction true 90 1) (fraction true 180 1) None
at_limits = refl

-- a latitude of over 90 degrees, a longitude of over 180, minutes over 59, seconds over 59, three
-- digits of a latitude, and no sign
latitude_out_of_range : iso6709_location (codes "+91+000/") ≡ None
latitude_out_of_range = refl

longitude_out_of_range : iso6709_location (codes "+00-180.1/") ≡ None
longitude_out_of_range = refl

minutes_out_of_range : iso6709_location (codes "+3560.0+13944.0/") ≡ None
minutes_out_of_range = refl

seconds_out_of_range : iso6709_location (codes "+350060+1394400/") ≡ None
seconds_out_of_range = refl

three_digits : iso6709_location (codes "+135+139/") ≡ None
three_digits = refl

unsigned : iso6709_location (codes "35.6586+139.7454/") ≡ None
unsigned = refl

-- the box ©xyz that exiftool wrote for -12.5 -77.25 154
abbrev written_xyz : List ℕ
written_xyz =
    0 ∷ 0x18 ∷ 0 ∷ 0 ∷ 0x2d ∷ 0x31 ∷ 0x32 ∷ 0x2e ∷ 0x35 ∷ 0x30 ∷ 0x30 ∷ 0x2d ∷ 0x30 ∷ 0x37 ∷ 0x37
    ∷ 0x2e ∷ 0x32 ∷ 0x35 ∷ 0x30 ∷ 0x2b ∷ 0x31 ∷ 0x35 ∷ 0x34 ∷ 0x2e ∷ 0x30 ∷ 0x30 ∷ 0x30 ∷ 0x2f ∷ []

written_xyz_text : user_data_text written_xyz ≡ codes "-12.500-077.250+154.000/"
unfolding u16_of
written_xyz_text = refl

written_xyz_location : iso6709_location (codes "-12.500-077.250+154.000/")
    ≡ at (fraction true 12500 1000) (fraction true 77250 1000) (Some (fraction false 154000 1000))
written_xyz_location = refl

-- the box ©xyz that ffmpeg wrote for +48.8577+002.295/
abbrev ffmpeg_xyz : List ℕ
ffmpeg_xyz =
    0 ∷ 0x11 ∷ 0x55 ∷ 0xc4 ∷ 0x2b ∷ 0x34 ∷ 0x38 ∷ 0x2e ∷ 0x38 ∷ 0x35 ∷ 0x37 ∷ 0x37 ∷ 0x2b ∷ 0x30
    ∷ 0x30 ∷ 0x32 ∷ 0x2e ∷ 0x32 ∷ 0x39 ∷ 0x35 ∷ 0x2f ∷ []

ffmpeg_xyz_text : user_data_text ffmpeg_xyz ≡ codes "+48.8577+002.295/"
unfolding u16_of
ffmpeg_xyz_text = refl

-- the item that exiftool wrote for Keys:GPSCoordinates 35.6586 139.7454 12.3
abbrev written_item : List ℕ
written_item =
    0 ∷ 0 ∷ 0 ∷ 0x29 ∷ 0x64 ∷ 0x61 ∷ 0x74 ∷ 0x61 ∷ 0 ∷ 0 ∷ 0 ∷ 1 ∷ 0 ∷ 0 ∷ 0 ∷ 0 ∷ 0x2b ∷ 0x33
    ∷ 0x35 ∷ 0x2e ∷ 0x36 ∷ 0x35 ∷ 0x38 ∷ 0x36 ∷ 0x2b ∷ 0x31 ∷ 0x33 ∷ 0x39 ∷ 0x2e ∷ 0x37 ∷ 0x34
    ∷ 0x35 ∷ 0x34 ∷ 0x2b ∷ 0x31 ∷ 0x32 ∷ 0x2e ∷ 0x33 ∷ 0x30 ∷ 0x30 ∷ 0x2f ∷ []

written_item_text : item_text written_item ≡ codes "+35.6586+139.7454+12.300/"
unfolding u32_of
written_item_text = refl

written_item_location : iso6709_location (codes "+35.6586+139.7454+12.300/")
    ≡ at (fraction false 356586 10000) (fraction false 1397454 10000)
    (Some (fraction false 12300 1000))
written_item_location = refl

-- the item that exiftool wrote for Keys:CreationDate 2024:03:05 06:07:08+09:00
abbrev written_date : List ℕ
written_date =
    0 ∷ 0 ∷ 0 ∷ 0x28 ∷ 0x64 ∷ 0x61 ∷ 0x74 ∷ 0x61 ∷ 0 ∷ 0 ∷ 0 ∷ 1 ∷ 0 ∷ 0 ∷ 0 ∷ 0 ∷ 0x32 ∷ 0x30
    ∷ 0x32 ∷ 0x34 ∷ 0x2d ∷ 0x30 ∷ 0x33 ∷ 0x2d ∷ 0x30 ∷ 0x35 ∷ 0x54 ∷ 0x30 ∷ 0x36 ∷ 0x3a ∷ 0x30
    ∷ 0x37 ∷ 0x3a ∷ 0x30 ∷ 0x38 ∷ 0x2b ∷ 0x30 ∷ 0x39 ∷ 0x30 ∷ 0x30 ∷ []

written_date_text : item_text written_date ≡ codes "2024-03-05T06:07:08+0900"
unfolding u32_of
written_date_text = refl

-- the item that ffmpeg wrote for the location -33.8568+151.2153+004.5/
abbrev ffmpeg_item : List ℕ
ffmpeg_item =
    0 ∷ 0 ∷ 0 ∷ 0x28 ∷ 0x64 ∷ 0x61 ∷ 0x74 ∷ 0x61 ∷ 0 ∷ 0 ∷ 0 ∷ 1 ∷ 0 ∷ 0 ∷ 0 ∷ 0 ∷ 0x2d ∷ 0x33
    ∷ 0x33 ∷ 0x2e ∷ 0x38 ∷ 0x35 ∷ 0x36 ∷ 0x38 ∷ 0x2b ∷ 0x31 ∷ 0x35 ∷ 0x31 ∷ 0x2e ∷ 0x32 ∷ 0x31
    ∷ 0x35 ∷ 0x33 ∷ 0x2b ∷ 0x30 ∷ 0x30 ∷ 0x34 ∷ 0x2e ∷ 0x35 ∷ 0x2f ∷ []

ffmpeg_item_text : item_text ffmpeg_item ≡ codes "-33.8568+151.2153+004.5/"
unfolding u32_of
ffmpeg_item_text = refl

-- the box loci that ffmpeg wrote for -33.8568+151.2153+004.5/; exiftool reads -33.85680, 151.21529
-- and 4.5
abbrev ffmpeg_loci : List ℕ
ffmpeg_loci =
    0 ∷ 0 ∷ 0 ∷ 0 ∷ 0 ∷ 0 ∷ 0 ∷ 0 ∷ 0 ∷ 0x97 ∷ 0x37 ∷ 0x1d ∷ 0xff ∷ 0xde ∷ 0x24 ∷ 0xa9 ∷ 0 ∷ 4
    ∷ 0x80 ∷ 0 ∷ 0x65 ∷ 0x61 ∷ 0x72 ∷ 0x74 ∷ 0x68 ∷ 0 ∷ 0 ∷ []

ffmpeg_loci_location : loci_location ffmpeg_loci
    ≡ at (fraction true 2218839 65536) (fraction false 9910045 65536)
    (Some (fraction false 294912 65536))
unfolding u32_of after_name
ffmpeg_loci_location = refl

-- by hand: the name is "a", the role 0, 139.5 degrees to the east, 35.25 to the south, 12 metres
named_loci : loci_location (0 ∷ 0 ∷ 0 ∷ 0 ∷ 0x15 ∷ 0xc7 ∷ 0x61 ∷ 0 ∷ 0 ∷ 0 ∷ 0x8b ∷ 0x80 ∷ 0 ∷ 0xff
    ∷ 0xdc ∷ 0xc0 ∷ 0 ∷ 0 ∷ 12 ∷ 0 ∷ 0 ∷ [])
    ≡ at (fraction true 2310144 65536) (fraction false 9142272 65536)
    (Some (fraction false 786432 65536))
unfolding u32_of after_name
named_loci = refl

-- a name in UTF-16, and a box that ends within the altitude
utf16_loci : loci_location (0 ∷ 0 ∷ 0 ∷ 0 ∷ 0x15 ∷ 0xc7 ∷ 0xfe ∷ 0xff ∷ 0 ∷ 0x61 ∷ 0 ∷ 0 ∷ [])
    ≡ None
unfolding u32_of after_name
utf16_loci = refl

short_loci : loci_location (0 ∷ 0 ∷ 0 ∷ 0 ∷ 0x15 ∷ 0xc7 ∷ 0 ∷ 0 ∷ 0 ∷ 0x8b ∷ 0x80 ∷ 0 ∷ 0xff ∷ 0xdc
    ∷ 0xc0 ∷ 0 ∷ 0 ∷ 12 ∷ 0 ∷ []) ≡ None
unfolding u32_of after_name
short_loci = refl

-- the movie header that ffmpeg wrote for 2024-03-05T06:07:08Z and a duration of a second
abbrev mvhd : List ℕ
mvhd =
    0 ∷ 0 ∷ 0 ∷ 0 ∷ 0xe2 ∷ 0x0c ∷ 0x67 ∷ 0x0c ∷ 0xe2 ∷ 0x0c ∷ 0x67 ∷ 0x0c ∷ 0 ∷ 0 ∷ 3 ∷ 0xe8 ∷ 0
    ∷ 0 ∷ 3 ∷ 0xe8 ∷ 0 ∷ 1 ∷ 0 ∷ 0 ∷ 1 ∷ 0 ∷ 0 ∷ 0 ∷ 0 ∷ 0 ∷ 0 ∷ 0 ∷ 0 ∷ 0 ∷ 0 ∷ 0 ∷ 0 ∷ 1 ∷ 0
    ∷ 0 ∷ 0 ∷ 0 ∷ 0 ∷ 0 ∷ 0 ∷ 0 ∷ 0 ∷ 0 ∷ 0 ∷ 0 ∷ 0 ∷ 0 ∷ 0 ∷ 1 ∷ 0 ∷ 0 ∷ 0 ∷ 0 ∷ 0 ∷ 0 ∷ 0 ∷ 0
    ∷ 0 ∷ 0 ∷ 0 ∷ 0 ∷ 0 ∷ 0 ∷ 0x40 ∷ 0 ∷ 0 ∷ 0 ∷ 0 ∷ 0 ∷ 0 ∷ 0 ∷ 0 ∷ 0 ∷ 0 ∷ 0 ∷ 0 ∷ 0 ∷ 0 ∷ 0
    ∷ 0 ∷ 0 ∷ 0 ∷ 0 ∷ 0 ∷ 0 ∷ 0 ∷ 0 ∷ 0 ∷ 0 ∷ 0 ∷ 0 ∷ 0 ∷ 0 ∷ 0 ∷ 2 ∷ []

mvhd_fields : movie_header mvhd ≡ Some (record {
  created = 3792463628;
  modified = 3792463628;
  timescale = 1000;
  duration = Some 1000;
})
unfolding u32_of
mvhd_fields = refl

-- as `date -u -d 2024-03-05T06:07:08Z +%s` prints it
mvhd_created : unix_seconds 3792463628 ≡ Some 1709618828
mvhd_created = refl

-- the last second before 1970, and the first one in it
before_1970 : unix_seconds 2082844799 ≡ None
before_1970 = refl

in_1970 : unix_seconds 2082844800 ≡ Some 0
in_1970 = refl

-- the movie header of version 1 that ffmpeg wrote for the same time and 6,000 seconds
abbrev long_mvhd : List ℕ
long_mvhd =
    1 ∷ 0 ∷ 0 ∷ 0 ∷ 0 ∷ 0 ∷ 0 ∷ 0 ∷ 0xe2 ∷ 0x0c ∷ 0x67 ∷ 0x0c ∷ 0 ∷ 0 ∷ 0 ∷ 0 ∷ 0xe2 ∷ 0x0c
    ∷ 0x67 ∷ 0x0c ∷ 0 ∷ 0x0f ∷ 0x42 ∷ 0x40 ∷ 0 ∷ 0 ∷ 0 ∷ 1 ∷ 0x65 ∷ 0xa0 ∷ 0xbc ∷ 0 ∷ 0 ∷ 1 ∷ 0
    ∷ 0 ∷ 1 ∷ 0 ∷ 0 ∷ 0 ∷ 0 ∷ 0 ∷ 0 ∷ 0 ∷ 0 ∷ 0 ∷ 0 ∷ 0 ∷ 0 ∷ 1 ∷ 0 ∷ 0 ∷ 0 ∷ 0 ∷ 0 ∷ 0 ∷ 0 ∷ 0
    ∷ 0 ∷ 0 ∷ 0 ∷ 0 ∷ 0 ∷ 0 ∷ 0 ∷ 1 ∷ 0 ∷ 0 ∷ 0 ∷ 0 ∷ 0 ∷ 0 ∷ 0 ∷ 0 ∷ 0 ∷ 0 ∷ 0 ∷ 0 ∷ 0 ∷ 0
    ∷ 0x40 ∷ 0 ∷ 0 ∷ 0 ∷ 0 ∷ 0 ∷ 0 ∷ 0 ∷ 0 ∷ 0 ∷ 0 ∷ 0 ∷ 0 ∷ 0 ∷ 0 ∷ 0 ∷ 0 ∷ 0 ∷ 0 ∷ 0 ∷ 0 ∷ 0
    ∷ 0 ∷ 0 ∷ 0 ∷ 0 ∷ 0 ∷ 0 ∷ 0 ∷ 0 ∷ 0 ∷ 2 ∷ []

long_mvhd_fields : movie_header long_mvhd ≡ Some (record {
  created = 3792463628;
  modified = 3792463628;
  timescale = 1000000;
  duration = Some 6000000000;
})
unfolding u32_of u64_of
long_mvhd_fields = refl

-- the track header that ffmpeg wrote for 64 pixels by 48
abbrev tkhd : List ℕ
tkhd =
    0 ∷ 0 ∷ 0 ∷ 3 ∷ 0xe2 ∷ 0x0c ∷ 0x67 ∷ 0x0c ∷ 0xe2 ∷ 0x0c ∷ 0x67 ∷ 0x0c ∷ 0 ∷ 0 ∷ 0 ∷ 1 ∷ 0 ∷ 0
    ∷ 0 ∷ 0 ∷ 0 ∷ 0 ∷ 3 ∷ 0xe8 ∷ 0 ∷ 0 ∷ 0 ∷ 0 ∷ 0 ∷ 0 ∷ 0 ∷ 0 ∷ 0 ∷ 0 ∷ 0 ∷ 0 ∷ 0 ∷ 0 ∷ 0 ∷ 0
    ∷ 0 ∷ 1 ∷ 0 ∷ 0 ∷ 0 ∷ 0 ∷ 0 ∷ 0 ∷ 0 ∷ 0 ∷ 0 ∷ 0 ∷ 0 ∷ 0 ∷ 0 ∷ 0 ∷ 0 ∷ 1 ∷ 0 ∷ 0 ∷ 0 ∷ 0 ∷ 0
    ∷ 0 ∷ 0 ∷ 0 ∷ 0 ∷ 0 ∷ 0 ∷ 0 ∷ 0 ∷ 0 ∷ 0x40 ∷ 0 ∷ 0 ∷ 0 ∷ 0 ∷ 0x40 ∷ 0 ∷ 0 ∷ 0
    ∷ 0x30 ∷ 0 ∷ 0 ∷ []

tkhd_fields : track_header tkhd ≡ Some (record {
  created = 3792463628;
  modified = 3792463628;
  duration = Some 1000;
  width = 4194304;
  height = 3145728;
  rotation = Some 0;
})
unfolding u32_of rotation
tkhd_fields = refl

-- the same after exiftool set Rotation to 90
abbrev turned_tkhd : List ℕ
turned_tkhd =
    0 ∷ 0 ∷ 0 ∷ 3 ∷ 0xe2 ∷ 0x0c ∷ 0x67 ∷ 0x0c ∷ 0xe2 ∷ 0x0c ∷ 0x67 ∷ 0x0c ∷ 0 ∷ 0 ∷ 0 ∷ 1 ∷ 0 ∷ 0
    ∷ 0 ∷ 0 ∷ 0 ∷ 0 ∷ 3 ∷ 0xe8 ∷ 0 ∷ 0 ∷ 0 ∷ 0 ∷ 0 ∷ 0 ∷ 0 ∷ 0 ∷ 0 ∷ 0 ∷ 0 ∷ 0 ∷ 0 ∷ 0 ∷ 0 ∷ 0
    ∷ 0 ∷ 0 ∷ 0 ∷ 0 ∷ 0 ∷ 1 ∷ 0 ∷ 0 ∷ 0 ∷ 0 ∷ 0 ∷ 0 ∷ 0xff ∷ 0xff ∷ 0 ∷ 0 ∷ 0 ∷ 0 ∷ 0 ∷ 0 ∷ 0 ∷ 0
    ∷ 0 ∷ 0 ∷ 0 ∷ 0x30 ∷ 0 ∷ 0 ∷ 0 ∷ 0 ∷ 0 ∷ 0 ∷ 0x40 ∷ 0 ∷ 0 ∷ 0 ∷ 0 ∷ 0x40 ∷ 0 ∷ 0 ∷ 0 ∷ 0x30
    ∷ 0 ∷ 0 ∷ []

turned_tkhd_fields : track_header turned_tkhd ≡ Some (record {
  created = 3792463628;
  modified = 3792463628;
  duration = Some 1000;
  width = 4194304;
  height = 3145728;
  rotation = Some 90;
})
unfolding u32_of rotation
turned_tkhd_fields = refl

-- the same after exiftool set Rotation to 270
abbrev tkhd_270 : List ℕ
tkhd_270 =
    0 ∷ 0 ∷ 0 ∷ 3 ∷ 0xe2 ∷ 0x0c ∷ 0x67 ∷ 0x0c ∷ 0xe2 ∷ 0x0c ∷ 0x67 ∷ 0x0c ∷ 0 ∷ 0 ∷ 0 ∷ 1 ∷ 0 ∷ 0
    ∷ 0 ∷ 0 ∷ 0 ∷ 0 ∷ 3 ∷ 0xe8 ∷ 0 ∷ 0 ∷ 0 ∷ 0 ∷ 0 ∷ 0 ∷ 0 ∷ 0 ∷ 0 ∷ 0 ∷ 0 ∷ 0 ∷ 0 ∷ 0 ∷ 0 ∷ 0
    ∷ 0 ∷ 0 ∷ 0 ∷ 0 ∷ 0xff ∷ 0xff ∷ 0 ∷ 0 ∷ 0 ∷ 0 ∷ 0 ∷ 0 ∷ 0 ∷ 1 ∷ 0 ∷ 0 ∷ 0 ∷ 0 ∷ 0 ∷ 0 ∷ 0 ∷ 0
    ∷ 0 ∷ 0 ∷ 0 ∷ 0 ∷ 0 ∷ 0 ∷ 0 ∷ 0x40 ∷ 0 ∷ 0 ∷ 0x40 ∷ 0 ∷ 0 ∷ 0 ∷ 0 ∷ 0x40 ∷ 0 ∷ 0 ∷ 0 ∷ 0x30
    ∷ 0 ∷ 0 ∷ []

tkhd_270_fields : track_header tkhd_270 ≡ Some (record {
  created = 3792463628;
  modified = 3792463628;
  duration = Some 1000;
  width = 4194304;
  height = 3145728;
  rotation = Some 270;
})
unfolding u32_of rotation
tkhd_270_fields = refl

-- the track header of version 1 that ffmpeg wrote for 6,000 seconds, 64 pixels by 48
abbrev long_tkhd : List ℕ
long_tkhd =
    1 ∷ 0 ∷ 0 ∷ 3 ∷ 0 ∷ 0 ∷ 0 ∷ 0 ∷ 0xe2 ∷ 0x0c ∷ 0x67 ∷ 0x0c ∷ 0 ∷ 0 ∷ 0 ∷ 0 ∷ 0xe2 ∷ 0x0c
    ∷ 0x67 ∷ 0x0c ∷ 0 ∷ 0 ∷ 0 ∷ 1 ∷ 0 ∷ 0 ∷ 0 ∷ 0 ∷ 0 ∷ 0 ∷ 0 ∷ 1 ∷ 0x65 ∷ 0xa0 ∷ 0xbc ∷ 0 ∷ 0
    ∷ 0 ∷ 0 ∷ 0 ∷ 0 ∷ 0 ∷ 0 ∷ 0 ∷ 0 ∷ 0 ∷ 0 ∷ 0 ∷ 0 ∷ 0 ∷ 0 ∷ 0 ∷ 0 ∷ 1 ∷ 0 ∷ 0 ∷ 0 ∷ 0 ∷ 0 ∷ 0
    ∷ 0 ∷ 0 ∷ 0 ∷ 0 ∷ 0 ∷ 0 ∷ 0 ∷ 0 ∷ 0 ∷ 1 ∷ 0 ∷ 0 ∷ 0 ∷ 0 ∷ 0 ∷ 0 ∷ 0 ∷ 0 ∷ 0 ∷ 0 ∷ 0 ∷ 0 ∷ 0
    ∷ 0 ∷ 0x40 ∷ 0 ∷ 0 ∷ 0 ∷ 0 ∷ 0x40 ∷ 0 ∷ 0 ∷ 0
    ∷ 0x30 ∷ 0 ∷ 0 ∷ []

long_tkhd_fields : track_header long_tkhd ≡ Some (record {
  created = 3792463628;
  modified = 3792463628;
  duration = Some 6000000000;
  width = 4194304;
  height = 3145728;
  rotation = Some 0;
})
unfolding u32_of u64_of rotation
long_tkhd_fields = refl
