-- Worked examples: boxes that ffmpeg 5.1 and exiftool 12.57 wrote, with zeros put in by hand.
use Rattle.std.specs.Prelude.{◌≡◌, refl, ℕ, List, [], ◌∷◌, ◌++◌, codes, replicate, true, false}
use Rattle.exif_inventory.specs.BoxHeaders.{box_header, head_of}
use Rattle.exif_movie_scrub.specs.Zeros.{is_undated, with_zeros}
use Rattle.exif_movie_scrub.specs.declared.zeros.Zeroed.TheVariants as zeroed

-- the location in user data
abbrev location : List ℕ
location =
    (0 ∷ 0 ∷ 0 ∷ 30 ∷ 0xa9 ∷ codes "xyz") ++ (0 ∷ 18 ∷ 0 ∷ 0 ∷ codes "+35.6895+139.6917/")

free_location : with_zeros zeroed.Content location
    ≡ (0 ∷ 0 ∷ 0 ∷ 30 ∷ codes "free") ++ replicate 22 0
unfolding with_zeros head_of box_header
free_location = refl

same_location : with_zeros zeroed.Nothing location ≡ location
unfolding with_zeros head_of box_header
same_location = refl

-- the same box with a size of eight bytes
abbrev long_location : List ℕ
long_location =
    (0 ∷ 0 ∷ 0 ∷ 1 ∷ 0xa9 ∷ codes "xyz") ++ ((0 ∷ 0 ∷ 0 ∷ 0 ∷ 0 ∷ 0 ∷ 0 ∷ 38 ∷ [])
    ++ (0 ∷ 18 ∷ 0 ∷ 0 ∷ codes "+35.6895+139.6917/"))

free_long_location : with_zeros zeroed.Content long_location
    ≡ (0 ∷ 0 ∷ 0 ∷ 1 ∷ codes "free") ++ ((0 ∷ 0 ∷ 0 ∷ 0 ∷ 0 ∷ 0 ∷ 0 ∷ 38 ∷ []) ++ replicate 22 0)
unfolding with_zeros head_of box_header
free_long_location = refl

-- a media header of 2024-05-06 07:08:09: time scale 16,384, duration 16,384
abbrev media_header : List ℕ → List ℕ
media_header dates =
    (0 ∷ 0 ∷ 0 ∷ 32 ∷ codes "mdhd") ++ (0 ∷ 0 ∷ 0 ∷ 0 ∷ dates
    ++ (0 ∷ 0 ∷ 0x40 ∷ 0 ∷ 0 ∷ 0 ∷ 0x40 ∷ 0 ∷ 0x7f ∷ 0xff ∷ 0 ∷ 0 ∷ []))

abbrev dates : List ℕ
dates = 0xe2 ∷ 0x5e ∷ 0x32 ∷ 0x59 ∷ 0xe2 ∷ 0x5e ∷ 0x32 ∷ 0x59 ∷ []

undated_header : with_zeros zeroed.Dates (media_header dates) ≡ media_header (replicate 8 0)
unfolding with_zeros head_of box_header
undated_header = refl

has_dates : is_undated (media_header dates) ≡ false
unfolding head_of box_header
has_dates = refl

has_none : is_undated (media_header (replicate 8 0)) ≡ true
unfolding head_of box_header
has_none = refl

-- one of version 1, with eight bytes a date: time scale 1,000,000,000, duration 9,000,000,000
abbrev long_header : List ℕ → List ℕ
long_header dates =
    (0 ∷ 0 ∷ 0 ∷ 44 ∷ codes "mdhd") ++ (1 ∷ 0 ∷ 0 ∷ 0 ∷ dates
    ++ (0x3b ∷ 0x9a ∷ 0xca ∷ 0 ∷ 0 ∷ 0 ∷ 0 ∷ 2 ∷ 0x18 ∷ 0x71 ∷ 0x1a ∷ 0
    ∷ 0x7f ∷ 0xff ∷ 0 ∷ 0 ∷ []))

abbrev long_dates : List ℕ
long_dates =
    0 ∷ 0 ∷ 0 ∷ 0 ∷ 0xe2 ∷ 0x5e ∷ 0x32 ∷ 0x59 ∷ 0 ∷ 0 ∷ 0 ∷ 0 ∷ 0xe2 ∷ 0x5e ∷ 0x32 ∷ 0x59 ∷ []

undated_long : with_zeros zeroed.Dates (long_header long_dates) ≡ long_header (replicate 16 0)
unfolding with_zeros head_of box_header
undated_long = refl

-- a header that ends within its dates
undated_short :
    with_zeros zeroed.Dates (0 ∷ 0 ∷ 0 ∷ 15 ∷ codes "mdhd" ++ (0 ∷ 0 ∷ 0 ∷ 0 ∷ 9 ∷ 9 ∷ 9 ∷ []))
    ≡ 0 ∷ 0 ∷ 0 ∷ 15 ∷ codes "mdhd" ++ replicate 7 0
unfolding with_zeros head_of box_header
undated_short = refl
