-- Worked examples: the movie box of a video that ffmpeg 5.1 and exiftool 12.57 wrote, without its
-- track, scrubbed by hand. A video may begin with it.
use Rattle.std.specs.Prelude.{◌≡◌, refl, ℕ, List, [], ◌∷◌, ◌++◌, codes, replicate, Ok, Err}
use Rattle.exif_inventory.specs.BoxHeaders.{box_header, head_of}
use Rattle.exif_movie.specs.Keys.{subject_at}
use Rattle.exif_movie.specs.Bytes.{number}
use Rattle.exif_movie.specs.Pieces.{piece_at}
use Rattle.exif_movie.specs.Walks.{walked}
use Rattle.exif_movie.specs.declared.file.Refusal.TheVariants as refusal
use Rattle.exif_movie_scrub.specs.Scrubbing.{scrubbed}
use Rattle.exif_movie_scrub.specs.Zeros.{with_zeros}
use Rattle.exif_movie_scrub.specs.declared.fault.Fault.TheVariants as fault
use Rattle.exif_movie_scrub.specs.declared.request.Request.TheVariants as request

-- the movie header, with these dates
abbrev header : List ℕ → List ℕ
header dates =
    (0 ∷ 0 ∷ 0 ∷ 108 ∷ codes "mvhd") ++ (0 ∷ 0 ∷ 0 ∷ 0 ∷ dates
    ++ ((0 ∷ 0 ∷ 3 ∷ 0xe8 ∷ 0 ∷ 0 ∷ 3 ∷ 0xe8 ∷ 0 ∷ 1 ∷ 0 ∷ 0 ∷ 1 ∷ []) ++ (replicate 12 0
    ++ (1 ∷ replicate 15 0 ++ (1 ∷ replicate 14 0 ++ (0x40 ∷ replicate 30 0 ++ (2 ∷ [])))))))

abbrev dates : List ℕ
dates = 0xe2 ∷ 0x5e ∷ 0x32 ∷ 0x59 ∷ 0xe2 ∷ 0x5e ∷ 0x32 ∷ 0x59 ∷ []

-- the program and the location in user data
abbrev program : List ℕ
program = (0 ∷ 0 ∷ 0 ∷ 25 ∷ 0xa9 ∷ codes "swr") ++ (0 ∷ 13 ∷ 0x55 ∷ 0xc4 ∷ codes "Lavf59.27.100")

abbrev location : List ℕ
location =
    (0 ∷ 0 ∷ 0 ∷ 30 ∷ 0xa9 ∷ codes "xyz") ++ (0 ∷ 18 ∷ 0 ∷ 0 ∷ codes "+35.6895+139.6917/")

-- free space in place of each
abbrev no_program : List ℕ
no_program = (0 ∷ 0 ∷ 0 ∷ 25 ∷ codes "free") ++ replicate 17 0

abbrev no_location : List ℕ
no_location = (0 ∷ 0 ∷ 0 ∷ 30 ∷ codes "free") ++ replicate 22 0

-- the movie box with this header and user data
abbrev movie : List ℕ → List ℕ → List ℕ
movie head data_of_user =
    (0 ∷ 0 ∷ 0 ∷ 179 ∷ codes "moov") ++ (head ++ ((0 ∷ 0 ∷ 0 ∷ 63 ∷ codes "udta") ++ data_of_user))

-- only the location becomes free space
no_locations : scrubbed request.Locations (movie (header dates) (program ++ location))
    ≡ (movie (header dates) (program ++ no_location), Ok [])
unfolding with_zeros head_of box_header walked piece_at number subject_at
no_locations = refl

-- both become free space, and the dates zeros
no_metadata : scrubbed request.Metadata (movie (header dates) (program ++ location))
    ≡ (movie (header (replicate 8 0)) (no_program ++ no_location), Ok [])
unfolding with_zeros head_of box_header walked piece_at number subject_at
no_metadata = refl

-- a file without a movie box
no_movie : scrubbed request.Metadata location ≡ (location, Err (fault.NotListed refusal.Format))
unfolding head_of box_header
no_movie = refl
