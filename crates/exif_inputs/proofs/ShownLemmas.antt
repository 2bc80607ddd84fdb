-- What is read at a place of bytes.
use Rattle.std.proofs.Common.{◌≡◌, ◌+◌, ℕ, List, ap, le-ltb, length, lt-ltb}
use Rattle.std.specs.Prelude.{IfOk, Result, Ok, Err}
use Rattle.exif_thumbnails.specs.Places.{IsReadAt}
use Rattle.exif_thumbnails.specs.Seen.{jpeg, shown}
use Rattle.exif_thumbnails.specs.declared.place.Place.{Place}
use Rattle.exif_thumbnails.specs.declared.reading.Thumbnail.{Thumbnail}
use Rattle.exif_thumbnails.specs.declared.reading.Thumbnail.TheVariants.{CutOff, Item, Jpeg, TooLong}
use Rattle.exif_types.specs.Failures.{Failure}
use Rattle.exif_inputs.specs.Shown.{place_shown}

-- what is read at a place is what bytes have there
pub place_from : (place : Place) (bytes : List ℕ) (found : Thumbnail) → IsReadAt place bytes found → shown found ≡ place_shown bytes place
place_from place bytes (Jpeg found) is =
    rw (le-ltb 1048576 place.len is.0, le-ltb (length bytes) (place.offset + place.len) is.1) (ap jpeg is.2)
place_from place bytes TooLong is = rw (lt-ltb 1048576 place.len is)
place_from place bytes CutOff is =
    rw (le-ltb 1048576 place.len is.0, lt-ltb (length bytes) (place.offset + place.len) is.1)
place_from place bytes (Item coding) is = absurd is

pub ok_place : (place : Place) (bytes : List ℕ) (result : Result Thumbnail Failure)
    → IfOk result (λ found. IsReadAt place bytes found) → IfOk result (λ found. shown found ≡ place_shown bytes place)
ok_place place bytes (Ok found) is = place_from place bytes found is
ok_place place bytes (Err why) is = tt
