-- What a page shows of a picture, by what is known of it.
use Rattle.std.specs.Prelude.{ℕ, List, Option, option_map, option_and_then}
use denote.Ref.{Bor}
use Rattle.exif_page.specs.Cameras.{camera_of}
use Rattle.exif_page.specs.Dates.{day_of, time_of}
use Rattle.exif_page.specs.Exposures.{exposure_of}
use Rattle.exif_page.specs.declared.facts.Facts.{Facts}

-- the text that is borrowed, if there is one
abbrev pub now_of : Option (Bor (List ℕ)) → Option (List ℕ)
now_of text = option_map (λ t. t.now) text

-- the day
abbrev pub day_of_facts : Facts → Option (List ℕ)
day_of_facts facts = option_and_then day_of (now_of facts.date_taken)

-- the time
abbrev pub time_of_facts : Facts → Option (List ℕ)
time_of_facts facts = option_and_then time_of (now_of facts.date_taken)

-- the camera
abbrev pub camera_of_facts : Facts → Option (List ℕ)
camera_of_facts facts = camera_of (now_of facts.make) (now_of facts.model)

-- the exposure
abbrev pub exposure_of_facts : Facts → Option (List ℕ)
exposure_of_facts facts =
    exposure_of (now_of facts.exposure.time) (now_of facts.exposure.f_number)
    (now_of facts.exposure.iso) (now_of facts.exposure.focal_length)
