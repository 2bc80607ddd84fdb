-- A worked example: dates that were moved and moved back, of a file of which the laws speak.
use Rattle.std.specs.Prelude.{ℕ, ◌≡◌, refl, false, List, [], ◌∷◌, ◌++◌, codes, Ok}
use Rattle.exif_tiff.specs.Answers.{raw_answer}
use Rattle.exif_tiff.specs.Trace.{ordered_trace, trace}
use Rattle.exif_text.specs.Dates.{parse_datetime}
use Rattle.exif_containers.specs.Container.{answer_as, container_answer, format_in}
use Rattle.exif_containers.specs.Located.{located_answer, located_as}
use Rattle.exif_edit_base.specs.Finding.{find_answer}
use Rattle.exif_edit_base.specs.Locations.{located}
use Rattle.exif_edit_base.specs.Readings.{reading}
use Rattle.exif_edit.specs.Setting.{checked_patches, set_patches, value_answer}
use Rattle.exif_edit.specs.InFiles.{file_patches}
use Rattle.exif_datetime.specs.Calendar.{days_before_month, days_before_year, month_from, year_from}
use Rattle.exif_datetime.specs.Shift.{opposite}
use Rattle.exif_datetime.specs.declared.shift.ClockShift.{ClockShift}
use Rattle.exif_change.specs.Changed.{whole}
use Rattle.exif_change.specs.Reading.{data_contents}
use Rattle.exif_setting.specs.Shifting.{shifted}
use Rattle.exif_setting.specs.declared.dates.Dates.TheVariants as dates
use Rattle.exif_change_laws.specs.Positions.{KeepsPositions}

-- a TIFF file with two dates: the entry of the one in the first directory, of the other in the Exif
-- directory
abbrev dated : List ℕ → List ℕ → List ℕ
dated changed taken =
    codes "II*\0"
    ++ (8 ∷ 0 ∷ 0 ∷ 0
    ∷ 2 ∷ 0
    ∷ 50 ∷ 1 ∷ 2 ∷ 0 ∷ 20 ∷ 0 ∷ 0 ∷ 0 ∷ 38 ∷ 0 ∷ 0 ∷ 0
    ∷ 105 ∷ 135 ∷ 4 ∷ 0 ∷ 1 ∷ 0 ∷ 0 ∷ 0 ∷ 58 ∷ 0 ∷ 0 ∷ 0
    ∷ 0 ∷ 0 ∷ 0 ∷ 0 ∷ [])
    ++ changed ++ 0
    ∷ 1 ∷ 0
    ∷ 3 ∷ 144 ∷ 2 ∷ 0 ∷ 20 ∷ 0 ∷ 0 ∷ 0 ∷ 76 ∷ 0 ∷ 0 ∷ 0
    ∷ 0 ∷ 0 ∷ 0 ∷ 0 ∷ taken ++ 0 ∷ []

abbrev old : List ℕ
old = dated (codes "2020:02:28 23:30:00") (codes "2019:12:31 23:59:59")

abbrev new : List ℕ
new = dated (codes "2020:03:01 00:15:01") (codes "2020:01:02 00:45:00")

-- a day, 45 minutes and a second later
abbrev later : ClockShift
later = record { seconds = 89101; is_back = false }

there : shifted later dates.All old ≡ Ok (whole new)
unfolding container_answer answer_as format_in located_answer located_as data_contents raw_answer file_patches set_patches checked_patches find_answer value_answer reading located trace ordered_trace parse_datetime days_before_year days_before_month year_from month_from
there = refl

-- and back: the old file
again : shifted (opposite later) dates.All new ≡ Ok (whole old)
unfolding container_answer answer_as format_in located_answer located_as data_contents raw_answer file_patches set_patches checked_patches find_answer value_answer reading located trace ordered_trace parse_datetime days_before_year days_before_month year_from month_from
again = refl

-- each date was set where the old file has it
keeps : KeepsPositions later dates.All old new old
unfolding container_answer answer_as format_in located_answer located_as data_contents raw_answer file_patches set_patches checked_patches find_answer value_answer reading located trace ordered_trace parse_datetime days_before_year days_before_month year_from month_from
keeps = record {
  there = (refl, (refl, (refl, tt)));
  again = (refl, (refl, (refl, tt)));
  extents = refl;
}

-- the same in a JPEG stream: behind its Exif segment it ends
abbrev in_jpeg : List ℕ → List ℕ
in_jpeg bytes = 255 ∷ 216 ∷ 255 ∷ 225 ∷ 0 ∷ 104 ∷ codes "Exif\0\0" ++ bytes ++ 255 ∷ 217 ∷ []

there_in_jpeg : shifted later dates.All (in_jpeg old) ≡ Ok (whole (in_jpeg new))
unfolding container_answer answer_as format_in located_answer located_as data_contents raw_answer file_patches set_patches checked_patches find_answer value_answer reading located trace ordered_trace parse_datetime days_before_year days_before_month year_from month_from
there_in_jpeg = refl

-- there too each date was set where the old file has it
keeps_in_jpeg : KeepsPositions later dates.All (in_jpeg old) (in_jpeg new) (in_jpeg old)
unfolding container_answer answer_as format_in located_answer located_as data_contents raw_answer file_patches set_patches checked_patches find_answer value_answer reading located trace ordered_trace parse_datetime days_before_year days_before_month year_from month_from
keeps_in_jpeg = record {
  there = (refl, (refl, (refl, tt)));
  again = (refl, (refl, (refl, tt)));
  extents = refl;
}
