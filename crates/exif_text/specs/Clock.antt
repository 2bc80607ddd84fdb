-- The texts of dates and of times of day (Exif 2.32, section 4.6.4, DateTime).
use Rattle.std.specs.Prelude.{ℕ, List, ◌++◌, codes}
use Rattle.std.specs.Fmt.{decimal}
use Rattle.exif_text.specs.declared.date.Date.{Date}
use Rattle.exif_text.specs.declared.date.TimeOfDay.{TimeOfDay}
use Rattle.exif_text.specs.Plain.{zero_filled}

-- `2016-05-04`
abbrev pub date_text : Date → List ℕ
date_text d =
    zero_filled 4 (decimal d.year)
    ++ (codes "-" ++ (zero_filled 2 (decimal d.month)
    ++ (codes "-" ++ zero_filled 2 (decimal d.day))))

-- `03:02:01`
abbrev pub time_text : TimeOfDay → List ℕ
time_text t =
    zero_filled 2 (decimal t.hour)
    ++ (codes ":" ++ (zero_filled 2 (decimal t.minute)
    ++ (codes ":" ++ zero_filled 2 (decimal t.second))))
