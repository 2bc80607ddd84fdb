-- How files are counted, and the status of a run.
use Rattle.std.specs.Prelude.{ℕ, ◌+◌, ◌-◌, ◌^◌, min, nat_lt, Bool, true, false, ◌||◌}
use Rattle.exif_decisions.specs.declared.endings.Ending.{Ending}
use Rattle.exif_decisions.specs.declared.endings.Ending.TheVariants.{Xmp, Aae, Thm}
use Rattle.exif_decisions.specs.declared.formats.Unsupported.{Unsupported}
use Rattle.exif_decisions.specs.declared.formats.Unsupported.TheVariants.{Gif, Bmp, Psd, Raw, Video, Jpeg2000, BigTiff, Svg, Pdf}
use Rattle.exif_files.specs.declared.outcome.Status.{Status}
use Rattle.exif_files.specs.declared.outcome.Status.TheVariants.{Success, Incomplete}
use Rattle.exif_files.specs.declared.outcome.Status.TheVariants as status
use Rattle.exif_files.specs.Statuses.{worse}
use Rattle.exif_decisions.specs.declared.counts.Counts.{Counts}
use Rattle.exif_decisions.specs.declared.counts.FormatCounts.{FormatCounts}
use Rattle.exif_decisions.specs.declared.counts.SidecarCounts.{SidecarCounts}
use Rattle.exif_decisions.specs.declared.found.Found.{Found}
use Rattle.exif_decisions.specs.declared.found.Found.TheVariants as found
use Rattle.exif_decisions.specs.declared.found.NotRead.{NotRead}
use Rattle.exif_decisions.specs.declared.found.NotRead.TheVariants as not_read
use Rattle.exif_decisions.specs.declared.outcome.Outcome.{Outcome}
use Rattle.exif_decisions.specs.declared.outcome.Outcome.TheVariants.{Done, Partial, Current, Unchanged, Refused}

-- one more, up to 2^64 - 1
abbrev pub one_more : ℕ → ℕ
one_more n = min (n + 1) (2 ^ 64 - 1)

abbrev pub counted_done : Outcome → ℕ → ℕ
counted_done Done n = one_more n
counted_done Partial n = one_more n
counted_done Current n = n
counted_done Unchanged n = n
counted_done Refused n = n

abbrev pub counted_partial : Outcome → ℕ → ℕ
counted_partial Done n = n
counted_partial Partial n = one_more n
counted_partial Current n = n
counted_partial Unchanged n = n
counted_partial Refused n = n

abbrev pub counted_current : Outcome → ℕ → ℕ
counted_current Done n = n
counted_current Partial n = n
counted_current Current n = one_more n
counted_current Unchanged n = n
counted_current Refused n = n

abbrev pub counted_unchanged : Outcome → ℕ → ℕ
counted_unchanged Done n = n
counted_unchanged Partial n = n
counted_unchanged Current n = n
counted_unchanged Unchanged n = one_more n
counted_unchanged Refused n = n

abbrev pub counted_refused : Outcome → ℕ → ℕ
counted_refused Done n = n
counted_refused Partial n = n
counted_refused Current n = n
counted_refused Unchanged n = n
counted_refused Refused n = one_more n

-- the status after files of which some were refused, or were not wholly done
abbrev pub status_of_files : Bool → Bool → Status
status_of_files true part = status.Refused
status_of_files false true = Incomplete
status_of_files false false = Success

-- the status of a run: the worst of its files', where one that was not read is no success, and of
-- what became of things beside them
abbrev pub status_in : Counts → Status
status_in counts =
    worse (status_of_files (nat_lt 0 counts.refused)
    (nat_lt 0 counts.partial || nat_lt 0 counts.unchanged || nat_lt 0 counts.not_read))
    counts.beside

-- ---- what is counted of a file

-- no file of a format that is not read
abbrev pub no_formats : FormatCounts
no_formats = record {
  gif = 0;
  bmp = 0;
  psd = 0;
  raw = 0;
  video = 0;
  jpeg2000 = 0;
  big_tiff = 0;
  svg = 0;
  pdf = 0;
}

abbrev pub no_sidecars : SidecarCounts
no_sidecars = record { xmp = 0; aae = 0; thm = 0 }

-- no file
abbrev pub no_counts : Counts
no_counts = record {
  done = 0;
  partial = 0;
  current = 0;
  unchanged = 0;
  refused = 0;
  not_read = 0;
  others = 0;
  links = 0;
  own = 0;
  beside = Success;
  formats = no_formats;
  damaged = 0;
  sidecars = no_sidecars;
}

-- one more file of an outcome
abbrev pub counted : Outcome → Counts → Counts
counted outcome counts = record counts {
  done = counted_done outcome counts.done;
  partial = counted_partial outcome counts.partial;
  current = counted_current outcome counts.current;
  unchanged = counted_unchanged outcome counts.unchanged;
  refused = counted_refused outcome counts.refused;
}

-- one more file of a format that is not read
abbrev pub counted_format : Unsupported → FormatCounts → FormatCounts
counted_format Gif counts = record counts { gif = one_more counts.gif }
counted_format Bmp counts = record counts { bmp = one_more counts.bmp }
counted_format Psd counts = record counts { psd = one_more counts.psd }
counted_format Raw counts = record counts { raw = one_more counts.raw }
counted_format Video counts = record counts { video = one_more counts.video }
counted_format Jpeg2000 counts = record counts { jpeg2000 = one_more counts.jpeg2000 }
counted_format BigTiff counts = record counts { big_tiff = one_more counts.big_tiff }
counted_format Svg counts = record counts { svg = one_more counts.svg }
counted_format Pdf counts = record counts { pdf = one_more counts.pdf }

-- one more sidecar, by the ending of its name
abbrev pub counted_sidecar : Ending → SidecarCounts → SidecarCounts
counted_sidecar Xmp counts = record counts { xmp = one_more counts.xmp }
counted_sidecar Aae counts = record counts { aae = one_more counts.aae }
counted_sidecar Thm counts = record counts { thm = one_more counts.thm }
counted_sidecar other counts = counts

-- one more file that was not read, by its kind
abbrev pub counted_kind : NotRead → Counts → Counts
counted_kind (not_read.Format format) counts =
    record counts { formats = counted_format format counts.formats }
counted_kind (not_read.Damaged ending) counts =
    record counts { damaged = one_more counts.damaged }
counted_kind (not_read.Empty ending) counts =
    record counts { damaged = one_more counts.damaged }
counted_kind (not_read.Sidecar ending) counts =
    record counts { sidecars = counted_sidecar ending counts.sidecars }

-- one more file that was found in a folder, and is skipped unless it is a picture
abbrev pub skipped : Found → Counts → Counts
skipped found.Picture counts = counts
skipped (found.NotRead why) counts =
    counted_kind why (record counts { not_read = one_more counts.not_read })
skipped found.Other counts = record counts { others = one_more counts.others }

-- a sum, up to 2^64 - 1
abbrev pub plus : ℕ → ℕ → ℕ
plus a b = min (a + b) (2 ^ 64 - 1)

-- how many files that were found in folders were skipped
abbrev pub skipped_count : Counts → ℕ
skipped_count counts =
    plus (plus (plus counts.not_read counts.others) counts.links) counts.own
