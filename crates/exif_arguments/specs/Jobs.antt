-- What the options of the subcommands for many pictures ask for.
use Rattle.std.specs.Prelude.{ℕ, if◌then◌else◌, not, List, [], ◌∷◌, ◌++◌, length, Bool, true, false, Option, None, Some, is_some, Result, Ok, Err, codes}
use Rattle.std.specs.Str.{chars}
use Rattle.exif_decisions.specs.Asking.{mistake_text, thumbnail_aim, undo_mistake}
use Rattle.exif_decisions.specs.Escaping.{escaped_text}
use Rattle.exif_decisions.specs.declared.mistake.Aim.{Aim}
use Rattle.exif_decisions.specs.declared.mistake.Aim.TheVariants.{Each, Out}
use Rattle.exif_decisions.specs.declared.mistake.Mistake.{Mistake}
use Rattle.exif_decisions.specs.declared.mistake.Mistake.TheVariants.{NoPattern}
use Rattle.exif_geotag.specs.Gaps.{gap_by}
use Rattle.exif_geotag.specs.Times.{is_offset}
use Rattle.exif_rename.specs.Patterns.{parsed}
use Rattle.exif_rename.specs.Texts.{pattern_text}
use Rattle.exif_rename.specs.declared.dates.DateTag.{DateTag}
use Rattle.exif_rename.specs.declared.pattern.Part.{Part}
use Rattle.exif_rename.specs.declared.pattern.PatternError.{PatternError}
use Rattle.exif_session.specs.Flags.{cells_by, date_tag_by, form_by, separator_by}
use Rattle.exif_session.specs.declared.flags.UnknownDate.{UnknownDate}
use Rattle.exif_types.specs.declared.tag.Tag.{Tag}
use Rattle.clap.specs.declared.parser.matches.ArgMatches.{ArgMatches}
use Rattle.exif_arguments.specs.Given.{flag_in, or_empty, text_in, text_or_empty, words_in}
use Rattle.exif_arguments.specs.Requests.{but_last, keeping_for, last_of, reading_for, requested, takes_many}
use Rattle.exif_arguments.specs.Unknown.{tags_in}
use Rattle.exif_arguments.specs.Views.{TheRequest, the_catalog, the_check, the_geotag, the_json, the_rename, the_show, the_summary, the_table, the_thumbnail, the_thumbnails, the_touch, the_undo}

-- ---- show, json and check

abbrev pub show_asked : ArgMatches → Result TheRequest (List ℕ)
show_asked found =
    requested (the_show (reading_for found (flag_in found (codes "full"))))
    (words_in found (codes "word")) found

abbrev pub json_with : ArgMatches → Result (List Tag) (List ℕ) → Result TheRequest (List ℕ)
json_with found (Ok tags) =
    requested (the_json (reading_for found true) (Some tags)) (words_in found (codes "word")) found
json_with found (Err wrong) = Err wrong

abbrev pub json_by : ArgMatches → Option (List ℕ) → Result TheRequest (List ℕ)
json_by found None =
    requested (the_json (reading_for found true) None) (words_in found (codes "word")) found
json_by found (Some list) = json_with found (tags_in list)

-- the flat object, all fields, or those of some tags
abbrev pub json_asked : ArgMatches → Result TheRequest (List ℕ)
json_asked found =
    if flag_in found (codes "summary")
    then requested (the_summary (reading_for found true)) (words_in found (codes "word")) found
    else json_by found (text_in found (codes "tags"))

abbrev pub check_asked : ArgMatches → Result TheRequest (List ℕ)
check_asked found =
    requested
    (the_check (form_by (flag_in found (codes "json"))) (flag_in found (codes "strict")))
    (words_in found (codes "word")) found

-- ---- table

abbrev pub table_by : ArgMatches → Result (List Tag) (List ℕ) → Result TheRequest (List ℕ)
table_by found (Ok tags) =
    requested (the_table (record {
      reading = reading_for found false;
      tags = tags;
      form = cells_by (flag_in found (codes "raw"));
      separator = separator_by (flag_in found (codes "tsv"));
      header = flag_in found (codes "header");
    })) (words_in found (codes "word")) found
table_by found (Err wrong) = Err wrong

abbrev pub table_asked : ArgMatches → Result TheRequest (List ℕ)
table_asked found = table_by found (tags_in (text_or_empty found (codes "tags")))

-- ---- thumbnail

abbrev pub thumbnail_to : List (List ℕ) → ArgMatches → Result Aim Mistake
    → Result TheRequest (List ℕ)
thumbnail_to files found (Ok Each) =
    requested
    (the_thumbnails (text_or_empty found (codes "into")) (flag_in found (codes "force")))
    files found
thumbnail_to files found (Ok Out) =
    requested (the_thumbnail (last_of files) (flag_in found (codes "force")))
    (but_last files) found
thumbnail_to files found (Err mistake) = Err (mistake_text mistake)

abbrev pub thumbnail_with : List (List ℕ) → ArgMatches → Result TheRequest (List ℕ)
thumbnail_with files found =
    thumbnail_to files found
    (thumbnail_aim (is_some (text_in found (codes "into"))) (takes_many found) (length files))

abbrev pub thumbnail_asked : ArgMatches → Result TheRequest (List ℕ)
thumbnail_asked found = thumbnail_with (words_in found (codes "word")) found

-- ---- rename

abbrev pub is_empty : List (List ℕ) → Bool
is_empty [] = true
is_empty (word ∷ words) = false

-- what is given beside the file of a run that is taken back
abbrev pub beside_undo : ArgMatches → List Bool
beside_undo found =
    is_some (text_in found (codes "pattern")) ∷ is_some (text_in found (codes "into"))
    ∷ is_some (text_in found (codes "date")) ∷ not (is_empty (words_in found (codes "word")))
    ∷ flag_in found (codes "copy") ∷ takes_many found ∷ []

abbrev pub undo_by : List ℕ → ArgMatches → Option Mistake → Result TheRequest (List ℕ)
undo_by file found None =
    requested (the_undo (flag_in found (codes "dry-run"))) (file ∷ []) found
undo_by file found (Some mistake) = Err (mistake_text mistake)

-- the run whose lines a file has, taken back
abbrev pub undo_asked : List ℕ → ArgMatches → Result TheRequest (List ℕ)
undo_asked file found = undo_by file found (undo_mistake (beside_undo found))

-- what is said of a name that is no date
abbrev pub date_wrong : List ℕ → List ℕ
date_wrong name =
    codes "unknown date '"
    ++ (escaped_text name
    ++ codes "'; expected DateTimeOriginal, DateTimeDigitized (or CreateDate) or DateTime (or ModifyDate)")

abbrev pub date_or_wrong : Option (List ℕ) → Result (Option DateTag) UnknownDate
    → Result (Option DateTag) (List ℕ)
date_or_wrong name (Ok tag) = Ok tag
date_or_wrong name (Err unknown) = Err (date_wrong (or_empty name))

-- the date that gives new names, if one is chosen
abbrev pub date_in : ArgMatches → Result (Option DateTag) (List ℕ)
date_in found =
    date_or_wrong (text_in found (codes "date")) (date_tag_by (text_in found (codes "date")))

-- what is said of a text that is no pattern
abbrev pub pattern_wrong : List ℕ → PatternError → List ℕ
pattern_wrong text error =
    codes "invalid pattern '" ++ (escaped_text text ++ (codes "': " ++ pattern_text error))

abbrev pub rename_with : List ℕ → ArgMatches → Option DateTag → Result (List Part) PatternError
    → Result TheRequest (List ℕ)
rename_with text found date (Ok pattern) =
    requested (the_rename (record {
      pattern = pattern;
      date = date;
      into = text_in found (codes "into");
      copy = flag_in found (codes "copy");
      dry_run = flag_in found (codes "dry-run");
    })) (words_in found (codes "word")) found
rename_with text found date (Err error) = Err (pattern_wrong text error)

abbrev pub rename_dated : List ℕ → ArgMatches → Result (Option DateTag) (List ℕ)
    → Result TheRequest (List ℕ)
rename_dated text found (Ok date) = rename_with text found date (parsed (chars text))
rename_dated text found (Err wrong) = Err wrong

abbrev pub rename_by : ArgMatches → Option (List ℕ) → Result TheRequest (List ℕ)
rename_by found (Some text) = rename_dated text found (date_in found)
rename_by found None = Err (mistake_text NoPattern)

abbrev pub rename_or_undo : ArgMatches → Option (List ℕ) → Result TheRequest (List ℕ)
rename_or_undo found (Some file) = undo_asked file found
rename_or_undo found None = rename_by found (text_in found (codes "pattern"))

-- a run taken back where one is named, or else files renamed by a pattern
abbrev pub rename_asked : ArgMatches → Result TheRequest (List ℕ)
rename_asked found = rename_or_undo found (text_in found (codes "undo"))

-- ---- touch and geotag

-- what is said of a text that is no offset
abbrev pub offset_wrong : List ℕ → List ℕ
offset_wrong text =
    codes "invalid offset '" ++ (escaped_text text ++ codes "'; expected e.g. +02:00")

abbrev pub offset_by : List ℕ → Result (List ℕ) (List ℕ)
offset_by text = if is_offset text then Ok text else Err (offset_wrong text)

-- the offset from UTC of pictures that name none
abbrev pub offset_in : ArgMatches → Result (List ℕ) (List ℕ)
offset_in found = offset_by (text_or_empty found (codes "offset"))

abbrev pub touch_by : ArgMatches → Result (List ℕ) (List ℕ) → Result TheRequest (List ℕ)
touch_by found (Ok zone) = requested (the_touch zone) (words_in found (codes "word")) found
touch_by found (Err wrong) = Err wrong

abbrev pub touch_asked : ArgMatches → Result TheRequest (List ℕ)
touch_asked found = touch_by found (offset_in found)

-- what is said of a text that is no gap
abbrev pub gap_wrong : List ℕ → List ℕ
gap_wrong text =
    codes "invalid gap '"
    ++ (escaped_text text ++ codes "'; expected seconds from 0 to 864000, e.g. 300")

abbrev pub gap_or_wrong : Option (List ℕ) → Option ℕ → Result ℕ (List ℕ)
gap_or_wrong text (Some gap) = Ok gap
gap_or_wrong text None = Err (gap_wrong (or_empty text))

-- how far two points of a track may be apart, in milliseconds
abbrev pub gap_in : ArgMatches → Result ℕ (List ℕ)
gap_in found =
    gap_or_wrong (text_in found (codes "max-gap")) (gap_by (text_in found (codes "max-gap")))

abbrev pub geotag_with : ArgMatches → List ℕ → Result ℕ (List ℕ) → Result TheRequest (List ℕ)
geotag_with found zone (Ok gap) =
    requested (the_geotag (record {
      track = text_or_empty found (codes "track");
      zone = zone;
      max_gap = gap;
      overwrite = flag_in found (codes "overwrite");
      keeping = keeping_for found;
    })) (words_in found (codes "word")) found
geotag_with found zone (Err wrong) = Err wrong

abbrev pub geotag_by : ArgMatches → Result (List ℕ) (List ℕ) → Result TheRequest (List ℕ)
geotag_by found (Ok zone) = geotag_with found zone (gap_in found)
geotag_by found (Err wrong) = Err wrong

abbrev pub geotag_asked : ArgMatches → Result TheRequest (List ℕ)
geotag_asked found = geotag_by found (offset_in found)

-- ---- catalog

abbrev pub catalog_asked : ArgMatches → Result TheRequest (List ℕ)
catalog_asked found =
    requested (the_catalog (record {
      database = text_or_empty found (codes "database");
      reading = reading_for found false;
      hash = flag_in found (codes "hash");
    })) (words_in found (codes "word")) found
