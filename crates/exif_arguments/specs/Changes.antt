-- What the options of the subcommands that change files ask for.
use Rattle.std.specs.Prelude.{ℕ, ◌==◌, ◌||◌, if◌then◌else◌, List, [], ◌∷◌, ◌++◌, length, Bool, Option, None, Some, Result, Ok, Err, codes}
use Rattle.exif_assign.specs.Assigning.{all_assigned_in}
use Rattle.exif_copy.specs.declared.copying.Shape.{Shape}
use Rattle.exif_copy.specs.declared.copying.Shape.TheVariants.{Source, Target}
use Rattle.exif_datetime.specs.Shift.{shift_in}
use Rattle.exif_datetime.specs.declared.shift.ClockShift.{ClockShift}
use Rattle.exif_decisions.specs.Asking.{change_aim, mistake_text}
use Rattle.exif_decisions.specs.Escaping.{escaped_text}
use Rattle.exif_decisions.specs.Rules.{assigns}
use Rattle.exif_decisions.specs.declared.mistake.Aim.{Aim}
use Rattle.exif_decisions.specs.declared.mistake.Aim.TheVariants.{Each, Out}
use Rattle.exif_decisions.specs.declared.mistake.Mistake.{Mistake}
use Rattle.exif_decisions.specs.declared.mistake.Mistake.TheVariants.{BlankAlone, NoAssignment}
use Rattle.exif_session.specs.Flags.{dates_by}
use Rattle.exif_session.specs.Scrubs.{scrub_for}
use Rattle.exif_session.specs.declared.request.Change.{Change}
use Rattle.exif_session.specs.declared.scrubbing.ScrubOptions.{ScrubOptions}
use Rattle.exif_types.specs.declared.tag.Tag.{Tag}
use Rattle.clap.specs.declared.parser.matches.ArgMatches.{ArgMatches}
use Rattle.exif_arguments.specs.Given.{flag_in, text_or_empty, words_in}
use Rattle.exif_arguments.specs.Requests.{but_last, keeping_for, last_of, requested, takes_many}
use Rattle.exif_arguments.specs.Unknown.{unknown_assignment}
use Rattle.exif_arguments.specs.Views.{TheChange, TheRequest, change_seen, the_change, the_copying, the_out, the_place, the_set, the_shift}

-- a change of files in place, or of one file into the one that the last word names
abbrev pub change_to : TheChange → List (List ℕ) → ArgMatches → Result Aim Mistake
    → Result TheRequest (List ℕ)
change_to change files found (Ok Each) =
    requested (the_change change (the_place (keeping_for found))) files found
change_to change files found (Ok Out) =
    requested (the_change change (the_out (last_of files) (flag_in found (codes "force"))))
    (but_last files) found
change_to change files found (Err mistake) = Err (mistake_text mistake)

abbrev pub changing : TheChange → List (List ℕ) → ArgMatches → Result TheRequest (List ℕ)
changing change files found =
    change_to change files found
    (change_aim (flag_in found (codes "in-place")) (takes_many found) (length files))

-- ---- scrub

-- which options of `scrub` are given; one of them has two names
abbrev pub scrub_options : ArgMatches → ScrubOptions
scrub_options found = record {
  keep_orientation = flag_in found (codes "keep-orientation");
  strip_color = flag_in found (codes "strip-color");
  locations_only =
      flag_in found (codes "locations-only") || flag_in found (codes "places-only");
  force_blank = flag_in found (codes "force-blank");
}

abbrev pub scrub_by : ArgMatches → Option Change → Result TheRequest (List ℕ)
scrub_by found (Some change) = changing (change_seen change) (words_in found (codes "word")) found
scrub_by found None = Err (mistake_text BlankAlone)

abbrev pub scrub_asked : ArgMatches → Result TheRequest (List ℕ)
scrub_asked found = scrub_by found (scrub_for (scrub_options found))

-- ---- set

-- values before others
abbrev pub before_values : Result (List (Tag × List ℕ)) (List ℕ)
    → Result (List (Tag × List ℕ)) (List ℕ) → Result (List (Tag × List ℕ)) (List ℕ)
before_values (Ok values) (Ok others) = Ok (values ++ others)
before_values (Ok values) (Err wrong) = Err wrong
before_values (Err wrong) others = Err wrong

abbrev pub assigned_or_wrong : List ℕ → Option (List (Tag × List ℕ))
    → Result (List (Tag × List ℕ)) (List ℕ)
assigned_or_wrong word (Some values) = Ok values
assigned_or_wrong word None = Err (unknown_assignment word)

-- what a word assigns: nothing if it names a file
abbrev pub values_of : List ℕ → Result (List (Tag × List ℕ)) (List ℕ)
values_of word =
    if assigns word then assigned_or_wrong word (all_assigned_in word) else Ok []

-- what words assign, or what is said of the first whose tag is not known
abbrev pub values_in : List (List ℕ) → Result (List (Tag × List ℕ)) (List ℕ)
values_in [] = Ok []
values_in (word ∷ words) = before_values (values_of word) (values_in words)

-- the words that name files
abbrev pub files_among : List (List ℕ) → List (List ℕ)
files_among [] = []
files_among (word ∷ words) =
    if assigns word then files_among words else word ∷ files_among words

abbrev pub set_by : ArgMatches → Result (List (Tag × List ℕ)) (List ℕ)
    → Result TheRequest (List ℕ)
set_by found (Ok values) =
    if length values == 0 then Err (mistake_text NoAssignment)
    else changing (the_set values) (files_among (words_in found (codes "word"))) found
set_by found (Err wrong) = Err wrong

abbrev pub set_asked : ArgMatches → Result TheRequest (List ℕ)
set_asked found = set_by found (values_in (words_in found (codes "word")))

-- ---- shift

-- what is said of a text that is no shift
abbrev pub shift_wrong : List ℕ → List ℕ
shift_wrong text =
    codes "invalid shift '" ++ (escaped_text text ++ codes "'; expected e.g. +1:00 or -2d03:30")

abbrev pub shift_by : ArgMatches → Option ClockShift → Result TheRequest (List ℕ)
shift_by found (Some by) =
    requested (the_change (the_shift by (dates_by (flag_in found (codes "exif"))))
    (the_place (keeping_for found))) (words_in found (codes "word")) found
shift_by found None = Err (shift_wrong (text_or_empty found (codes "by")))

abbrev pub shift_asked : ArgMatches → Result TheRequest (List ℕ)
shift_asked found = shift_by found (shift_in (text_or_empty found (codes "by")))

-- ---- copy

abbrev pub shape_by : Bool → Shape
shape_by keeps = if keeps then Target else Source

abbrev pub copy_asked : ArgMatches → Result TheRequest (List ℕ)
copy_asked found =
    requested (the_copying (record {
      from = text_or_empty found (codes "from");
      selection = record {
        shape = shape_by (flag_in found (codes "keep-target-shape"));
        xmp = flag_in found (codes "xmp");
        color_profile = flag_in found (codes "icc");
      };
      keeping = keeping_for found;
    })) (words_in found (codes "word")) found
