-- The request that the options make of a task and its files.
use Rattle.std.specs.Prelude.{ℕ, ◌==◌, ◌&&◌, not, if◌then◌else◌, List, [], ◌∷◌, length, Bool, Option, None, Some, is_some, Result, Ok, Err, codes}
use Rattle.std.specs.List.{list_any}
use Rattle.std.specs.Str.{bytes_eq}
use Rattle.exif_decisions.specs.Asking.{is_given, mistake_text}
use Rattle.exif_decisions.specs.declared.mistake.Mistake.{Mistake}
use Rattle.exif_decisions.specs.declared.mistake.Mistake.TheVariants.{ConditionOnInput, NoFile}
use Rattle.exif_files.specs.declared.changing.Keeping.{Keeping}
use Rattle.exif_session.specs.declared.request.Reading.{Reading}
use Rattle.clap.specs.declared.parser.matches.ArgMatches.{ArgMatches}
use Rattle.exif_arguments.specs.Choices.{choice_for, has_condition}
use Rattle.exif_arguments.specs.Given.{flag_in, is_named, limit_in, text_in}
use Rattle.exif_arguments.specs.Views.{TheChoice, TheRequest, TheTask}

-- whether many files may be asked for
abbrev pub takes_many : ArgMatches → Bool
takes_many found =
    is_given (flag_in found (codes "recursive") ∷ flag_in found (codes "null")
    ∷ is_some (text_in found (codes "after")) ∷ is_some (text_in found (codes "before"))
    ∷ is_some (text_in found (codes "camera")) ∷ is_named found (codes "where")
    ∷ is_named found (codes "without") ∷ [])

-- how files are read
abbrev pub reading_for : ArgMatches → Bool → Reading
reading_for found full = record {
  strict = flag_in found (codes "strict");
  limit = limit_in found;
  full = full;
}

-- what is kept of files that are replaced
abbrev pub keeping_for : ArgMatches → Keeping
keeping_for found = record {
  backup = flag_in found (codes "backup");
  times = flag_in found (codes "keep-time");
}

-- whether standard input is named among files
abbrev pub names_input : List (List ℕ) → Bool
names_input files = list_any (λ file. bytes_eq file (codes "-")) files

-- What is wrong with the files: none is named, or standard input is to meet a condition.
abbrev pub files_wrong : List (List ℕ) → Bool → Bool → Option Mistake
files_wrong files from_input on_condition =
    if length files == 0 && not from_input then Some NoFile else
    if on_condition && names_input files then Some ConditionOnInput else None

-- a request, unless something is wrong
abbrev pub unless_wrong : Option Mistake → TheRequest → Result TheRequest (List ℕ)
unless_wrong None request = Ok request
unless_wrong (Some mistake) request = Err (mistake_text mistake)

abbrev pub request_with : TheTask → List (List ℕ) → ArgMatches → TheChoice → TheRequest
request_with task files found choice = record {
  task = task;
  paths = files;
  names_from_input = flag_in found (codes "null");
  recursive = flag_in found (codes "recursive");
  quiet = flag_in found (codes "quiet");
  choice = choice;
}

abbrev pub requested_by : TheTask → List (List ℕ) → ArgMatches → Result TheChoice (List ℕ)
    → Result TheRequest (List ℕ)
requested_by task files found (Ok choice) =
    unless_wrong (files_wrong files (flag_in found (codes "null")) (has_condition choice))
    (request_with task files found choice)
requested_by task files found (Err wrong) = Err wrong

-- the request for a task with files, or what is wrong with the conditions or the files
abbrev pub requested : TheTask → List (List ℕ) → ArgMatches → Result TheRequest (List ℕ)
requested task files found = requested_by task files found (choice_for found)

-- the last of some words
abbrev pub last_of : List (List ℕ) → List ℕ
last_of [] = []
last_of (word ∷ []) = word
last_of (word ∷ (next ∷ words)) = last_of (next ∷ words)

-- and those before it
abbrev pub but_last : List (List ℕ) → List (List ℕ)
but_last [] = []
but_last (word ∷ []) = []
but_last (word ∷ (next ∷ words)) = word ∷ but_last (next ∷ words)
