-- Which pictures the options ask for.
use Rattle.std.specs.Prelude.{ℕ, ◌&&◌, ◌||◌, if◌then◌else◌, List, ◌++◌, Bool, true, false, Option, None, Some, is_some, Result, Ok, Err, codes}
use Rattle.std.specs.List.{list_all, list_any}
use Rattle.exif_decisions.specs.Asking.{fact_named, mistake_text}
use Rattle.exif_decisions.specs.Escaping.{escaped_text}
use Rattle.exif_decisions.specs.declared.mistake.Fact.{Fact}
use Rattle.exif_decisions.specs.declared.mistake.Fact.TheVariants.{Date, Location}
use Rattle.exif_decisions.specs.declared.mistake.Mistake.{Mistake}
use Rattle.exif_decisions.specs.declared.mistake.Mistake.TheVariants.{UnknownFact}
use Rattle.exif_summary.specs.Bounds.{begin_of}
use Rattle.clap.specs.declared.parser.matches.ArgMatches.{ArgMatches}
use Rattle.exif_arguments.specs.Given.{text_in, words_in}
use Rattle.exif_arguments.specs.Views.{TheChoice}

-- what is said of a text that is no date
abbrev pub date_wrong : List ℕ → List ℕ
date_wrong text =
    codes "invalid date '"
    ++ (escaped_text text ++ codes "'; expected e.g. 2024-05-01 or 2024-05-01T12:30")

abbrev pub date_or_wrong : List ℕ → Option ℕ → Result (Option ℕ) (List ℕ)
date_or_wrong text (Some time) = Ok (Some time)
date_or_wrong text None = Err (date_wrong text)

-- the time that the text of an option names, if it is given
abbrev pub date_by : Option (List ℕ) → Result (Option ℕ) (List ℕ)
date_by None = Ok None
date_by (Some text) = date_or_wrong text (begin_of text)

-- whether a name is that of a fact
abbrev pub is_fact : Fact → Result Fact Mistake → Bool
is_fact Date (Ok Date) = true
is_fact Date (Ok Location) = false
is_fact Location (Ok Date) = false
is_fact Location (Ok Location) = true
is_fact fact (Err mistake) = false

-- whether one of some names is that of a fact
abbrev pub names_fact : Fact → List (List ℕ) → Bool
names_fact fact names = list_any (λ name. is_fact fact (fact_named name)) names

-- What is asked of a fact: that a picture does not tell it, wherever `--without` names it, or that
-- it tells it, where only `--where` does.
abbrev pub fact_wanted : Fact → List (List ℕ) → List (List ℕ) → Option Bool
fact_wanted fact required excluded =
    if names_fact fact excluded then Some false else
    if names_fact fact required then Some true else None

abbrev pub is_known : Result Fact Mistake → Bool
is_known (Ok fact) = true
is_known (Err mistake) = false

-- whether each name is that of a fact
abbrev pub are_facts : List (List ℕ) → Bool
are_facts names = list_all (λ name. is_known (fact_named name)) names

-- the conditions, where each fact is one
abbrev pub choice_with : ArgMatches → Option ℕ → Option ℕ → Result TheChoice (List ℕ)
choice_with found after before =
    if are_facts (words_in found (codes "where")) && are_facts (words_in found (codes "without"))
    then Ok (record {
      after = after;
      before = before;
      date = fact_wanted Date (words_in found (codes "where")) (words_in found (codes "without"));
      location =
          fact_wanted Location (words_in found (codes "where")) (words_in found (codes "without"));
      camera = text_in found (codes "camera");
    })
    else Err (mistake_text UnknownFact)

abbrev pub choice_before : ArgMatches → Option ℕ → Result (Option ℕ) (List ℕ)
    → Result TheChoice (List ℕ)
choice_before found after (Ok before) = choice_with found after before
choice_before found after (Err wrong) = Err wrong

abbrev pub choice_after : ArgMatches → Result (Option ℕ) (List ℕ) → Result TheChoice (List ℕ)
choice_after found (Ok after) =
    choice_before found after (date_by (text_in found (codes "before")))
choice_after found (Err wrong) = Err wrong

-- the conditions that the options name, or what is wrong with the first that is
abbrev pub choice_for : ArgMatches → Result TheChoice (List ℕ)
choice_for found = choice_after found (date_by (text_in found (codes "after")))

-- whether there is one
abbrev pub has_condition : TheChoice → Bool
has_condition choice =
    is_some choice.after || (is_some choice.before || (is_some choice.date
    || (is_some choice.location || is_some choice.camera)))
