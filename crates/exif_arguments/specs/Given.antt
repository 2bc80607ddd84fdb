-- What was found of the options, by their names.
use Rattle.std.specs.Prelude.{ℕ, ◌^◌, ◌&&◌, nat_lt, if◌then◌else◌, List, [], map, length, Bool, false, Option, None, Some, is_some, option_map, unwrap_or, codes}
use Rattle.std.specs.Char.{digit_value}
use Rattle.std.specs.List.{list_all}
use Rattle.std.specs.Str.{bytes_eq}
use Rattle.std.specs.Str.Parse.{digits_value, without_leading_plus}
use denote.Ref.{Bor}
use Rattle.clap.specs.Matches.{first_value, found_of, matched_of, raw_values}
use Rattle.clap.specs.declared.parser.matches.ArgMatches.{ArgMatches}

-- the texts that references lead to
abbrev pub texts : List (Bor (List ℕ)) → List (List ℕ)
texts words = map (λ word. word.now) words

-- the text of an option, if it is given
unfoldable pub text_in : ArgMatches → List ℕ → Option (List ℕ)
text_in found id = first_value (found_of found) id

-- a text, or an empty one
abbrev pub or_empty : Option (List ℕ) → List ℕ
or_empty None = []
or_empty (Some text) = text

abbrev pub text_or_empty : ArgMatches → List ℕ → List ℕ
text_or_empty found id = or_empty (text_in found id)

-- whether the text of a flag says that it is given
abbrev pub says_true : Option (List ℕ) → Bool
says_true None = false
says_true (Some text) = bytes_eq text (codes "true")

-- whether a flag is given
abbrev pub flag_in : ArgMatches → List ℕ → Bool
flag_in found id = says_true (text_in found id)

-- whether an option with several texts is given
unfoldable pub is_named : ArgMatches → List ℕ → Bool
is_named found id = is_some (matched_of (found_of found) id)

-- all texts of an option, of all its uses
unfoldable pub words_in : ArgMatches → List ℕ → List (List ℕ)
words_in found id = unwrap_or (option_map raw_values (matched_of (found_of found) id)) []

-- whether digits are one decimal digit or more, whose number has at most 64 bits
abbrev pub are_digits : List ℕ → Bool
are_digits digits =
    nat_lt 0 (length digits) && (list_all (λ digit. nat_lt (digit_value digit) 10) digits
    && nat_lt (digits_value 10 digits) (2 ^ 64))

abbrev pub number_by : List ℕ → Option ℕ
number_by digits = if are_digits digits then Some (digits_value 10 digits) else None

-- the number that a text spells, which may begin with a plus
abbrev pub number_in : List ℕ → Option ℕ
number_in text = number_by (without_leading_plus text)

-- a number, or a million
abbrev pub or_million : Option ℕ → ℕ
or_million None = 1000000
or_million (Some number) = number

-- how many entries are read at most by the text of an option
abbrev pub limit_by : Option (List ℕ) → ℕ
limit_by None = 1000000
limit_by (Some text) = or_million (number_in text)

abbrev pub limit_in : ArgMatches → ℕ
limit_in found = limit_by (text_in found (codes "limit"))
