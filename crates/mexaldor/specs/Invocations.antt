-- What a subcommand and its options ask for.
use Rattle.std.specs.Prelude.{◌≡◌, ℕ, if◌then◌else◌, List, Bool, Option, None, Some, option_map, Result, Ok, Err, codes}
use Rattle.std.specs.Str.{bytes_eq}
use Rattle.exif_session.specs.declared.request.Paging.{Paging}
use Rattle.clap.specs.Matches.{found_of, subcommand_name_of}
use Rattle.clap.specs.declared.parser.matches.ArgMatches.{ArgMatches}
use Rattle.clap.specs.Simple.{subcommand_rows_of}
use Rattle.clap.specs.Walk.{rows_of}
use Rattle.exif_arguments.specs.Asked.{request_of}
use Rattle.exif_arguments.specs.Given.{flag_in, text_in, text_or_empty}
use Rattle.exif_arguments.specs.Views.{TheRequest, request_seen}
use Rattle.mexaldor.specs.declared.invocation.Invocation.{Invocation}
use Rattle.mexaldor.specs.declared.invocation.Invocation.TheVariants.{Tags, Run, Query, Page}

-- the page of a catalogue, and where it is written
pub record ThePage : Type 0 where
  pub database : List ℕ
  pub to : List ℕ
  pub force : Bool

-- what is asked for: the list of tags, a run over files, the answer of a catalogue to a query, or
-- its page
pub data TheInvocation : Type 0 where
  the_tags : TheInvocation
  the_run : TheRequest → TheInvocation
  the_query : List ℕ → List ℕ → TheInvocation
  the_page : ThePage → TheInvocation

abbrev pub page_seen : Paging → ThePage
page_seen paging = record {
  database = paging.database.now;
  to = paging.to.now;
  force = paging.force;
}

abbrev pub invocation_seen : Invocation → TheInvocation
invocation_seen Tags = the_tags
invocation_seen (Run request) = the_run (request_seen request)
invocation_seen (Query database sql) = the_query database.now sql.now
invocation_seen (Page paging) = the_page (page_seen paging)

abbrev pub query_asked : ArgMatches → TheInvocation
query_asked found =
    the_query (text_or_empty found (codes "database")) (text_or_empty found (codes "sql"))

-- a text, or the one that stands for standard output
abbrev pub or_output : Option (List ℕ) → List ℕ
or_output None = codes "-"
or_output (Some text) = text

abbrev pub page_asked : ArgMatches → ThePage
page_asked found = record {
  database = text_or_empty found (codes "database");
  to = or_output (text_in found (codes "out"));
  force = flag_in found (codes "force");
}

abbrev pub run_by : Result TheRequest (List ℕ) → Result TheInvocation (List ℕ)
run_by (Ok request) = Ok (the_run request)
run_by (Err wrong) = Err wrong

-- what a subcommand of this name asks for, or what is wrong with its words
abbrev pub invocation_by : List ℕ → ArgMatches → Result TheInvocation (List ℕ)
invocation_by name found =
    if bytes_eq name (codes "tags") then Ok the_tags else
    if bytes_eq name (codes "query") then Ok (query_asked found) else
    if bytes_eq name (codes "page") then Ok (the_page (page_asked found)) else
    run_by (request_of name found)

-- What the subcommand that a parse met asks for, or what is wrong with its words. `rows_of` are the
-- words that it was given.
abbrev pub Asks : ArgMatches → Result TheInvocation (List ℕ) → Type 0
Asks found answer = (name : List ℕ) × (below : ArgMatches)
    × (subcommand_name_of found ≡ Some name)
    × (option_map (λ it. it.1) (subcommand_rows_of found) ≡ Some (rows_of (found_of below)))
    × (invocation_by name below ≡ answer)
