-- The files that wait, and what comes next of each.
use Rattle.std.specs.Prelude.{◌≡◌, ◌⊎◌, ℕ, Bool, true, false, if◌then◌else◌, List, [], ◌∷◌, ◌++◌, map, reverse, Option, Some, None, Result, Ok, Err, string_bytes}
use Rattle.std.specs.Global.{Global}
use Rattle.std.specs.declared.string.String.{String}
use Rattle.std.specs.List.{flat_map}
use Rattle.exif_decisions.specs.Names.{names_listed}
use Rattle.exif_decisions.specs.Paths.{is_inside, name_of}
use Rattle.exif_decisions.specs.Rules.{action_for}
use Rattle.exif_decisions.specs.Tallies.{one_more}
use Rattle.exif_decisions.specs.declared.counts.Counts.{Counts}
use Rattle.exif_decisions.specs.declared.found.NotRead.{NotRead}
use Rattle.exif_decisions.specs.declared.rules.Action.{Action}
use Rattle.exif_decisions.specs.declared.rules.Action.TheVariants as action
use Rattle.exif_decisions.specs.declared.rules.Kind.{Kind}
use Rattle.exif_decisions.specs.declared.rules.Look.{Look}
use Rattle.exif_decisions.specs.declared.rules.Look.TheVariants as look
use Rattle.exif_inputs.specs.declared.pending.Pending as pending
use Rattle.exif_inputs.specs.declared.pending.Next.{Next}
use Rattle.exif_inputs.specs.declared.pending.Next.TheVariants as next
use Rattle.exif_inputs.specs.declared.pending.Waiting.{Waiting}

-- what waits: its path, and whether it was named
abbrev pub waiting_of : Waiting → List ℕ × Bool
waiting_of waiting = (string_bytes waiting.path, waiting.is_named)

abbrev pub named : List ℕ → List ℕ × Bool
named path = (path, true)

-- how files of these paths wait: the last of what waits is next
abbrev pub turned : Bool → List (String Global) → List (List ℕ × Bool)
turned is_named paths = reverse (map (λ path. (path, is_named)) (map string_bytes paths))

-- what waits with the names that bytes list, which come before those that waited; the last is next
abbrev pub with_names : List ℕ → List (List ℕ × Bool) → List (List ℕ × Bool)
with_names names waiting = waiting ++ reverse (map named (names_listed names))

-- some wait that did not, the first of these; so many are left
pub record AreAdded (old new left all : List (List ℕ × Bool)) : Type 0 where
  pub added : List (List ℕ × Bool)
  pub waits : new ≡ old ++ added
  pub parts : added ++ left ≡ all

-- the path of what a listing of a folder names: nothing for the folder itself and the one above
abbrev pub listed_path : List ℕ → List ℕ → List (List ℕ)
listed_path folder name = if is_inside name then (folder ++ name) ∷ [] else []

-- the paths of what it names, in its order
abbrev pub paths_in : List ℕ → List ℕ → List (List ℕ)
paths_in folder listing = flat_map (listed_path folder) (names_listed listing)

-- what is processed next: standard input, a file that was named or found, one that goes with the
-- pictures beside it, or a name that can't be followed
pub data NextFile : Type 0 where
  the_input : NextFile
  the_named : List ℕ → NextFile
  the_found : List ℕ → NextFile
  the_beside : List ℕ → NotRead → NextFile
  the_failed : List ℕ → NextFile

abbrev pub next_file : Next → NextFile
next_file next.Input = the_input
next_file (next.Named path) = the_named (string_bytes path)
next_file (next.Found path) = the_found (string_bytes path)
next_file (next.Beside path why) = the_beside (string_bytes path) why
next_file (next.Failed path cause) = the_failed (string_bytes path)

-- a folder has no answer of its own, unless its names can't be read
abbrev pub entered : {A E : Type 0} → List ℕ → Result A E → Option NextFile
entered path (Ok names) = None
entered path (Err cause) = Some (the_failed path)

-- so whatever is read of it
abbrev pub IsEntered : List ℕ → Option NextFile → Type 0
IsEntered path answer = (answer ≡ None) ⊎ (answer ≡ Some (the_failed path))

-- what comes of an action
abbrev pub IsActed : Action → List ℕ → Option NextFile → Type 0
IsActed action.Process path answer = answer ≡ Some (the_named path)
IsActed action.ProcessPicture path answer = answer ≡ Some (the_found path)
IsActed action.Enter path answer = IsEntered path answer
IsActed action.RefuseFolder path answer = answer ≡ Some (the_failed path)
IsActed action.SkipLink path answer = answer ≡ None
IsActed action.SkipOwn path answer = answer ≡ None
IsActed action.SkipTemporary path answer = answer ≡ None
IsActed action.Ignore path answer = answer ≡ None

-- what is counted of it
abbrev pub counted_action : Action → Counts → Counts
counted_action action.SkipLink counts = record counts { links = one_more counts.links }
counted_action action.SkipOwn counts = record counts { own = one_more counts.own }
counted_action action.SkipTemporary counts = record counts { own = one_more counts.own }
counted_action action.Process counts = counts
counted_action action.ProcessPicture counts = counts
counted_action action.Enter counts = counts
counted_action action.RefuseFolder counts = counts
counted_action action.Ignore counts = counts

-- what comes of a path of a kind, and is counted
pub record IsOfKind (path : List ℕ) (is_named recursive : Bool) (old new : Counts) (answer : Option NextFile) (kind : Kind) : Type 0 where
  pub answered : IsActed (action_for kind is_named (name_of path) recursive) path answer
  pub counted : new ≡ counted_action (action_for kind is_named (name_of path) recursive) old

-- what comes of a path that is looked at: it can't be followed, or it has a kind
abbrev pub IsLookedAt : List ℕ → Bool → Bool → Counts → Counts → Option NextFile → Type 0
IsLookedAt path is_named recursive old new answer =
    ((answer ≡ Some (the_failed path)) × (new ≡ old))
    ⊎ ((kind : Kind) × IsOfKind path is_named recursive old new answer kind)

-- what comes of a name
abbrev pub IsFollowed : Look → List ℕ → Bool → Bool → Counts → Counts → Option NextFile → Type 0
IsFollowed look.Input path is_named recursive old new answer =
    (answer ≡ Some the_input) × (new ≡ old)
IsFollowed look.Unreadable path is_named recursive old new answer =
    (answer ≡ Some (the_failed path)) × (new ≡ old)
IsFollowed look.Path path is_named recursive old new answer =
    IsLookedAt path is_named recursive old new answer

-- the same files, with other counts
abbrev pub with_counts : Counts → pending.Pending → pending.Pending
with_counts new old = record old { counts = new }
