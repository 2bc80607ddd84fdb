-- Parts of a video that may still hold a location.
use Rattle.std.specs.Global.{Global}
use Rattle.std.specs.List.{filter_map, list_all}
use Rattle.std.specs.Prelude.{Vec, ℕ, List, Bool, Option, Some, None, Result, Ok, Err, option_map, if◌then◌else◌}
use Rattle.exif_movie.specs.Files.{parts_of}
use Rattle.exif_movie.specs.Parts.{bytes_of}
use Rattle.exif_movie.specs.declared.file.Refusal.{Refusal}
use Rattle.exif_movie.specs.declared.kind.Kind.{Kind}
use Rattle.exif_movie.specs.declared.kind.Kind.TheVariants as kind
use Rattle.exif_movie.specs.declared.kind.Subject.TheVariants as subject
use Rattle.exif_movie.specs.declared.part.Part.{Part}
use Rattle.exif_movie_scrub.specs.Requests.{zeroed_of}
use Rattle.exif_movie_scrub.specs.Zeros.{is_done}
use Rattle.exif_movie_scrub.specs.declared.remaining.Reason.{Reason}
use Rattle.exif_movie_scrub.specs.declared.remaining.Reason.TheVariants as reason
use Rattle.exif_movie_scrub.specs.declared.remaining.Remaining.{Remaining}
use Rattle.exif_movie_scrub.specs.declared.request.Request.{Request}
use Rattle.exif_movie_scrub.specs.declared.zeros.Zeroed.{Zeroed}
use Rattle.exif_movie_scrub.specs.declared.zeros.Zeroed.TheVariants as zeroed

-- why a part of this kind, of which nothing becomes zeros, may hold a location
abbrev pub reason_of : Kind → Option Reason
reason_of kind.TimedHandler = Some reason.TimedSamples
reason_of (kind.UserData subject.Other) = Some reason.Text
reason_of (kind.Item subject.Other) = Some reason.Text
reason_of kind.Unknown = Some reason.NotKnown
reason_of kind.UnknownInner = Some reason.NotKnown
reason_of kind.FilledFree = Some reason.FilledFree
reason_of (kind.Unopened within) = Some reason.NotOpened
reason_of kind.Broken = Some reason.Broken
reason_of k = None

-- a part, if nothing of it becomes zeros though there is a reason
abbrev pub remaining_for : Zeroed → Option Reason → Part → Option Remaining
remaining_for zeroed.Nothing (Some why) part = Some (record { part = part; reason = why })
remaining_for what why part = None

abbrev pub remaining_of : Request → Part → Option Remaining
remaining_of asked part = remaining_for (zeroed_of asked part) (reason_of part.kind) part

-- those of these parts that may hold a location
abbrev pub all_remaining : Request → List Part → List Remaining
all_remaining asked parts = filter_map (remaining_of asked) parts

-- whether nothing of a part is left to become zeros
abbrev pub is_done_part : Request → List ℕ → Part → Bool
is_done_part asked file part = is_done (zeroed_of asked part) (bytes_of part file)

-- what remains of a file with these parts, if nothing of them is left to become zeros
abbrev pub settled_by : Request → List ℕ → Result (List Part) Refusal → Option (List Remaining)
settled_by asked file (Ok parts) =
    if list_all (is_done_part asked file) parts then Some (all_remaining asked parts) else None
settled_by asked file (Err refusal) = None

-- what remains of a file, if nothing of it is left to become zeros
abbrev pub settled : Request → List ℕ → Option (List Remaining)
settled asked file = settled_by asked file (parts_of file)

-- the answer of a call, as plain data
abbrev pub remaining_view : Option (Vec Remaining Global) → Option (List Remaining)
remaining_view found = option_map (λ v. v.items) found
