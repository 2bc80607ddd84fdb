-- A video without its metadata.
use Rattle.std.specs.Global.{Global}
use Rattle.std.specs.Prelude.{Vec, ℕ, List, [], ◌∷◌, ◌++◌, take, drop, Option, Some, None, Result, Ok, Err}
use Rattle.exif_movie.specs.Files.{parts_of}
use Rattle.exif_movie.specs.Parts.{bytes_of}
use Rattle.exif_movie.specs.declared.file.Refusal.{Refusal}
use Rattle.exif_movie.specs.declared.part.Part.{Part}
use Rattle.exif_movie_scrub.specs.Remainders.{settled}
use Rattle.exif_movie_scrub.specs.Requests.{zeroed_of}
use Rattle.exif_movie_scrub.specs.Zeros.{with_zeros}
use Rattle.exif_movie_scrub.specs.declared.fault.Fault.{Fault}
use Rattle.exif_movie_scrub.specs.declared.fault.Fault.TheVariants as fault
use Rattle.exif_movie_scrub.specs.declared.remaining.Remaining.{Remaining}
use Rattle.exif_movie_scrub.specs.declared.request.Request.{Request}

-- a file with other bytes in a part
abbrev pub with_bytes : Part → List ℕ → List ℕ → List ℕ
with_bytes part new file = take part.offset file ++ (new ++ drop part.end file)

-- a file with zeros in a part
abbrev pub part_zeroed : Request → Part → List ℕ → List ℕ
part_zeroed asked part file =
    with_bytes part (with_zeros (zeroed_of asked part) (bytes_of part file)) file

-- a file with zeros in these parts, one after the other
abbrev pub parts_zeroed : Request → List Part → List ℕ → List ℕ
parts_zeroed asked [] file = file
parts_zeroed asked (part ∷ parts) file = parts_zeroed asked parts (part_zeroed asked part file)

-- a file with these parts, with zeros; one whose parts are not listed stays
abbrev pub zeroed_by : Request → List ℕ → Result (List Part) Refusal → List ℕ
zeroed_by asked file (Ok parts) = parts_zeroed asked parts file
zeroed_by asked file (Err refusal) = file

-- a file with zeros in its parts
abbrev pub zeroed_file : Request → List ℕ → List ℕ
zeroed_file asked file = zeroed_by asked file (parts_of file)

-- what is answered where this remains of a new file
abbrev pub answered : Option (List Remaining) → Result (List Remaining) Fault
answered (Some remaining) = Ok remaining
answered None = Err fault.Unstable

-- the new file of one with these parts, and what is answered
abbrev pub scrubbed_by : Request → List ℕ → Result (List Part) Refusal
    → List ℕ × Result (List Remaining) Fault
scrubbed_by asked file (Ok parts) =
    (parts_zeroed asked parts file, answered (settled asked (parts_zeroed asked parts file)))
scrubbed_by asked file (Err refusal) = (file, Err (fault.NotListed refusal))

-- a video without its metadata, and what is answered
abbrev pub scrubbed : Request → List ℕ → List ℕ × Result (List Remaining) Fault
scrubbed asked file = scrubbed_by asked file (parts_of file)

-- the file that a call leaves and its answer, as plain data
abbrev pub scrub_view : List ℕ → Result (Vec Remaining Global) Fault
    → List ℕ × Result (List Remaining) Fault
scrub_view file (Ok remaining) = (file, Ok remaining.items)
scrub_view file (Err reason) = (file, Err reason)
