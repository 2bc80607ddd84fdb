-- Strips, tiles and JPEG streams (TIFF 6.0, sections 3, 8, 15 and 22).
use Rattle.std.specs.Prelude.{ℕ, zero, suc, ◌+◌, ◌==◌, Bool, true, false, List, Option, Some, None, Result, Ok, Err, if◌then◌else◌}
use Rattle.exif_base.specs.Bytes.{Reading}
use Rattle.exif_scrub.specs.Entries.{count_of, entry_named, item_at}
use Rattle.exif_scrub.specs.Keeping.{◌>>=◌, stretch_visited}
use Rattle.exif_scrub.specs.Tags.{is_jpeg_compression}
use Rattle.exif_scrub.specs.declared.tiff.fault.Fault.{Fault}
use Rattle.exif_scrub.specs.declared.tiff.fault.Fault.TheVariants.{Broken}
use Rattle.exif_scrub.specs.declared.tiff.pass.Handling.{Handling}
use Rattle.exif_scrub.specs.declared.tiff.pass.Pass.{Pass}

-- whether the strips and tiles are JPEG streams, by the entry of the compression, if there is one
abbrev pub is_jpeg_by : Reading → List ℕ → Option ℕ → Result Bool Fault
is_jpeg_by number old None = Ok false
is_jpeg_by number old (Some e) =
    item_at number old e 0 >>= λ compression. Ok (is_jpeg_compression compression)

-- the same among so many entries
abbrev pub is_jpeg_stored : Reading → List ℕ → ℕ → ℕ → Result Bool Fault
is_jpeg_stored number old count first =
    entry_named number old 259 count first >>= is_jpeg_by number old

-- the new file where a walk comes to the strip of an index, whose offset and length two entries
-- have
abbrev pub strip_visited : Reading → List ℕ → Handling → ℕ → ℕ → ℕ → List ℕ → Result (List ℕ) Fault
strip_visited number old how offsets lengths index new = do
  at ← item_at number old offsets index
  len ← item_at number old lengths index
  stretch_visited how old at len new

-- the same with so many strips, from an index on
abbrev pub strips_from : Reading → List ℕ → Handling → ℕ → ℕ → ℕ → ℕ → List ℕ
    → Result (List ℕ) Fault
strips_from number old how offsets lengths zero index new = Ok new
strips_from number old how offsets lengths (suc left) index new =
    strip_visited number old how offsets lengths index new
    >>= strips_from number old how offsets lengths left (index + 1)

-- the same with all strips of two entries, which have as many values
abbrev pub strips_counted : Reading → List ℕ → Handling → ℕ → ℕ → List ℕ → Result (List ℕ) Fault
strips_counted number old how offsets lengths new = do
  count ← count_of number old offsets
  other ← count_of number old lengths
  if other == count then strips_from number old how offsets lengths count 0 new
      else Err Broken

-- the same with an entry of lengths, if there is one
abbrev pub strips_of : Reading → List ℕ → Handling → ℕ → Option ℕ → List ℕ
    → Result (List ℕ) Fault
strips_of number old how offsets None new = Err Broken
strips_of number old how offsets (Some lengths) new =
    strips_counted number old how offsets lengths new

-- the same with an entry of offsets, if there is one, among so many entries
abbrev pub strips_named : Reading → List ℕ → Handling → ℕ → ℕ → ℕ → Option ℕ → List ℕ
    → Result (List ℕ) Fault
strips_named number old how count first tag None new = Ok new
strips_named number old how count first tag (Some offsets) new =
    entry_named number old tag count first
    >>= λ lengths. strips_of number old how offsets lengths new

-- the new file where a walk comes to what two tags name by offsets and lengths
abbrev pub strips_visited : Reading → List ℕ → Handling → ℕ → ℕ → ℕ → ℕ → List ℕ
    → Result (List ℕ) Fault
strips_visited number old how count first tag other new =
    entry_named number old tag count first
    >>= λ offsets. strips_named number old how count first other offsets new

-- the new file where a walk comes to the strips and tiles of a directory, and to its JPEG stream;
-- whether the strips are streams too was told
abbrev pub picture_stored : Reading → List ℕ → Pass → ℕ → ℕ → Bool → List ℕ
    → Result (List ℕ) Fault
picture_stored number old pass count first is_stream new =
    let how : Handling = record { pass = pass; is_stream = is_stream } in
    strips_visited number old how count first 273 279 new
    >>= λ a. strips_visited number old how count first 324 325 a
    >>= λ b. strips_visited number old (record { pass = pass; is_stream = true }) count first
    513 514 b

-- the same, as the directory tells it
abbrev pub picture_visited : Reading → List ℕ → Pass → ℕ → ℕ → List ℕ → Result (List ℕ) Fault
picture_visited number old pass count first new =
    is_jpeg_stored number old count first
    >>= λ is_stream. picture_stored number old pass count first is_stream new
