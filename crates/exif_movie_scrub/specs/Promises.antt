-- What is promised of a scrubbed video.
use Rattle.std.specs.Prelude.{◌≡◌, ℕ, List, length, All, Bool, true, false, Result, Ok, Err}
use Rattle.exif_movie.specs.Parts.{AreParts, bytes_of}
use Rattle.exif_movie.specs.declared.file.Refusal.{Refusal}
use Rattle.exif_movie.specs.declared.kind.Kind.{Kind}
use Rattle.exif_movie.specs.declared.kind.Kind.TheVariants as kind
use Rattle.exif_movie.specs.declared.kind.Subject.TheVariants as subject
use Rattle.exif_movie.specs.declared.part.Part.{Part}
use Rattle.exif_movie_scrub.specs.Requests.{zeroed_of}
use Rattle.exif_movie_scrub.specs.Zeros.{is_undated, with_zeros}
use Rattle.exif_movie_scrub.specs.declared.request.Request.{Request}

-- the bytes of a part become what its kind asks for
abbrev pub Becomes : Request → List ℕ → List ℕ → Part → Type 0
Becomes asked old new part =
    bytes_of part new ≡ with_zeros (zeroed_of asked part) (bytes_of part old)

-- so those of all parts, which together are the file; one whose parts are not listed stays
abbrev pub AllBecome : Request → List ℕ → List ℕ → Result (List Part) Refusal → Type 0
AllBecome asked old new (Err refusal) = new ≡ old
AllBecome asked old new (Ok parts) =
    AreParts 0 parts (length old) × All (Becomes asked old new) parts

-- whether a part is played, or players may need it
abbrev pub is_played : Kind → Bool
is_played kind.MediaData = true
is_played kind.Structure = true
is_played kind.Handler = true
is_played kind.TimedHandler = true
is_played kind.SampleChunks = true
is_played kind.SampleSizes = true
is_played kind.ChunkOffsets = true
is_played kind.LongChunkOffsets = true
is_played kind.UnknownInner = true
is_played (kind.Header within) = true
is_played (kind.Unopened within) = true
is_played k = false

-- such a part has its bytes
abbrev pub KeepsPlayed : List ℕ → List ℕ → Part → Type 0
KeepsPlayed old new part = is_played part.kind ≡ true → bytes_of part new ≡ bytes_of part old

-- so all parts of a file; one whose parts are not listed stays
abbrev pub VideoStays : List ℕ → List ℕ → Result (List Part) Refusal → Type 0
VideoStays old new (Err refusal) = new ≡ old
VideoStays old new (Ok parts) = All (KeepsPlayed old new) parts

-- whether a part is a text or an item of a location, or may hold one in a form that is not judged
abbrev pub may_state_location : Kind → Bool
may_state_location (kind.UserData subject.Location) = true
may_state_location (kind.Item subject.Location) = true
may_state_location kind.Xmp = true
may_state_location kind.Xml = true
may_state_location kind.Telemetry = true
may_state_location k = false

-- whether a part is metadata, free space with other bytes than zeros, or of an unknown type
abbrev pub is_metadata : Kind → Bool
is_metadata (kind.UserData s) = true
is_metadata (kind.Item s) = true
is_metadata kind.Xmp = true
is_metadata kind.Xml = true
is_metadata kind.Telemetry = true
is_metadata kind.Keys = true
is_metadata kind.FilledFree = true
is_metadata kind.Unknown = true
is_metadata k = false

-- the parts of a file are listed
abbrev pub HasParts : Result (List Part) Refusal → Type 0
HasParts (Ok parts) = Unit
HasParts (Err refusal) = ⊥

-- they are listed, and none of them is such
abbrev pub NoneIs : (Kind → Bool) → Result (List Part) Refusal → Type 0
NoneIs test (Ok parts) = All (λ part. test part.kind ≡ false) parts
NoneIs test (Err refusal) = ⊥

-- whether a part is a header with dates
abbrev pub has_dates : Kind → Bool
has_dates kind.MovieHeader = true
has_dates kind.TrackHeader = true
has_dates kind.MediaHeader = true
has_dates k = false

-- the dates of such a part are zeros
abbrev pub IsUndated : List ℕ → Part → Type 0
IsUndated file part = has_dates part.kind ≡ true → is_undated (bytes_of part file) ≡ true

-- the parts are listed, and so are those of all of them
abbrev pub AllUndated : List ℕ → Result (List Part) Refusal → Type 0
AllUndated file (Ok parts) = All (IsUndated file) parts
AllUndated file (Err refusal) = ⊥
