-- What is played stays, and no metadata are found again.
use Rattle.std.proofs.Common.{◌≡◌, ℕ, Bool, true, false, List, [], ◌∷◌, length, All, Result, Ok, Err, refl, sym, ◌∙◌, subst, arith}
use Rattle.std.proofs.lemmas.List.Elements.{All-cons, All-nil, All-weaker}
use Rattle.std.specs.List.{list_all}
use Rattle.exif_movie.specs.Files.{parts_of}
use Rattle.exif_movie.specs.Parts.{bytes_of}
use Rattle.exif_movie.specs.declared.file.Refusal.{Refusal}
use Rattle.exif_movie.specs.declared.kind.Kind.{Kind}
use Rattle.exif_movie.specs.declared.kind.Kind.TheVariants as kind
use Rattle.exif_movie.specs.declared.kind.Subject.{Subject}
use Rattle.exif_movie.specs.declared.kind.Subject.TheVariants as subject
use Rattle.exif_movie.specs.declared.part.Part.{Part}
use Rattle.exif_movie.proofs.PartOrder.{video_ordered}
use Rattle.exif_movie_scrub.specs.Promises.{AllBecome, AllUndated, Becomes, IsUndated, KeepsPlayed, NoneIs, VideoStays, has_dates, is_metadata, is_played, may_state_location}
use Rattle.exif_movie_scrub.specs.Remainders.{is_done_part}
use Rattle.exif_movie_scrub.specs.Requests.{kind_zeroed, subject_zeroed}
use Rattle.exif_movie_scrub.specs.Scrubbing.{scrubbed, zeroed_by, zeroed_file}
use Rattle.exif_movie_scrub.specs.Zeros.{is_done, is_undated, with_zeros}
use Rattle.exif_movie_scrub.specs.declared.remaining.Remaining.{Remaining}
use Rattle.exif_movie_scrub.specs.declared.request.Request.{Request}
use Rattle.exif_movie_scrub.specs.declared.request.Request.TheVariants as request
use Rattle.exif_movie_scrub.proofs.PartSteps.{each_becomes}
use Rattle.exif_movie_scrub.proofs.Twice.{both_true, scrubbed_settled, settled_is}
use Rattle.exif_movie_scrub.proofs.ZeroSteps.{nothing_stays}

-- nothing of what is played becomes zeros
played_stays : (asked : Request) (k : Kind) (bytes : List ℕ) → is_played k ≡ true → with_zeros (kind_zeroed asked k) bytes ≡ bytes
played_stays asked kind.MediaData bytes h = nothing_stays bytes
played_stays asked kind.Structure bytes h = nothing_stays bytes
played_stays asked kind.Handler bytes h = nothing_stays bytes
played_stays asked kind.TimedHandler bytes h = nothing_stays bytes
played_stays asked kind.SampleChunks bytes h = nothing_stays bytes
played_stays asked kind.SampleSizes bytes h = nothing_stays bytes
played_stays asked kind.ChunkOffsets bytes h = nothing_stays bytes
played_stays asked kind.LongChunkOffsets bytes h = nothing_stays bytes
played_stays asked kind.UnknownInner bytes h = nothing_stays bytes
played_stays asked (kind.Header within) bytes h = nothing_stays bytes
played_stays asked (kind.Unopened within) bytes h = nothing_stays bytes
played_stays asked k bytes h = absurd (cc)

pub record Kept (asked : Request) (old new : List ℕ) (found : Result (List Part) Refusal) : Type 0 where
  pub long : length new ≡ length old
  pub played : VideoStays old new found
  pub each : AllBecome asked old new found

pub kept : (asked : Request) (file : List ℕ) → Kept asked file (zeroed_file asked file) (parts_of file)
kept asked file = by (parts_of file) refl
  where
    by : (r : Result (List Part) Refusal) → parts_of file ≡ r → Kept asked file (zeroed_by asked file r) r
    by (Err refusal) p = record { long = refl; played = refl; each = refl }
    by (Ok parts) p =
        let new = zeroed_by asked file (Ok parts) in
        let o = video_ordered file parts p in
        let b = each_becomes asked 0 parts (length file) file o (omega arith) in
        record {
          long = b.long;
          played = All-weaker (Becomes asked file new) (KeepsPlayed file new)
              (λ part c. λ t. c ∙ played_stays asked part.kind (bytes_of part file) t) parts b.each;
          each = (o, b.each);
        }

-- ---- what is not found again

text_done : (asked : Request) (s : Subject) (bytes : List ℕ) → is_done (subject_zeroed asked s) bytes ≡ true → may_state_location (kind.UserData s) ≡ false
text_done asked subject.Location bytes h = absurd (cc)
text_done asked s bytes h = refl

item_done : (asked : Request) (s : Subject) (bytes : List ℕ) → is_done (subject_zeroed asked s) bytes ≡ true → may_state_location (kind.Item s) ≡ false
item_done asked subject.Location bytes h = absurd (cc)
item_done asked s bytes h = refl

-- that of which nothing is left to become zeros states no location
no_location : (asked : Request) (k : Kind) (bytes : List ℕ) → is_done (kind_zeroed asked k) bytes ≡ true → may_state_location k ≡ false
no_location asked (kind.UserData s) bytes h = text_done asked s bytes h
no_location asked (kind.Item s) bytes h = item_done asked s bytes h
no_location asked kind.Xmp bytes h = absurd (cc)
no_location asked kind.Xml bytes h = absurd (cc)
no_location asked kind.Telemetry bytes h = absurd (cc)
no_location asked k bytes h = refl

subject_done : (s : Subject) (bytes : List ℕ) → is_done (subject_zeroed request.Metadata s) bytes ≡ true → true ≡ false
subject_done subject.Location bytes h = absurd (cc)
subject_done s bytes h = absurd (cc)

-- where all metadata are taken out, it is none
no_metadata : (k : Kind) (bytes : List ℕ) → is_done (kind_zeroed request.Metadata k) bytes ≡ true → is_metadata k ≡ false
no_metadata (kind.UserData s) bytes h = subject_done s bytes h
no_metadata (kind.Item s) bytes h = subject_done s bytes h
no_metadata kind.Xmp bytes h = absurd (cc)
no_metadata kind.Xml bytes h = absurd (cc)
no_metadata kind.Telemetry bytes h = absurd (cc)
no_metadata kind.Keys bytes h = absurd (cc)
no_metadata kind.FilledFree bytes h = absurd (cc)
no_metadata kind.Unknown bytes h = absurd (cc)
no_metadata k bytes h = refl

-- and it has no dates
no_dates : (k : Kind) (bytes : List ℕ) → is_done (kind_zeroed request.Metadata k) bytes ≡ true → has_dates k ≡ true → is_undated bytes ≡ true
no_dates kind.MovieHeader bytes h d = h
no_dates kind.TrackHeader bytes h d = h
no_dates kind.MediaHeader bytes h d = h
no_dates k bytes h d = absurd (cc)

-- what holds of each part of which nothing is left to become zeros
all_if : (asked : Request) (file : List ℕ) (P : Part → Type 0) → ((part : Part) → is_done_part asked file part ≡ true → P part)
    → (parts : List Part) → list_all (is_done_part asked file) parts ≡ true → All P parts
all_if asked file P one [] e = All-nil P
all_if asked file P one (s ∷ parts) e =
    let both = both_true (is_done_part asked file s) (list_all (is_done_part asked file) parts) e in
    All-cons P s parts (one s both.0) (all_if asked file P one parts both.1)

none_again : (asked : Request) (file new : List ℕ) (remaining : List Remaining) (test : Kind → Bool)
    → ((k : Kind) (bytes : List ℕ) → is_done (kind_zeroed asked k) bytes ≡ true → test k ≡ false)
    → scrubbed asked file ≡ (new, Ok remaining) → NoneIs test (parts_of new)
none_again asked file new remaining test never e =
    let s = settled_is asked new remaining (scrubbed_settled asked file new remaining e) in
    let none = all_if asked new (λ part. test part.kind ≡ false) (λ part d. never part.kind (bytes_of part new) d) s.found s.each in
    subst (λ (r : Result (List Part) Refusal). NoneIs test r) (sym s.parts) none

pub no_location_again : (asked : Request) (file new : List ℕ) (remaining : List Remaining) → scrubbed asked file ≡ (new, Ok remaining) → NoneIs may_state_location (parts_of new)
no_location_again asked file new remaining e = none_again asked file new remaining may_state_location (no_location asked) e

pub no_metadata_again : (file new : List ℕ) (remaining : List Remaining) → scrubbed request.Metadata file ≡ (new, Ok remaining) → NoneIs is_metadata (parts_of new)
no_metadata_again file new remaining e = none_again request.Metadata file new remaining is_metadata no_metadata e

pub no_dates_again : (file new : List ℕ) (remaining : List Remaining) → scrubbed request.Metadata file ≡ (new, Ok remaining) → AllUndated new (parts_of new)
no_dates_again file new remaining e =
    let s = settled_is request.Metadata new remaining (scrubbed_settled request.Metadata file new remaining e) in
    let none = all_if request.Metadata new (IsUndated new) (λ part d. no_dates part.kind (bytes_of part new) d) s.found s.each in
    subst (λ (r : Result (List Part) Refusal). AllUndated new r) (sym s.parts) none
