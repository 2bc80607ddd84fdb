-- What is read of a file before it is changed.
use Rattle.std.proofs.Common.{◌≡◌, ℕ, true, List, Option, Some, None, Result, Ok, Err, sym, ap, ◌∙◌}
use Rattle.std.specs.Prelude.{MatchOption}
use Rattle.exif_base.specs.Orders.{order_named}
use Rattle.exif_base.specs.declared.endian.Order.{Order}
use Rattle.exif_types.specs.Contents.{ExifContents}
use Rattle.exif_types.specs.Failures.{Failure}
use Rattle.exif_types.specs.Refusals.{Fails, Gives, IsInterrupted, Refusal, refusal_of, ◌>>=◌}
use Rattle.exif_types.specs.declared.error.Error.TheVariants as error
use Rattle.exif_types.specs.declared.field.Field.{Field}
use Rattle.exif_tiff.specs.Answers.{Answer, Refused, raw_answer}
use Rattle.exif_tiff.specs.Faults.{refusal}
use Rattle.exif_tiff.specs.Trace.{header}
use Rattle.exif_tiff.specs.declared.fault.Fault.{Fault}
use Rattle.exif_reader.specs.Files.{ReadsContainer}
use Rattle.exif_tiff.specs.Readings.{FailsAs, HoldsData, IsRefusal}
use Rattle.exif_change.specs.Reading.{Contents, contents_of, data_contents, entry_limit, faults_skipped, fields_in, without_fault}

-- data with these fields and this order
read_by : (bytes : List ℕ) (exif : ExifContents) → fields_in (raw_answer true entry_limit bytes) ≡ Ok exif.fields
    → HoldsData exif bytes → data_contents bytes ≡ Ok (contents_of exif)
unfolding data_contents
read_by bytes exif fields held =
    ap (λ (r : Result (List Field) Refusal). r >>= (λ fs. without_fault (header bytes) >>= λ order. Ok (record { bytes = bytes; order = order; fields = fs }))) fields
    ∙ (ap (λ (r : Result Order Fault). without_fault r >>= (λ order. Ok (record { bytes = bytes; order = order; fields = exif.fields }))) held.1
    ∙ ap (λ (b : List ℕ). Ok (record { bytes = b; order = order_named exif.little_endian; fields = exif.fields })) (sym held.0))

-- data that are refused
data_refused : (bytes : List ℕ) (fault : Fault) → raw_answer true entry_limit bytes ≡ Refused fault → data_contents bytes ≡ Err (refusal fault)
unfolding data_contents
data_refused bytes fault is =
    ap (λ (a : Answer). fields_in a >>= (λ fs. without_fault (header bytes) >>= λ order. Ok (record { bytes = bytes; order = order; fields = fs }))) is

-- an error of data
data_fails : (bytes : List ℕ) (e : Failure) → FailsAs (raw_answer true entry_limit bytes) IsInterrupted e → Fails e (data_contents bytes)
data_fails bytes e h = by_refusal (refusal_of e) h
  where
    by_refusal : (o : Option Refusal) → MatchOption o (IsInterrupted e) (IsRefusal (raw_answer true entry_limit bytes))
        → MatchOption o (IsInterrupted e) (λ r. data_contents bytes ≡ Err r)
    by_refusal None h = h
    by_refusal (Some r) h = data_refused bytes h.0 h.1 ∙ ap (λ x. Err x) (sym h.2)

-- an error of a container
container_fails : (r : Refusal) (e : Failure) → MatchOption (refusal_of e) (IsInterrupted e) (λ refused. refused ≡ r)
    → MatchOption (refusal_of e) (IsInterrupted e) (λ refused. ◌≡◌ {A = Result Contents Refusal} (Err r) (Err refused))
container_fails r e h = by_refusal (refusal_of e) h
  where
    by_refusal : (o : Option Refusal) → MatchOption o (IsInterrupted e) (λ refused. refused ≡ r)
        → MatchOption o (IsInterrupted e) (λ refused. ◌≡◌ {A = Result Contents Refusal} (Err r) (Err refused))
    by_refusal None h = h
    by_refusal (Some refused) h = ap (λ x. Err x) (sym h)

-- what a lenient reader answers, whatever faults there are
pub reads_skipped : (held : Result (List ℕ) Refusal) (answer : Result ExifContents Failure)
    → ReadsContainer (raw_answer true entry_limit) held answer → Gives contents_of (faults_skipped answer) (held >>= data_contents)
reads_skipped (Ok bytes) (Ok exif) h = read_by bytes exif (ap fields_in h.0) h.1
reads_skipped (Ok bytes) (Err (error.PartialResult partial)) h = read_by bytes partial.exif (ap fields_in h.1) h.3
reads_skipped (Ok bytes) (Err (error.InvalidFormat text)) h = data_fails bytes (error.InvalidFormat text) h
reads_skipped (Ok bytes) (Err (error.NotFound text)) h = data_fails bytes (error.NotFound text) h
reads_skipped (Ok bytes) (Err (error.BlankValue text)) h = data_fails bytes (error.BlankValue text) h
reads_skipped (Ok bytes) (Err (error.TooBig text)) h = data_fails bytes (error.TooBig text) h
reads_skipped (Ok bytes) (Err (error.NotSupported text)) h = data_fails bytes (error.NotSupported text) h
reads_skipped (Ok bytes) (Err (error.UnexpectedValue text)) h = data_fails bytes (error.UnexpectedValue text) h
reads_skipped (Ok bytes) (Err (error.Io cause)) h = data_fails bytes (error.Io cause) h
reads_skipped (Ok bytes) (Err error.OutOfMemory) h = data_fails bytes error.OutOfMemory h
reads_skipped (Err r) (Ok exif) h = absurd h
reads_skipped (Err r) (Err (error.PartialResult partial)) h = absurd h
reads_skipped (Err r) (Err (error.InvalidFormat text)) h = container_fails r (error.InvalidFormat text) h
reads_skipped (Err r) (Err (error.NotFound text)) h = container_fails r (error.NotFound text) h
reads_skipped (Err r) (Err (error.BlankValue text)) h = container_fails r (error.BlankValue text) h
reads_skipped (Err r) (Err (error.TooBig text)) h = container_fails r (error.TooBig text) h
reads_skipped (Err r) (Err (error.NotSupported text)) h = container_fails r (error.NotSupported text) h
reads_skipped (Err r) (Err (error.UnexpectedValue text)) h = container_fails r (error.UnexpectedValue text) h
reads_skipped (Err r) (Err (error.Io cause)) h = container_fails r (error.Io cause) h
reads_skipped (Err r) (Err error.OutOfMemory) h = container_fails r error.OutOfMemory h
