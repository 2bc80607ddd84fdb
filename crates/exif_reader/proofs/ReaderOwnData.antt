-- What a reading says of data, it says of the data that it passes on.
use Rattle.std.proofs.Common.{◌≡◌, inr, ℕ, List, Option, Some, None, IfSome, Result, Ok, Err, sym, subst}
use Rattle.exif_types.specs.Contents.{ExifContents}
use Rattle.exif_types.specs.Failures.{Failure}
use Rattle.exif_types.specs.Refusals.{Refusal, IsInterrupted}
use Rattle.exif_types.specs.declared.error.Error.TheVariants as error
use Rattle.exif_tiff.specs.Answers.{Answer}
use Rattle.exif_containers.specs.Container.{container_answer}
use Rattle.exif_reader.specs.Files.{AnswersOwnData, ReadsContainer}
use Rattle.exif_tiff.specs.Readings.{HoldsData, ReadsAs, ReadsHeld}

-- what data in memory are read as, the data that came back are
pub answers_own_data : (answer : List ℕ → Answer) (bytes : List ℕ) (result : Result ExifContents Failure) → ReadsAs (answer bytes) bytes result → AnswersOwnData answer result
answers_own_data answer bytes (Ok exif) h =
    let P : List ℕ → Type 0 = λ own. ReadsAs (answer own) own (Ok exif) in subst P (sym h.1.0) h
answers_own_data answer bytes (Err (error.PartialResult partial)) h =
    let P : List ℕ → Type 0 = λ own. ReadsAs (answer own) own (Err (error.PartialResult partial)) in subst P (sym h.3.0) h
answers_own_data answer bytes (Err error.OutOfMemory) h = tt
answers_own_data answer bytes (Err (error.Io cause)) h = tt
answers_own_data answer bytes (Err (error.InvalidFormat text)) h = inr (bytes, h)
answers_own_data answer bytes (Err (error.NotFound text)) h = inr (bytes, h)
answers_own_data answer bytes (Err (error.BlankValue text)) h = inr (bytes, h)
answers_own_data answer bytes (Err (error.TooBig text)) h = inr (bytes, h)
answers_own_data answer bytes (Err (error.NotSupported text)) h = inr (bytes, h)
answers_own_data answer bytes (Err (error.UnexpectedValue text)) h = inr (bytes, h)

interrupted : (answer : Answer) (bytes : List ℕ) (result : Result ExifContents Failure) → ReadsAs answer bytes result
    → ReadsHeld HoldsData IsInterrupted answer bytes result
interrupted answer bytes (Ok exif) h = h
interrupted answer bytes (Err (error.PartialResult partial)) h = h
interrupted answer bytes (Err error.OutOfMemory) h = tt
interrupted answer bytes (Err (error.Io cause)) h = tt
interrupted answer bytes (Err (error.InvalidFormat text)) h = h
interrupted answer bytes (Err (error.NotFound text)) h = h
interrupted answer bytes (Err (error.BlankValue text)) h = h
interrupted answer bytes (Err (error.TooBig text)) h = h
interrupted answer bytes (Err (error.NotSupported text)) h = h
interrupted answer bytes (Err (error.UnexpectedValue text)) h = h

-- what the data that a stream gives are read as, is read of the stream; it may have to begin where its
-- source says
pub given_reads : (answer : List ℕ → Answer) (given : List ℕ → Result (List ℕ) Refusal) (left : Option (List ℕ))
    (bytes : List ℕ) (result : Result ExifContents Failure) (Q : Type 0) → IfSome left (λ file. Q → given file ≡ Ok bytes)
    → ReadsAs (answer bytes) bytes result
    → IfSome left (λ file. Q → ReadsContainer answer (given file) result)
given_reads answer given None bytes result Q h k = tt
given_reads answer given (Some file) bytes result Q h k = λ q.
    let P : Result (List ℕ) Refusal → Type 0 = λ container. ReadsContainer answer container result in
    subst P (sym (h q)) (interrupted (answer bytes) bytes result k)
