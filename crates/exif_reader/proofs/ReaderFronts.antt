-- Data of which no more than a front is read.
use Rattle.std.proofs.Common.{◌≡◌, ◌≤◌, ◌<◌, ◌+◌, ◌^◌, ◌++◌, ⊎_elim, ℕ, zero, suc, Bool, true, false, List, [], ◌∷◌, length, take, min, Option, Some, None, Result, Ok, Err, inr, refl, sym, ap, subst, ◌∙◌, arith}
use Rattle.std.proofs.lemmas.Bool.{cases_lt}
use Rattle.std.proofs.lemmas.Bool.Decides.{Decides-or}
use Rattle.std.proofs.lemmas.List.{append-nil, length-append, length-take, length-take-le, take-append-le}
use Rattle.std.proofs.lemmas.Slice.Eq.{bytes_eq-Decides}
use Rattle.std.specs.Prelude.{IfSome, codes, ◌||◌}
use Rattle.std.specs.Str.{bytes_eq}
use Rattle.std.specs.Borrow.{Bor}
use Rattle.std.specs.Io.KnownBytes.{Consumes, IsAtEnd, Keeps}
use Rattle.exif_base.specs.Orders.{order_named}
use Rattle.exif_base.specs.Told.{TakesAll, left_behind}
use Rattle.exif_types.specs.Contents.{ExifContents}
use Rattle.exif_types.specs.Failures.{Failure}
use Rattle.exif_types.specs.Refusals.{Refusal, too_big, IsInterrupted}
use Rattle.exif_types.specs.declared.error.Error.TheVariants as error
use Rattle.exif_types.specs.declared.field.Field.{Field}
use Rattle.exif_tiff.specs.declared.fault.Fault.TheVariants.{DataTooLarge}
use Rattle.exif_tiff.specs.Answers.{Answer, Refused, Whole, raw_answer}
use Rattle.exif_tiff.specs.Faults.{text_of}
use Rattle.exif_tiff.specs.Fronts.{FrontHasHeader, FrontSaysAll, TooLargeIsRefused}
use Rattle.exif_tiff.specs.Trace.{header}
use Rattle.exif_containers.specs.Container.{answer_as, format_in}
use Rattle.exif_containers.specs.declared.container.Format.{Format}
use Rattle.exif_containers.specs.declared.container.Format.TheVariants.{Tiff}
use Rattle.exif_containers.specs.GoingBack.{BeginsAt}
use Rattle.exif_containers.proofs.IsobmffFile.{along}
use Rattle.exif_containers.proofs.ContainerSteps.{head-first}
use Rattle.exif_reader.specs.Files.{AnswersOwnData, ReadsByNeed, ReadsContainer}
use Rattle.exif_tiff.specs.Readings.{HoldsData, HoldsFront, ReadsAs, ReadsHeld}

-- ---- known bytes

-- what holds of a list and all that was put at its end
pub told_rest : (left : Option (List ℕ)) (old new : List ℕ) (P : List ℕ → Type 0)
    → TakesAll left old new → P new → IfSome left (λ rest. P (old ++ rest))
told_rest None old new P h k = tt
told_rest (Some xs) old new P h k = subst P h k

-- ---- what was read of all

held_all : (exif : ExifContents) (bytes : List ℕ) → HoldsData exif bytes → HoldsFront exif bytes
held_all exif bytes h = (([], sym h.0 ∙ sym (append-nil exif.buf)), h.1)

-- what data in memory are read as
pub reads_all : (answer : Answer) (bytes : List ℕ) (result : Result ExifContents Failure)
    → ReadsAs answer bytes result → ReadsHeld HoldsFront IsInterrupted answer bytes result
reads_all answer bytes (Ok exif) h = (h.0, held_all exif bytes h.1)
reads_all answer bytes (Err (error.PartialResult partial)) h =
    (h.0, h.1, h.2, held_all partial.exif bytes h.3)
reads_all answer bytes (Err error.OutOfMemory) h = tt
reads_all answer bytes (Err (error.Io cause)) h = tt
reads_all answer bytes (Err (error.InvalidFormat text)) h = h
reads_all answer bytes (Err (error.NotFound text)) h = h
reads_all answer bytes (Err (error.BlankValue text)) h = h
reads_all answer bytes (Err (error.TooBig text)) h = h
reads_all answer bytes (Err (error.NotSupported text)) h = h
reads_all answer bytes (Err (error.UnexpectedValue text)) h = h

-- what is read of a container
pub container_all : (answer : List ℕ → Answer) (container : Result (List ℕ) Refusal)
    (result : Result ExifContents Failure)
    → ReadsContainer answer container result → ReadsByNeed answer container result
container_all answer (Ok bytes) (Ok exif) h = (h.0, held_all exif bytes h.1)
container_all answer (Ok bytes) (Err (error.PartialResult partial)) h =
    (h.0, h.1, h.2, held_all partial.exif bytes h.3)
container_all answer (Ok bytes) (Err error.OutOfMemory) h = h
container_all answer (Ok bytes) (Err (error.Io cause)) h = h
container_all answer (Ok bytes) (Err (error.InvalidFormat text)) h = h
container_all answer (Ok bytes) (Err (error.NotFound text)) h = h
container_all answer (Ok bytes) (Err (error.BlankValue text)) h = h
container_all answer (Ok bytes) (Err (error.TooBig text)) h = h
container_all answer (Ok bytes) (Err (error.NotSupported text)) h = h
container_all answer (Ok bytes) (Err (error.UnexpectedValue text)) h = h
container_all answer (Err r) (Ok exif) h = h
container_all answer (Err r) (Err e) h = h

-- what holds where a source says its offset holds before
pub kept_some : (a b : Option (List ℕ)) (P : List ℕ → Type 0) → Keeps a b → IfSome b P → IfSome a P
kept_some None b P h k = tt
kept_some (Some xs) None P h k = absurd h
kept_some (Some xs) (Some ys) P h k = subst P h k

-- a source begins where it says that it is
pub begins_found : (origin : Option ℕ) (stream left : Option (List ℕ)) → IfSome origin (λ at. left ≡ left_behind (Some at) stream) → BeginsAt origin stream left
begins_found None stream left h = tt
begins_found (Some at) stream left h = h

-- what holds of a source that begins where it says held before it was asked
pub begun : (origin : Option ℕ) (stream first old : Option (List ℕ)) (P : List ℕ → Type 0) → Keeps first old
    → IfSome origin (λ at. old ≡ left_behind (Some at) stream)
    → IfSome old (λ bytes. BeginsAt origin stream old → P bytes) → IfSome first P
begun origin stream first old P h b k =
    kept_some first old P h (along old _ _ (λ bytes f. f (begins_found origin stream old b)) k)

-- the container of a stream is that of its signature
pub sniffed_format : (n : ℕ) (block : List ℕ) (format : Option Format) (a b : Option (List ℕ))
    → Consumes a b (take n block) → n ≤ length block → n ≤ 4096 → 4096 ≤ length block
    → (n < min 4096 (length block) → IsAtEnd b) → format ≡ format_in (take n block)
    → IfSome a (λ bytes. format ≡ format_in (take 4096 bytes))
sniffed_format n block format None b h bound most room end f = tt
sniffed_format n block format (Some xs) None h bound most room end f = absurd h
sniffed_format n block format (Some xs) (Some ys) h bound most room end f =
    let len : length (take n block) ≡ n = length-take-le n block bound in
    rw (h, head-first (take n block) ys (omega arith) (λ lt. end (omega arith))) f

-- TIFF data are their own container
pub tiff_by_need : (answer : List ℕ → Answer) (format : Option Format) (left : Option (List ℕ))
    (result : Result ExifContents Failure) (Q : Type 0) → format ≡ Some Tiff
    → IfSome left (λ bytes. ReadsHeld HoldsFront IsInterrupted (answer bytes) bytes result)
    → IfSome left (λ bytes. Q → ReadsByNeed answer (answer_as format bytes) result)
unfolding answer_as
tiff_by_need answer format None result Q e h = tt
tiff_by_need answer format (Some bytes) result Q e h = λ q.
    let P : Option Format → Type 0 = λ f. ReadsByNeed answer (answer_as f bytes) result in
    subst P (sym e) h

-- what is read of all the data is read by need
pub whole_by_need : (answer : List ℕ → Answer) (given : List ℕ → Result (List ℕ) Refusal)
    (left : Option (List ℕ)) (result : Result ExifContents Failure) (Q : Type 0)
    → IfSome left (λ bytes. Q → ReadsContainer answer (given bytes) result)
    → IfSome left (λ bytes. Q → ReadsByNeed answer (given bytes) result)
whole_by_need answer given None result Q h = tt
whole_by_need answer given (Some bytes) result Q h = λ q. container_all answer (given bytes) result (h q)

-- ---- what was read of a front that says all

module _ (lenient : Bool) (limit : Option ℕ) (front : List ℕ)
    (says : (lenient : Bool) (limit : Option ℕ) (front rest : List ℕ)
    → FrontSaysAll lenient limit front rest)
    (heads : (front rest : List ℕ) → FrontHasHeader front rest)
    (too_large : (lenient : Bool) (limit : Option ℕ) (bytes : List ℕ)
    → TooLargeIsRefused lenient limit bytes) where
  -- where strict reading gives the fields of a front, all the data are read so, below 2^32 bytes
  pub reads_front : (exif : ExifContents) (rest : List ℕ) → exif.buf ≡ front
      → raw_answer false limit front ≡ Whole exif.fields
      → header front ≡ Ok (order_named exif.little_endian)
      → length front + length rest < 2 ^ 32
      → ReadsHeld HoldsFront IsInterrupted (raw_answer lenient limit (front ++ rest)) (front ++ rest)
      (Ok exif)
  reads_front exif rest buf said order small =
      let both : length (front ++ rest) < 2 ^ 32 = omega (arith, small, length-append front rest) in (
        says lenient limit front rest exif.fields said both,
        (
          (rest, ap (λ xs. xs ++ rest) (sym buf)),
          heads front rest (order_named exif.little_endian) order both,
        ),
      )

  not_refused : (fields : List Field) → raw_answer false limit front ≡ Whole fields
      → raw_answer false limit front ≡ Refused DataTooLarge → ⊥
  not_refused fields said refused = differ fields (sym refused ∙ said)
    where
      differ : (fields : List Field) → ◌≡◌ {A = Answer} (Refused DataTooLarge) (Whole fields) → ⊥
      differ fields e = cc

  small_front : (fields : List Field) → raw_answer false limit front ≡ Whole fields
      → length front < 2 ^ 32
  small_front fields said =
      ⊎_elim (λ lt. lt) (λ ge. absurd (not_refused fields said (too_large false limit front ge)))
      (cases_lt (length front) (2 ^ 32))

  -- hence it is what the front itself is read as
  pub reads_own : (exif : ExifContents) → exif.buf ≡ front
      → raw_answer false limit front ≡ Whole exif.fields
      → header front ≡ Ok (order_named exif.little_endian)
      → ReadsAs (raw_answer lenient limit front) front (Ok exif)
  reads_own exif buf said order =
      let alone = append-nil front in
      let small : length (front ++ []) < 2 ^ 32 =
      omega (arith, small_front exif.fields said, ap length alone) in
      let answer = says lenient limit front [] exif.fields said small in
      (ap (raw_answer lenient limit) (sym alone) ∙ answer, (buf, order))

  -- ---- too many bytes

  -- where a front and the rest are 2^32 bytes or more, all the data are refused as too large
  pub reads_too_large : (text : Bor (List ℕ)) (rest : List ℕ) → text.now ≡ text_of DataTooLarge
      → 2 ^ 32 ≤ length front + length rest
      → ReadsHeld HoldsFront IsInterrupted (raw_answer lenient limit (front ++ rest)) (front ++ rest)
      (Err (error.TooBig text))
  reads_too_large text rest is large =
      let both : 2 ^ 32 ≤ length (front ++ rest) = omega (arith, large, length-append front rest) in
      (DataTooLarge, too_large lenient limit (front ++ rest) both, ap too_big is)

  so_many : (n : ℕ) → (bytes : List ℕ) × (length bytes ≡ n)
  so_many zero = ([], refl)
  so_many (suc n) = let bytes = so_many n in (0 ∷ bytes.0, ap suc bytes.1)

  -- the error that data are too large is one that some data answer: 2^32 bytes do
  pub own_too_large : (text : Bor (List ℕ)) → text.now ≡ text_of DataTooLarge
      → AnswersOwnData (raw_answer lenient limit) (Err (error.TooBig text))
  own_too_large text is =
      let bytes = so_many (2 ^ 32) in
      let large : 2 ^ 32 ≤ length bytes.0 = omega (arith, bytes.1) in
      inr (bytes.0, (DataTooLarge, too_large lenient limit bytes.0 large, ap too_big is))
