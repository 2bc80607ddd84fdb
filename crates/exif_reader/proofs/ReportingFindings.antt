-- What a reading answers is what a report needs.
use Rattle.std.proofs.Common.{◌≡◌, ◌⊎◌, inl, inr, ℕ, List, [], ◌∷◌, ◌++◌, length, map, Option, Some, None, Result, Ok, Err, MatchOption, refl, sym, ◌∙◌, ap, subst}
use Rattle.std.proofs.lemmas.List.{append-nil, length-map}
use Rattle.std.specs.Prelude.{Vec, IfSome}
use Rattle.std.specs.Borrow.{Bor}
use Rattle.std.specs.Global.{Global}
use Rattle.std.specs.List.{flat_map, Contains}
use Rattle.std.specs.Io.KnownBytes.{Appends}
use Rattle.exif_base.specs.Sent.{SendsFront}
use Rattle.exif_types.specs.Contents.{ExifContents, PartialContents}
use Rattle.exif_types.specs.Failures.{Failure, told_text, bytes_of}
use Rattle.exif_types.specs.Refusals.{Refusal, refusal_of, IsInterrupted}
use Rattle.exif_types.specs.declared.error.Error.TheVariants as error
use Rattle.exif_tiff.specs.Answers.{Answer, Refused, Whole, Partial}
use Rattle.exif_tiff.specs.Faults.{text_of}
use Rattle.exif_tiff.specs.declared.fault.Fault.{Fault}
use Rattle.exif_containers.specs.Container.{container_refusals}
use Rattle.exif_reader.specs.Files.{AnswersOwnData, ReadsByNeed, IsDataRefusal}
use Rattle.exif_tiff.specs.Readings.{IsRefusal}
use Rattle.exif_reader.specs.Found.{counted_in, with_count}
use Rattle.exif_reader.specs.Lines.{field_line, fault_line, error_line}
use Rattle.exif_reader.specs.Reports.{Finds, FindsOwn, Holds, HoldsAnswer, Reports, ReportsSome, WritesWhole, IsRefusedAs, IsNamedRefusal, given_by, report_text, answer_text, fault_count}
use Rattle.exif_base.proofs.Sent.{keeps_same, front_none}

-- ---- what was read of a container

-- an error
abbrev pub RefusedBy : (List ℕ → Answer) → Result (List ℕ) Refusal → Refusal → Type 0
RefusedBy answer (Ok bytes) r = IsRefusal (answer bytes) r
RefusedBy answer (Err q) r = r ≡ q

by_refusal : (e : Failure) (o : Option Refusal) (P : Refusal → Type 0) (Q : Type 0) → refusal_of e ≡ o → ((r : Refusal) → refusal_of e ≡ Some r → P r → Q)
    → MatchOption o (IsInterrupted e) P → Q ⊎ IsInterrupted e
by_refusal e None P Q is found h = inr h
by_refusal e (Some r) P Q is found h = inl (found r is h)

same_refusal : (e : Failure) (q r : Refusal) → refusal_of e ≡ Some q → q ≡ r → refusal_of e ≡ Some r
same_refusal e q r is same = is ∙ ap (λ x. Some x) same

-- an error is a right finding where it interrupts, or is the refusal of container or data
pub finds_error : (answer : List ℕ → Answer) (container : Result (List ℕ) Refusal) (e : Failure)
    → MatchOption (refusal_of e) (IsInterrupted e) (RefusedBy answer container) → Finds (given_by answer container) (Err e)
finds_error answer (Ok bytes) e h = by_refusal e (refusal_of e) (IsRefusal (answer bytes)) (IsRefusedAs (Ok (answer bytes)) e) refl (λ r is p. (r, is, p)) h
finds_error answer (Err r) e h = by_refusal e (refusal_of e) (λ q. q ≡ r) (IsRefusedAs (Err r) e) refl (λ q is p. same_refusal e q r is p) h

-- an error that is no partial result
pub other_error : (answer : List ℕ → Answer) (container : Result (List ℕ) Refusal) (e : Failure) → ((partial : PartialContents (Bor (List ℕ))) → e ≡ error.PartialResult partial → ⊥)
    → ReadsByNeed answer container (Err e) → Finds (given_by answer container) (Err e)
other_error answer (Err r) e differs h = finds_error answer (Err r) e h
other_error answer (Ok bytes) (error.PartialResult x) differs h = absurd (differs x refl)
other_error answer (Ok bytes) error.OutOfMemory differs h = finds_error answer (Ok bytes) error.OutOfMemory h
other_error answer (Ok bytes) (error.InvalidFormat x) differs h = finds_error answer (Ok bytes) (error.InvalidFormat x) h
other_error answer (Ok bytes) (error.Io x) differs h = finds_error answer (Ok bytes) (error.Io x) h
other_error answer (Ok bytes) (error.NotFound x) differs h = finds_error answer (Ok bytes) (error.NotFound x) h
other_error answer (Ok bytes) (error.BlankValue x) differs h = finds_error answer (Ok bytes) (error.BlankValue x) h
other_error answer (Ok bytes) (error.TooBig x) differs h = finds_error answer (Ok bytes) (error.TooBig x) h
other_error answer (Ok bytes) (error.NotSupported x) differs h = finds_error answer (Ok bytes) (error.NotSupported x) h
other_error answer (Ok bytes) (error.UnexpectedValue x) differs h = finds_error answer (Ok bytes) (error.UnexpectedValue x) h

-- such an error brings nothing
pub other_counted : (e : Failure) → ((partial : PartialContents (Bor (List ℕ))) → e ≡ error.PartialResult partial → ⊥)
    → with_count (Err e) ≡ counted_in (Err e)
other_counted (error.PartialResult x) differs = absurd (differs x refl)
other_counted error.OutOfMemory differs = refl
other_counted (error.InvalidFormat x) differs = refl
other_counted (error.Io x) differs = refl
other_counted (error.NotFound x) differs = refl
other_counted (error.BlankValue x) differs = refl
other_counted (error.TooBig x) differs = refl
other_counted (error.NotSupported x) differs = refl
other_counted (error.UnexpectedValue x) differs = refl

-- ---- what is written for what was found

flat_map-map : {X Y : Type 0} (f : X → Y) (text : Y → List ℕ) (xs : List X) → flat_map text (map f xs) ≡ flat_map (λ x. text (f x)) xs
flat_map-map f text [] = refl
flat_map-map f text (x ∷ xs) = ap (λ t. text (f x) ++ t) (flat_map-map f text xs)

error_lines : (errors : List Failure) → flat_map error_line errors ≡ flat_map fault_line (map bytes_of (map told_text errors))
unfolding error_line
error_lines [] = refl
error_lines (e ∷ errors) = ap (λ t. fault_line (bytes_of (told_text e)) ++ t) (error_lines errors)

errors_text : (errors : List Failure) (faults : List Fault) → map bytes_of (map told_text errors) ≡ map text_of faults
    → flat_map error_line errors ≡ flat_map (λ fault. fault_line (text_of fault)) faults
errors_text errors faults e = error_lines errors ∙ (ap (flat_map fault_line) e ∙ flat_map-map text_of fault_line faults)

-- the text of what was found is the answer's
pub found_text : (answer : Answer) (exif : ExifContents) (errors : List Failure) → Holds answer exif errors
    → flat_map (field_line exif.fields) exif.fields ++ flat_map error_line errors ≡ answer_text answer
found_text (Refused fault) exif errors h = absurd h
found_text (Whole fields) exif errors h = rw (h.0, h.1) (append-nil (flat_map (field_line fields) fields))
found_text (Partial fields faults) exif errors h = rw (h.0, errors_text errors faults h.1) refl

-- and as many faults
pub found_count : (answer : Answer) (exif : ExifContents) (errors : List Failure) → Holds answer exif errors → length errors ≡ fault_count answer
found_count (Refused fault) exif errors h = absurd h
found_count (Whole fields) exif errors h = ap length (h.1)
found_count (Partial fields faults) exif errors h =
    sym (length-map errors told_text) ∙ (sym (length-map (map told_text errors) bytes_of) ∙ (ap length (h.1) ∙ length-map faults text_of))

-- what was found is no refusal
pub found_is_whole : (answer : Answer) (exif : ExifContents) (errors : List Failure) → Holds answer exif errors → (fault : Fault) → answer ≡ Refused fault → ⊥
found_is_whole (Refused other) exif errors h fault e = h
found_is_whole (Whole fields) exif errors h fault e = cc
found_is_whole (Partial fields faults) exif errors h fault e = cc

-- ---- reports

read_text : (exif : ExifContents) (errors faults : List Failure) → faults ≡ errors
    → flat_map (field_line exif.fields) exif.fields ++ flat_map error_line faults ≡ flat_map (field_line exif.fields) exif.fields ++ flat_map error_line errors
read_text exif errors faults e = rw e refl

whole_of : (answer : Result Answer Refusal) (old new : Option (List ℕ)) (exif : ExifContents) (errors : List Failure) (faults : List Failure)
    → HoldsAnswer answer exif errors → faults ≡ errors
    → Appends old new (flat_map (field_line exif.fields) exif.fields ++ flat_map error_line faults) → WritesWhole answer (length faults) old new
whole_of (Err r) old new exif errors faults h f sent = h
whole_of (Ok answer) old new exif errors faults h f sent =
    let P : List ℕ → Type 0 = λ text. Appends old new text in
    (found_is_whole answer exif errors h, ap length f ∙ found_count answer exif errors h, subst P (read_text exif errors faults f ∙ found_text answer exif errors h) sent)

-- all that was found was written
pub reports_whole : (left old new : Option (List ℕ)) (answer : List ℕ → Result Answer Refusal) (exif : ExifContents) (errors : Vec Failure Global) (faults : List Failure)
    → IfSome left (λ bytes. Finds (answer bytes) (Ok (exif, errors))) → faults ≡ errors.items
    → Appends old new (flat_map (field_line exif.fields) exif.fields ++ flat_map error_line faults) → IfSome left (λ bytes. Reports (answer bytes) (Ok (length faults)) old new)
reports_whole None old new answer exif errors faults h f sent = tt
reports_whole (Some bytes) old new answer exif errors faults h f sent = whole_of (answer bytes) old new exif errors.items faults h f sent

front_of : (answer : Result Answer Refusal) (old new : Option (List ℕ)) (exif : ExifContents) (errors : List Failure) (faults : List Failure)
    → HoldsAnswer answer exif errors → faults ≡ errors
    → SendsFront old new (flat_map (field_line exif.fields) exif.fields ++ flat_map error_line faults) → SendsFront old new (report_text answer)
front_of (Err r) old new exif errors faults h f front = absurd h
front_of (Ok answer) old new exif errors faults h f front =
    let P : List ℕ → Type 0 = λ text. SendsFront old new text in
    subst P (read_text exif errors faults f ∙ found_text answer exif errors h) front

-- the writing was interrupted
pub reports_front : (left old new : Option (List ℕ)) (answer : List ℕ → Result Answer Refusal) (exif : ExifContents) (errors : Vec Failure Global) (faults : List Failure) (e : Failure)
    → IfSome left (λ bytes. Finds (answer bytes) (Ok (exif, errors))) → IsInterrupted e → faults ≡ errors.items
    → SendsFront old new (flat_map (field_line exif.fields) exif.fields ++ flat_map error_line faults) → IfSome left (λ bytes. Reports (answer bytes) (Err e) old new)
reports_front None old new answer exif errors faults e h i f front = tt
reports_front (Some bytes) old new answer exif errors faults e h i f front = inr (i, front_of (answer bytes) old new exif errors.items faults h f front)

read_none : (answer : Result Answer Refusal) (old : Option (List ℕ)) (e : Failure) → (IsRefusedAs answer e) ⊎ (IsInterrupted e) → Reports answer (Err e) old old
read_none answer old e (inl refused) = inl (refused, keeps_same old)
read_none answer old e (inr interrupted) = inr (interrupted, front_none old old (report_text answer) (keeps_same old))

-- nothing was read
pub reports_none : (left old : Option (List ℕ)) (answer : List ℕ → Result Answer Refusal) (e : Failure)
    → IfSome left (λ bytes. Finds (answer bytes) (Err e)) → IfSome left (λ bytes. Reports (answer bytes) (Err e) old old)
reports_none None old answer e h = tt
reports_none (Some bytes) old answer e h = read_none (answer bytes) old e h

-- ---- where the source's bytes are not known

own_error : (answer : List ℕ → Answer) (e : Failure) → MatchOption (refusal_of e) (IsInterrupted e) (λ r. Contains container_refusals r ⊎ IsDataRefusal answer r) → FindsOwn answer (Err e)
own_error answer e h = by_refusal e (refusal_of e) (λ r. Contains container_refusals r ⊎ IsDataRefusal answer r) (IsNamedRefusal answer e) refl (λ r is p. (r, is, p)) h

-- an error that is no partial result
pub own_other : (answer : List ℕ → Answer) (e : Failure) → ((partial : PartialContents (Bor (List ℕ))) → e ≡ error.PartialResult partial → ⊥) → AnswersOwnData answer (Err e) → FindsOwn answer (Err e)
own_other answer (error.PartialResult x) differs h = absurd (differs x refl)
own_other answer error.OutOfMemory differs h = own_error answer error.OutOfMemory h
own_other answer (error.InvalidFormat x) differs h = own_error answer (error.InvalidFormat x) h
own_other answer (error.Io x) differs h = own_error answer (error.Io x) h
own_other answer (error.NotFound x) differs h = own_error answer (error.NotFound x) h
own_other answer (error.BlankValue x) differs h = own_error answer (error.BlankValue x) h
own_other answer (error.TooBig x) differs h = own_error answer (error.TooBig x) h
own_other answer (error.NotSupported x) differs h = own_error answer (error.NotSupported x) h
own_other answer (error.UnexpectedValue x) differs h = own_error answer (error.UnexpectedValue x) h

-- all that was found was written
pub some_whole : (old new : Option (List ℕ)) (answer : List ℕ → Answer) (exif : ExifContents) (errors : Vec Failure Global) (faults : List Failure)
    → FindsOwn answer (Ok (exif, errors)) → faults ≡ errors.items
    → Appends old new (flat_map (field_line exif.fields) exif.fields ++ flat_map error_line faults) → ReportsSome answer (Ok (length faults)) old new
some_whole old new answer exif errors faults h f sent = (exif.buf, whole_of (Ok (answer exif.buf)) old new exif errors.items faults h f sent)

-- the writing was interrupted
pub some_front : (old new : Option (List ℕ)) (answer : List ℕ → Answer) (exif : ExifContents) (errors : Vec Failure Global) (faults : List Failure) (e : Failure)
    → FindsOwn answer (Ok (exif, errors)) → IsInterrupted e → faults ≡ errors.items
    → SendsFront old new (flat_map (field_line exif.fields) exif.fields ++ flat_map error_line faults) → ReportsSome answer (Err e) old new
some_front old new answer exif errors faults e h i f front = inr (i, (exif.buf, front_of (Ok (answer exif.buf)) old new exif errors.items faults h f front))

-- nothing was read
pub some_none : (old : Option (List ℕ)) (answer : List ℕ → Answer) (e : Failure) → FindsOwn answer (Err e) → ReportsSome answer (Err e) old old
some_none old answer e (inl refused) = inl (refused, keeps_same old)
some_none old answer e (inr interrupted) = inr (interrupted, ([], front_none old old (answer_text (answer [])) (keeps_same old)))
