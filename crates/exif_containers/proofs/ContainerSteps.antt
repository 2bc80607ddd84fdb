-- A stream's head, and what follows it.
use Rattle.std.proofs.Common.{◌≡◌, true, ◌||◌, eqb, codes, ◌⊎◌, inl, inr, ℕ, ◌<◌, ◌≤◌, min, List, [], ◌++◌, length, take, drop, Option, None, Some, Result, IfOk, IfErr, IfSome, Ok, Err, refl, sym, subst, ◌^◌, ◌-◌, ap, ◌∙◌, arith, append-nil}
use Rattle.std.specs.Bool.{⊤}
use Rattle.std.proofs.lemmas.Bool.{cases_lt}
use Rattle.std.proofs.lemmas.List.{take_at, take_all, take-take, length-take-le}
use Rattle.std.specs.Cmp.Lexicographic.{pointwise}
use Rattle.std.specs.Io.KnownBytes.{Consumes, IsAtEnd, prepend_known}
use Rattle.exif_base.specs.Told.{WhereTold, left_behind}
use Rattle.exif_types.specs.Failures.{Failure}
use Rattle.exif_types.specs.Refusals.{Refusal, Fails, Gives}
use Rattle.exif_segments.specs.Answer.{found}
use Rattle.exif_containers.specs.GoingBack.{BeginsAt}
use Rattle.exif_containers.proofs.IsobmffFile.{along}
use Rattle.exif_segments.specs.Jpeg.{jpeg_answer}
use Rattle.exif_types.proofs.Refusing.{fails_along}
use Rattle.exif_containers.specs.declared.container.Format.{Format}
use Rattle.exif_containers.specs.declared.container.Format.TheVariants.{Jpeg}
use Rattle.exif_containers.specs.Container.{TiffIsWhole, answer_as, data_of, begins_tiff, format_in, container_answer}

-- the head of a stream is its first 4096 bytes, or all where there are fewer
pub head-first : (head rest : List ℕ) → length head ≤ 4096 → (length head < 4096 → rest ≡ []) → take 4096 (head ++ rest) ≡ head
head-first head rest most end = by (cases_lt (length head) 4096)
  where
    by : (length head < 4096) ⊎ (4096 ≤ length head) → take 4096 (head ++ rest) ≡ head
    by (inl lt) = ap (λ t. take 4096 (head ++ t)) (end lt) ∙ ap (take 4096) (append-nil head) ∙ take_all 4096 head most
    by (inr le) = take_at head rest 4096 (omega arith)

-- what holds of the answer of the head's choice holds of the stream's
pub container_holds : (P : Result (List ℕ) Refusal → Type 0) (n : ℕ) (block : List ℕ) (format : Option Format) (a b left : Option (List ℕ))
    → Consumes a b (take n block) → n ≤ length block → n ≤ 4096 → 4096 ≤ length block → (n < min 4096 (length block) → IsAtEnd b)
    → format ≡ format_in (take n block)
    → left ≡ prepend_known (take n block) b
    → IfSome left (λ bytes. P (answer_as format bytes))
    → IfSome a (λ bytes. P (container_answer bytes))
unfolding container_answer
container_holds P n block format None b left h bound most space end f e g = tt
container_holds P n block format (Some xs) None left h bound most space end f e g = absurd h
container_holds P n block format (Some xs) (Some ys) left h bound most space end f e g =
    let whole : IfSome (Some (take n block ++ ys)) (λ bytes. P (answer_as format bytes)) = subst (λ t. IfSome t (λ bytes. P (answer_as format bytes))) e g in
    let len : length (take n block) ≡ n = length-take-le n block bound in
    rw (h, head-first (take n block) ys (omega arith) (λ lt. end (omega arith)), ← f) whole

-- the bytes left are those of the stream from its start on, in whatever pieces they come
pub begins_there : (origin : Option ℕ) (stream after left b : Option (List ℕ)) (xs head : List ℕ) → Consumes (Some xs) b head → left ≡ prepend_known head b → after ≡ stream
    → BeginsAt origin stream (Some xs) → BeginsAt origin after left
begins_there None stream after left b xs head h e s k = tt
begins_there (Some at) stream after left None xs head h e s k = absurd h
begins_there (Some at) stream after left (Some ys) xs head h e s k = e ∙ ap Some (sym h) ∙ k ∙ ap (left_behind (Some at)) (sym s)

-- the same where the source may go back
pub container_begins : (P : Result (List ℕ) Refusal → Type 0) (n : ℕ) (block : List ℕ) (format : Option Format) (origin : Option ℕ) (stream after a b left : Option (List ℕ))
    → Consumes a b (take n block) → n ≤ length block → n ≤ 4096 → 4096 ≤ length block → (n < min 4096 (length block) → IsAtEnd b)
    → format ≡ format_in (take n block) → left ≡ prepend_known (take n block) b → after ≡ stream
    → IfSome left (λ bytes. BeginsAt origin after left → P (answer_as format bytes))
    → IfSome a (λ bytes. BeginsAt origin stream a → P (container_answer bytes))
container_begins P n block format origin stream after None b left h bound most space end f e s g = tt
container_begins P n block format origin stream after (Some xs) b left h bound most space end f e s g =
    λ k. container_holds P n block format (Some xs) b left h bound most space end f e
    (along left _ _ (λ bytes t. t (begins_there origin stream after left b xs (take n block) h e s k)) g)

-- what needs no start holds with one
pub with_start : (a : Option (List ℕ)) (P : List ℕ → Type 0) (Q : Type 0) → IfSome a P → IfSome a (λ xs. Q → P xs)
with_start a P Q h = along a P _ (λ xs k q. k) h

-- an interruption is owed no answer
pub interrupted : (a : Option (List ℕ)) (Q : Type 0) → IfSome a (λ bytes. Q → ⊤)
interrupted None Q = tt
interrupted (Some xs) Q = λ q. tt

-- what a call answers is the data of a stream, or its refusal
stream_gives : {X : Type 0} (items : X → List ℕ) (result : Result X Failure) (a b : Option (List ℕ)) (l : ℕ)
    → IfOk result (λ v. WhereTold a b (λ xs ys. (rest : List ℕ) × (jpeg_answer (take l xs) ≡ found (items v) rest) × (ys ≡ rest ++ drop l xs)))
    → IfErr result (λ e. IfSome a (λ xs. Fails e (jpeg_answer (take l xs))))
    → IfSome a (λ xs. Gives items result (data_of (jpeg_answer (take l xs))))
stream_gives items (Ok v) None b l f r = tt
stream_gives items (Ok v) (Some xs) None l f r = absurd f
stream_gives items (Ok v) (Some xs) (Some ys) l f r = ap data_of f.1
stream_gives items (Err e) None b l f r = tt
stream_gives items (Err e) (Some xs) b l f r = fails_along e data_of (jpeg_answer (take l xs)) (λ d. refl) r

-- a JPEG stream's data are those of the container
pub jpeg_gives : {X : Type 0} (items : X → List ℕ) (result : Result X Failure) (format : Option Format) (a b : Option (List ℕ)) → format ≡ Some Jpeg
    → IfOk result (λ v. WhereTold a b (λ xs ys. (rest : List ℕ) × (jpeg_answer (take (2 ^ 64 - 1) xs) ≡ found (items v) rest) × (ys ≡ rest ++ drop (2 ^ 64 - 1) xs)))
    → IfErr result (λ e. IfSome a (λ xs. Fails e (jpeg_answer (take (2 ^ 64 - 1) xs))))
    → IfSome a (λ xs. Gives items result (answer_as format xs))
unfolding answer_as
jpeg_gives items result format a b is f r =
    subst (λ t. IfSome a (λ xs. Gives items result (answer_as t xs))) (sym is) (stream_gives items result a b (2 ^ 64 - 1) f r)

-- the head of TIFF data begins as they do
pub tiff_is_whole : (bytes : List ℕ) → TiffIsWhole bytes
unfolding container_answer format_in answer_as
tiff_is_whole bytes h = rw same refl
  where
    same : begins_tiff (take 4096 bytes) ≡ true
    same = ap (λ t. pointwise eqb t (codes "MM\0*") || pointwise eqb t (codes "II*\0")) (take-take 4 4096 bytes (omega arith)) ∙ h
