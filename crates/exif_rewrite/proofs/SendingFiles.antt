-- A whole file that is made of what a source holds, and is sent to a sink.
use Rattle.std.proofs.Common.{◌≡◌, ℕ, List, Option, None, Some, IfSome, MatchOption, Result, Ok, Err, subst}
use Rattle.std.specs.Io.KnownBytes.{Appends}
use Rattle.exif_base.specs.Sent.{SendsFront}
use Rattle.exif_base.proofs.Sent.{front_none, keeps_same}
use Rattle.exif_types.specs.Failures.{Failure}
use Rattle.exif_types.specs.Refusals.{Refusal, refusal_of, IsInterrupted, Fails}
use Rattle.exif_segments.specs.Answer.{IsNamed}
use Rattle.exif_segments.proofs.Interruptions.{interrupted_none}
use Rattle.exif_rewrite.specs.SentFiles.{IsSent, StopsFile, sent_of}

-- ---- what is known of a source's bytes

-- what holds of the bytes that were read holds of the source's, since they are all of those
pub when_read : (P : List ℕ → Type 0) (a : Option (List ℕ)) (bytes : List ℕ) → IfSome a (λ xs. bytes ≡ xs) → P bytes → IfSome a P
when_read P None bytes is h = tt
when_read P (Some xs) bytes is h = subst P is h

-- where one fact follows from another of any bytes, it does of the source's
pub then_known : (P Q : List ℕ → Type 0) (a : Option (List ℕ)) → ((xs : List ℕ) → P xs → Q xs) → IfSome a P → IfSome a Q
then_known P Q None f h = tt
then_known P Q (Some xs) f h = f xs h

-- what holds of any bytes holds of the source's
pub always_known : (P : List ℕ → Type 0) (a : Option (List ℕ)) → ((xs : List ℕ) → P xs) → IfSome a P
always_known P None f = tt
always_known P (Some xs) f = f xs

-- ---- what was sent

-- a new file that was sent whole is what the source's bytes become
pub file_sent : (a p q : Option (List ℕ)) (text : List ℕ) (f : List ℕ → Result (List ℕ) Refusal) → IfSome a (λ xs. f xs ≡ Ok text) → Appends p q text → IfSome a (λ xs. IsSent p q (f xs))
file_sent None p q text f is h = tt
file_sent (Some xs) p q text f is h = (text, is, h)

-- ---- what an error left

-- an error that is no refusal, once a front of the new file was sent, stops the file
pub send_stops : (e : Failure) (a p q : Option (List ℕ)) (text : List ℕ) (f : List ℕ → Result (List ℕ) Refusal) → IfSome a (λ xs. f xs ≡ Ok text) → refusal_of e ≡ None → SendsFront p q text
    → IfSome a (λ xs. StopsFile e p q (f xs))
send_stops e None p q text f is none h = tt
send_stops e (Some xs) p q text f is none h = rw (none, is) (h, tt)

nothing_sent : (o : Result (List ℕ) Refusal) (p : Option (List ℕ)) → SendsFront p p (sent_of o)
nothing_sent o p = front_none p p (sent_of o) (keeps_same p)

-- a refusal of the file, with nothing sent
pub refused_unsent : (r : Refusal) (a p : Option (List ℕ)) (f : List ℕ → Result (List ℕ) Refusal) → IfSome a (λ xs. f xs ≡ Err r) → IfSome a (λ xs. SendsFront p p (sent_of (f xs)) × (f xs ≡ Err r))
refused_unsent r None p f h = tt
refused_unsent r (Some xs) p f h = (nothing_sent (f xs) p, h)

-- a file's own refusal, or an interruption, stops it where nothing was sent
fails_stops : (e : Failure) (p : Option (List ℕ)) (o : Result (List ℕ) Refusal) → Fails e o → StopsFile e p p o
fails_stops e p o h = (nothing_sent o p, by (refusal_of e) h)
  where
    by : (r : Option Refusal) → MatchOption r (IsInterrupted e) (λ r. o ≡ Err r) → MatchOption r (Unit {0}) (λ r. o ≡ Err r)
    by None h = tt
    by (Some r) h = h

-- the same of the source's file
pub made_stops : (e : Failure) (a p : Option (List ℕ)) (f : List ℕ → Result (List ℕ) Refusal) → IfSome a (λ xs. Fails e (f xs)) → IfSome a (λ xs. StopsFile e p p (f xs))
made_stops e a p f = then_known (λ xs. Fails e (f xs)) (λ xs. StopsFile e p p (f xs)) a (λ xs. fails_stops e p (f xs))

-- ---- interruptions

-- an interruption fails the source's file, whatever it becomes
pub interrupted_fails : {Y : Type 0} (e : Failure) (a : Option (List ℕ)) (f : List ℕ → Result Y Refusal) → IsInterrupted e → IfSome a (λ xs. Fails e (f xs))
interrupted_fails e None f h = tt
interrupted_fails e (Some xs) f h = rw (interrupted_none e h) h

-- an interruption is none of the refusals that a file may meet, and is named so
pub interrupted_named : (refusals : List Refusal) (e : Failure) → IsInterrupted e → IsNamed refusals e
interrupted_named refusals e h = rw (interrupted_none e h) h
