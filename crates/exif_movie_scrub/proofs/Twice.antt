-- A scrubbed video stays as it is.
use Rattle.std.proofs.Common.{◌≡◌, ◌≤◌, ◌+◌, ◌-◌, ℕ, Bool, true, false, ◌&&◌, if◌then◌else◌, List, [], ◌∷◌, ◌++◌, length, take, drop, Option, Some, None, Result, Ok, Err, refl, ap, sym, ◌∙◌, arith}
use Rattle.std.proofs.lemmas.List.{drop-drop, take-append-drop}
use Rattle.std.specs.List.{list_all}
use Rattle.exif_movie.specs.Files.{parts_of}
use Rattle.exif_movie.specs.Parts.{AreParts, bytes_of}
use Rattle.exif_movie.specs.declared.file.Refusal.{Refusal}
use Rattle.exif_movie.specs.declared.part.Part.{Part}
use Rattle.exif_movie.proofs.PartOrder.{video_ordered}
use Rattle.exif_movie_scrub.specs.Promises.{HasParts}
use Rattle.exif_movie_scrub.specs.Remainders.{all_remaining, is_done_part, settled, settled_by}
use Rattle.exif_movie_scrub.specs.Requests.{zeroed_of}
use Rattle.exif_movie_scrub.specs.Scrubbing.{answered, part_zeroed, parts_zeroed, scrubbed, scrubbed_by, with_bytes, zeroed_by, zeroed_file}
use Rattle.exif_movie_scrub.specs.declared.fault.Fault.{Fault}
use Rattle.exif_movie_scrub.specs.declared.fault.Fault.TheVariants as fault
use Rattle.exif_movie_scrub.specs.declared.remaining.Remaining.{Remaining}
use Rattle.exif_movie_scrub.specs.declared.request.Request.{Request}
use Rattle.exif_movie_scrub.proofs.PartSteps.{bytes_are}
use Rattle.exif_movie_scrub.proofs.ZeroSteps.{done_stays}

-- what a call leaves and answers: a file, and what remains
abbrev pub Outcome : Type 0
Outcome = List ℕ × Result (List Remaining) Fault

-- ---- parts of which nothing is left to become zeros

pub both_true : (a b : Bool) → (a && b) ≡ true → (a ≡ true) × (b ≡ true)
both_true true b e = (refl, e)
both_true false b e = absurd (cc)

-- a file with the bytes of a part in their place
same_bytes : (part : Part) (file : List ℕ) → part.offset ≤ part.end → with_bytes part (bytes_of part file) file ≡ file
same_bytes part file h =
    let n = part.end - part.offset in
    let sum : part.end ≡ part.offset + n = omega arith in
    let back : drop part.end file ≡ drop n (drop part.offset file) = ap (λ k. drop k file) sum ∙ sym (drop-drop n part.offset file) in
    ap (λ (bs : List ℕ). take part.offset file ++ (bs ++ drop part.end file)) (sym (bytes_are part file h))
    ∙ ap (λ (bs : List ℕ). take part.offset file ++ (take n (drop part.offset file) ++ bs)) back
    ∙ ap (λ (bs : List ℕ). take part.offset file ++ bs) (take-append-drop n (drop part.offset file))
    ∙ take-append-drop part.offset file

part_stays : (request : Request) (file : List ℕ) (part : Part) → part.offset ≤ part.end → is_done_part request file part ≡ true → part_zeroed request part file ≡ file
part_stays request file part h e =
    ap (λ (bs : List ℕ). with_bytes part bs file) (done_stays (zeroed_of request part) (bytes_of part file) e) ∙ same_bytes part file h

parts_stay : (request : Request) (from : ℕ) (parts : List Part) (end : ℕ) (file : List ℕ) → AreParts from parts end
    → list_all (is_done_part request file) parts ≡ true → parts_zeroed request parts file ≡ file
parts_stay request from [] end file o e = refl
parts_stay request from (s ∷ parts) end file o e =
    let f : s.offset ≤ s.data_offset = o.1 in
    let c : s.data_offset ≤ s.end = o.2 in
    let both = both_true (is_done_part request file s) (list_all (is_done_part request file) parts) e in
    ap (parts_zeroed request parts) (part_stays request file s (omega arith) both.0)
    ∙ parts_stay request s.end parts end file o.3 both.1

-- ---- a file of which nothing is left to become zeros

pub record Settled (request : Request) (file : List ℕ) (remaining : List Remaining) : Type 0 where
  pub found : List Part
  pub parts : parts_of file ≡ Ok found
  pub each : list_all (is_done_part request file) found ≡ true

some_if : (t : Bool) (found remaining : List Remaining) → ◌≡◌ {A = Option (List Remaining)} (if t then Some found else None) (Some remaining) → t ≡ true
some_if true found remaining e = refl
some_if false found remaining e = absurd (cc)

pub settled_is : (request : Request) (file : List ℕ) (remaining : List Remaining) → settled request file ≡ Some remaining → Settled request file remaining
settled_is request file remaining e = by (parts_of file) refl e
  where
    by : (r : Result (List Part) Refusal) → parts_of file ≡ r → settled_by request file r ≡ Some remaining → Settled request file remaining
    by (Err refusal) p h = absurd (cc)
    by (Ok found) p h =
        record { found = found; parts = p; each = some_if (list_all (is_done_part request file) found) (all_remaining request found) remaining h }

-- scrubbing leaves it as it is
settled_stays : (request : Request) (file : List ℕ) (remaining : List Remaining) → settled request file ≡ Some remaining → scrubbed request file ≡ (file, Ok remaining)
settled_stays request file remaining e =
    let s = settled_is request file remaining e in
    ap (scrubbed_by request file) s.parts
    ∙ ap (λ (f : List ℕ). let o : Outcome = (f, answered (settled request f)) in o) (parts_stay request 0 s.found (length file) file (video_ordered file s.found s.parts) s.each)
    ∙ ap (λ (r : Option (List Remaining)). let o : Outcome = (file, answered r) in o) e

-- ---- a scrubbed file

-- an answer with what remains is of a settled file
answered_ok : (r : Option (List Remaining)) (remaining : List Remaining) → answered r ≡ Ok remaining → r ≡ Some remaining
answered_ok None remaining e = absurd (cc)
answered_ok (Some found) remaining e = cc

answered_err : (r : Option (List Remaining)) → answered r ≡ Err fault.Unstable → r ≡ None
answered_err None e = refl
answered_err (Some found) e = absurd (cc)

file_of : (a b : Outcome) → a ≡ b → a.0 ≡ b.0
file_of a b e = ap (λ (o : Outcome). o.0) e

answer_of : (a b : Outcome) → a ≡ b → a.1 ≡ b.1
answer_of a b e = ap (λ (o : Outcome). o.1) e

pub scrubbed_settled : (request : Request) (file new : List ℕ) (remaining : List Remaining) → scrubbed request file ≡ (new, Ok remaining) → settled request new ≡ Some remaining
scrubbed_settled request file new remaining e = by (parts_of file) e
  where
    by : (r : Result (List Part) Refusal) → scrubbed_by request file r ≡ (new, Ok remaining) → settled request new ≡ Some remaining
    by (Err refusal) h =
        let wrong : ◌≡◌ {A = Result (List Remaining) Fault} (Err (fault.NotListed refusal)) (Ok remaining) = answer_of _ _ h in
        absurd (cc)
    by (Ok parts) h =
        let made = parts_zeroed request parts file in
        sym (ap (settled request) (file_of _ _ h)) ∙ answered_ok (settled request made) remaining (answer_of _ _ h)

pub twice : (request : Request) (file new : List ℕ) (remaining : List Remaining) → scrubbed request file ≡ (new, Ok remaining) → scrubbed request new ≡ (new, Ok remaining)
twice request file new remaining e = settled_stays request new remaining (scrubbed_settled request file new remaining e)

-- ---- a file that is refused for what its new bytes are

pub unstable_is : (request : Request) (file new : List ℕ) → scrubbed request file ≡ (new, Err fault.Unstable)
    → HasParts (parts_of file) × (zeroed_file request file ≡ new) × (settled request new ≡ None)
unstable_is request file new e = by (parts_of file) e
  where
    by : (r : Result (List Part) Refusal) → scrubbed_by request file r ≡ (new, Err fault.Unstable)
        → HasParts r × (zeroed_by request file r ≡ new) × (settled request new ≡ None)
    by (Err refusal) h =
        let wrong : ◌≡◌ {A = Result (List Remaining) Fault} (Err (fault.NotListed refusal)) (Err fault.Unstable) = answer_of _ _ h in
        absurd (cc)
    by (Ok parts) h =
        let made = parts_zeroed request parts file in
        let same : made ≡ new = file_of _ _ h in
        (tt, same, sym (ap (settled request) same) ∙ answered_err (settled request made) (answer_of _ _ h))

pub unstable_if : (request : Request) (file new : List ℕ) → HasParts (parts_of file) × (zeroed_file request file ≡ new) × (settled request new ≡ None)
    → scrubbed request file ≡ (new, Err fault.Unstable)
unstable_if request file new h = by (parts_of file) h.0 h.1 h.2
  where
    by : (r : Result (List Part) Refusal) → HasParts r → zeroed_by request file r ≡ new → settled request new ≡ None
        → scrubbed_by request file r ≡ (new, Err fault.Unstable)
    by (Err refusal) p m n = absurd p
    by (Ok parts) p m n =
        ap (λ (f : List ℕ). let o : Outcome = (f, answered (settled request f)) in o) m
        ∙ ap (λ (r : Option (List Remaining)). let o : Outcome = (new, answered r) in o) n
