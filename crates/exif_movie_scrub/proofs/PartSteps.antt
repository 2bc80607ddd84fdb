-- Zeros in a part of a file, and then in the parts behind it.
use Rattle.std.proofs.Common.{◌≡◌, ◌≤◌, ◌+◌, ◌-◌, ℕ, suc, List, [], ◌∷◌, ◌++◌, length, take, drop, All, refl, ap, sym, ◌∙◌, arith, length-append, length-drop}
use Rattle.std.proofs.lemmas.List.{drop-drop, drop-take, drop_at, length-take-le, take-append-le, take-take, take_at}
use Rattle.std.proofs.lemmas.List.Elements.{All-cons, All-nil}
use borrow.Rule.Slice.PartMut.{put_mid}
use Rattle.exif_movie.specs.Parts.{AreParts, bytes_of}
use Rattle.exif_movie.specs.declared.part.Part.{Part}
use Rattle.exif_movie_scrub.specs.Promises.{Becomes}
use Rattle.exif_movie_scrub.specs.Requests.{zeroed_of}
use Rattle.exif_movie_scrub.specs.Scrubbing.{part_zeroed, parts_zeroed, with_bytes}
use Rattle.exif_movie_scrub.specs.Zeros.{with_zeros}
use Rattle.exif_movie_scrub.specs.declared.request.Request.{Request}
use Rattle.exif_movie_scrub.specs.declared.zeros.Zeroed.{Zeroed}
use Rattle.exif_movie_scrub.proofs.ZeroSteps.{with_zeros_long}

-- so many bytes behind an offset are the bytes of a part
pub bytes_are : (part : Part) (file : List ℕ) → part.offset ≤ part.end → take (part.end - part.offset) (drop part.offset file) ≡ bytes_of part file
bytes_are part file h =
    let n : part.offset + (part.end - part.offset) ≡ part.end = omega arith in
    sym (drop-take part.offset (part.end - part.offset) file) ∙ ap (λ k. drop part.offset (take k file)) n

-- zeros in what is lent of a file
pub put_part : (request : Request) (part : Part) (file new : List ℕ) (what : Zeroed) → part.offset ≤ part.end → what ≡ zeroed_of request part
    → new ≡ with_zeros what (take (part.end - part.offset) (drop part.offset file))
    → put_mid part.offset (part.end - part.offset) file new ≡ part_zeroed request part file
put_part request part file new what o w e =
    let n = part.end - part.offset in
    let sum : part.offset + n ≡ part.end = omega arith in
    ap (λ (bs : List ℕ). take part.offset file ++ (new ++ bs)) (drop-drop n part.offset file ∙ ap (λ k. drop k file) sum)
    ∙ ap (λ (bs : List ℕ). take part.offset file ++ (bs ++ drop part.end file))
    (e ∙ ap (λ (z : Zeroed). with_zeros z (take n (drop part.offset file))) w ∙ ap (with_zeros (zeroed_of request part)) (bytes_are part file o))

bytes_long : (part : Part) (file : List ℕ) → part.offset ≤ part.end → part.end ≤ length file → length (bytes_of part file) ≡ part.end - part.offset
bytes_long part file o w =
    let back : length (drop part.offset file) ≡ length file - part.offset = length-drop part.offset file in
    ap length (sym (bytes_are part file o)) ∙ length-take-le (part.end - part.offset) (drop part.offset file) (omega arith)

-- ---- other bytes in a part

record Fits (part : Part) (new file : List ℕ) : Type 0 where
  ordered : part.offset ≤ part.end
  within : part.end ≤ length file
  long : length new ≡ part.end - part.offset

prefix_long : (part : Part) (new file : List ℕ) → Fits part new file → length (take part.offset file) ≡ part.offset
prefix_long part new file f =
    let o = f.ordered in
    let w = f.within in
    length-take-le part.offset file (omega arith)

-- what comes before it stays
prefix_stays : (part : Part) (new file : List ℕ) (n : ℕ) → Fits part new file → n ≤ part.offset
    → take n (with_bytes part new file) ≡ take n file
prefix_stays part new file n f h =
    let l = prefix_long part new file f in
    take-append-le n (take part.offset file) (new ++ drop part.end file) (omega arith) ∙ take-take n part.offset file h

from_it : (part : Part) (new file : List ℕ) → Fits part new file → drop part.offset (with_bytes part new file) ≡ new ++ drop part.end file
from_it part new file f =
    drop_at (take part.offset file) (new ++ drop part.end file) part.offset (prefix_long part new file f)

-- it has the new bytes
part_is : (part : Part) (new file : List ℕ) → Fits part new file → bytes_of part (with_bytes part new file) ≡ new
part_is part new file f =
    sym (bytes_are part (with_bytes part new file) f.ordered)
    ∙ ap (take (part.end - part.offset)) (from_it part new file f)
    ∙ take_at new (drop part.end file) (part.end - part.offset) f.long

end_stays : (part : Part) (new file : List ℕ) → Fits part new file → drop part.end (with_bytes part new file) ≡ drop part.end file
end_stays part new file f =
    let o = f.ordered in
    let n : part.end ≡ part.offset + (part.end - part.offset) = omega arith in
    ap (λ k. drop k (with_bytes part new file)) n
    ∙ sym (drop-drop (part.end - part.offset) part.offset (with_bytes part new file))
    ∙ ap (drop (part.end - part.offset)) (from_it part new file f)
    ∙ drop_at new (drop part.end file) (part.end - part.offset) f.long

-- what follows it stays
rest_stays : (part : Part) (new file : List ℕ) (n : ℕ) → Fits part new file → part.end ≤ n
    → drop n (with_bytes part new file) ≡ drop n file
rest_stays part new file n f h =
    let k : n ≡ part.end + (n - part.end) = omega arith in
    ap (λ k. drop k (with_bytes part new file)) k
    ∙ sym (drop-drop (n - part.end) part.end (with_bytes part new file))
    ∙ ap (drop (n - part.end)) (end_stays part new file f)
    ∙ drop-drop (n - part.end) part.end file
    ∙ ap (λ k. drop k file) (sym k)

with_long : (part : Part) (new file : List ℕ) → Fits part new file → length (with_bytes part new file) ≡ length file
with_long part new file f =
    let o = f.ordered in
    let w = f.within in
    let l = f.long in
    let front = prefix_long part new file f in
    let outer : length (with_bytes part new file) ≡ length (take part.offset file) + length (new ++ drop part.end file) = length-append (take part.offset file) (new ++ drop part.end file) in
    let inner : length (new ++ drop part.end file) ≡ length new + length (drop part.end file) = length-append new (drop part.end file) in
    let back : length (drop part.end file) ≡ length file - part.end = length-drop part.end file in
    omega arith

-- ---- all parts

-- a part behind a changed one has its bytes
later_stays : (s part : Part) (new file : List ℕ) → Fits part new file → part.end ≤ s.offset → s.offset ≤ s.end
    → bytes_of s (with_bytes part new file) ≡ bytes_of s file
later_stays s part new file f h o =
    sym (bytes_are s (with_bytes part new file) o)
    ∙ ap (take (s.end - s.offset)) (rest_stays part new file s.offset f h)
    ∙ bytes_are s file o

-- what parts behind a changed one become, they become of the file before
moved : (request : Request) (from : ℕ) (parts : List Part) (end : ℕ) (part : Part) (new file out : List ℕ) → Fits part new file → AreParts from parts end
    → part.end ≤ from → All (Becomes request (with_bytes part new file) out) parts → All (Becomes request file out) parts
moved request from [] end part new file out f o h a = All-nil (Becomes request file out)
moved request from (s ∷ parts) end part new file out f o h a =
    let at : s.offset ≡ from = o.0 in
    let c : s.offset ≤ s.data_offset = o.1 in
    let e : s.data_offset ≤ s.end = o.2 in
    let first : Becomes request (with_bytes part new file) out s = a 0 s (omega arith) in
    let same : bytes_of s (with_bytes part new file) ≡ bytes_of s file = later_stays s part new file f (omega arith) (omega arith) in
    All-cons (Becomes request file out) s parts (first ∙ ap (with_zeros (zeroed_of request s)) same)
    (moved request s.end parts end part new file out f o.3 (omega arith) (λ k d i. a (suc k) d (omega arith)))

-- what becomes of a file with zeros in its parts, one after the other
pub record Each (request : Request) (from : ℕ) (parts : List Part) (file : List ℕ) : Type 0 where
  pub before : take from (parts_zeroed request parts file) ≡ take from file
  pub long : length (parts_zeroed request parts file) ≡ length file
  pub each : All (Becomes request file (parts_zeroed request parts file)) parts

pub each_becomes : (request : Request) (from : ℕ) (parts : List Part) (end : ℕ) (file : List ℕ) → AreParts from parts end
    → end ≤ length file → Each request from parts file
each_becomes request from [] end file o h = record { before = refl; long = refl; each = All-nil (Becomes request file file) }
each_becomes request from (s ∷ parts) end file o h =
    let at : s.offset ≡ from = o.0 in
    let c : s.offset ≤ s.data_offset = o.1 in
    let e : s.data_offset ≤ s.end = o.2 in
    let inside : s.end ≤ end = not_before s.end parts end o.3 in
    let new = with_zeros (zeroed_of request s) (bytes_of s file) in
    let f : Fits s new file = record {
      ordered = omega arith;
      within = omega arith;
      long = with_zeros_long (zeroed_of request s) (bytes_of s file) ∙ bytes_long s file (omega arith) (omega arith);
    } in
    let next = with_bytes s new file in
    let l : length next ≡ length file = with_long s new file f in
    let rest = each_becomes request s.end parts end next o.3 (omega arith) in
    let out = parts_zeroed request parts next in
    let ahead : take from out ≡ take from next =
    sym (take-take from s.end out (omega arith)) ∙ ap (take from) rest.before ∙ take-take from s.end next (omega arith) in
    let own : bytes_of s out ≡ new =
    ap (drop s.offset) rest.before ∙ part_is s new file f in
    record {
      before = ahead ∙ prefix_stays s new file from f (omega arith);
      long = rest.long ∙ l;
      each = All-cons (Becomes request file out) s parts own (moved request s.end parts end s new file out f o.3 (omega arith) rest.each);
    }
  where
    not_before : (from : ℕ) (parts : List Part) (end : ℕ) → AreParts from parts end → from ≤ end
    not_before from [] end h = omega arith
    not_before from (s ∷ parts) end h =
        let at : s.offset ≡ from = h.0 in
        let c : s.offset ≤ s.data_offset = h.1 in
        let e : s.data_offset ≤ s.end = h.2 in
        let l = not_before s.end parts end h.3 in
        omega arith
