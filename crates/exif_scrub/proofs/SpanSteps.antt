-- A span of a file changed, and then the spans behind it.
use Rattle.std.proofs.Common.{◌≡◌, ◌≤◌, ◌+◌, ◌-◌, ℕ, suc, Bool, List, [], ◌∷◌, ◌++◌, length, take, drop, All, Option, Some, refl, ap, sym, ◌∙◌, subst, arith, length-append, length-drop}
use Rattle.std.proofs.lemmas.List.{drop-drop, drop-take, drop_all, drop_at, length-take-le, take-append-le, take-take, take_at}
use Rattle.std.proofs.lemmas.List.Elements.{All-cons, All-nil}
use Rattle.exif_inventory_heif.specs.Walks.{AreSpans}
use Rattle.exif_inventory_heif.specs.declared.span.Span.{Span}
use Rattle.exif_blanks.specs.HeifBlanks.{blanked, span_blank}
use Rattle.exif_scrub.specs.HeifPromises.{AllBecome, Becomes}
use Rattle.exif_scrub.specs.HeifScrubbing.{bytes_of, spans_emptied, with_bytes}
use Rattle.exif_blanks.proofs.BlankSteps.{blanked_long}

-- ---- other bytes in a span

record Fits (span : Span) (new file : List ℕ) : Type 0 where
  ordered : span.from ≤ span.end
  within : span.end ≤ length file
  long : length new ≡ span.end - span.from

front_long : (span : Span) (new file : List ℕ) → Fits span new file → length (take span.from file) ≡ span.from
front_long span new file f =
    let o = f.ordered in
    let w = f.within in
    length-take-le span.from file (omega arith)

-- what comes before it stays
front_stays : (span : Span) (new file : List ℕ) (n : ℕ) → Fits span new file → n ≤ span.from
    → take n (with_bytes span new file) ≡ take n file
front_stays span new file n f h =
    let l = front_long span new file f in
    take-append-le n (take span.from file) (new ++ drop span.end file) (omega arith) ∙ take-take n span.from file h

from_it : (span : Span) (new file : List ℕ) → Fits span new file → drop span.from (with_bytes span new file) ≡ new ++ drop span.end file
from_it span new file f =
    drop_at (take span.from file) (new ++ drop span.end file) span.from (front_long span new file f)

-- it has the new bytes
middle_is : (span : Span) (new file : List ℕ) → Fits span new file → bytes_of span (with_bytes span new file) ≡ new
middle_is span new file f =
    ap (take (span.end - span.from)) (from_it span new file f) ∙ take_at new (drop span.end file) (span.end - span.from) f.long

end_stays : (span : Span) (new file : List ℕ) → Fits span new file → drop span.end (with_bytes span new file) ≡ drop span.end file
end_stays span new file f =
    let o = f.ordered in
    let n : span.end ≡ span.from + (span.end - span.from) = omega arith in
    ap (λ k. drop k (with_bytes span new file)) n
    ∙ sym (drop-drop (span.end - span.from) span.from (with_bytes span new file))
    ∙ ap (drop (span.end - span.from)) (from_it span new file f)
    ∙ drop_at new (drop span.end file) (span.end - span.from) f.long

-- what follows it stays
behind_stays : (span : Span) (new file : List ℕ) (n : ℕ) → Fits span new file → span.end ≤ n
    → drop n (with_bytes span new file) ≡ drop n file
behind_stays span new file n f h =
    let k : n ≡ span.end + (n - span.end) = omega arith in
    ap (λ k. drop k (with_bytes span new file)) k
    ∙ sym (drop-drop (n - span.end) span.end (with_bytes span new file))
    ∙ ap (drop (n - span.end)) (end_stays span new file f)
    ∙ drop-drop (n - span.end) span.end file
    ∙ ap (λ k. drop k file) (sym k)

with_long : (span : Span) (new file : List ℕ) → Fits span new file → length (with_bytes span new file) ≡ length file
with_long span new file f =
    let o = f.ordered in
    let w = f.within in
    let l = f.long in
    let front = front_long span new file f in
    let outer : length (with_bytes span new file) ≡ length (take span.from file) + length (new ++ drop span.end file) = length-append (take span.from file) (new ++ drop span.end file) in
    let inner : length (new ++ drop span.end file) ≡ length new + length (drop span.end file) = length-append new (drop span.end file) in
    let back : length (drop span.end file) ≡ length file - span.end = length-drop span.end file in
    omega arith

-- ---- all spans

-- the bytes of a span are those of the front up to its end
by_front : (span : Span) (file : List ℕ) → span.from ≤ span.end → bytes_of span file ≡ drop span.from (take span.end file)
by_front span file h =
    let n : span.from + (span.end - span.from) ≡ span.end = omega arith in
    sym (drop-take span.from (span.end - span.from) file) ∙ ap (λ k. drop span.from (take k file)) n

bytes_long : (span : Span) (file : List ℕ) → span.from ≤ span.end → span.end ≤ length file → length (bytes_of span file) ≡ span.end - span.from
bytes_long span file o w =
    let back : length (drop span.from file) ≡ length file - span.from = length-drop span.from file in
    length-take-le (span.end - span.from) (drop span.from file) (omega arith)

-- what spans behind a changed one become, they become of the file before
moved : (judged : Bool) (from : ℕ) (spans : List Span) (end : ℕ) (span : Span) (new file out : List ℕ) → Fits span new file → AreSpans from spans end
    → span.end ≤ from → All (Becomes judged (with_bytes span new file) out) spans → All (Becomes judged file out) spans
moved judged from [] end span new file out f o h a = All-nil (Becomes judged file out)
moved judged from (s ∷ spans) end span new file out f o h a =
    let at : s.from ≡ from = o.0 in
    let c : s.from ≤ s.content = o.1 in
    let e : s.content ≤ s.end = o.2 in
    let first : Becomes judged (with_bytes span new file) out s = a 0 s (omega arith) in
    let same : bytes_of s (with_bytes span new file) ≡ bytes_of s file = ap (take (s.end - s.from)) (behind_stays span new file s.from f (omega arith)) in
    All-cons (Becomes judged file out) s spans (first ∙ ap (blanked (span_blank judged s)) same)
    (moved judged s.end spans end span new file out f o.3 (omega arith) (λ k d i. a (suc k) d (omega arith)))

-- what becomes of a file whose spans are changed one after the other
pub record Each (judged : Bool) (from : ℕ) (spans : List Span) (file : List ℕ) : Type 0 where
  pub front : take from (spans_emptied judged spans file) ≡ take from file
  pub long : length (spans_emptied judged spans file) ≡ length file
  pub each : All (Becomes judged file (spans_emptied judged spans file)) spans

pub each_becomes : (judged : Bool) (from : ℕ) (spans : List Span) (end : ℕ) (file : List ℕ) → AreSpans from spans end
    → end ≤ length file → Each judged from spans file
each_becomes judged from [] end file o h = record { front = refl; long = refl; each = All-nil (Becomes judged file file) }
each_becomes judged from (s ∷ spans) end file o h =
    let at : s.from ≡ from = o.0 in
    let c : s.from ≤ s.content = o.1 in
    let e : s.content ≤ s.end = o.2 in
    let inside : s.end ≤ end = not_before s.end spans end o.3 in
    let new = blanked (span_blank judged s) (bytes_of s file) in
    let f : Fits s new file = record {
      ordered = omega arith;
      within = omega arith;
      long = blanked_long (span_blank judged s) (bytes_of s file) ∙ bytes_long s file (omega arith) (omega arith);
    } in
    let next = with_bytes s new file in
    let l : length next ≡ length file = with_long s new file f in
    let rest = each_becomes judged s.end spans end next o.3 (omega arith) in
    let out = spans_emptied judged spans next in
    let ahead : take from out ≡ take from next =
    sym (take-take from s.end out (omega arith)) ∙ ap (take from) rest.front ∙ take-take from s.end next (omega arith) in
    let own : bytes_of s out ≡ new =
    by_front s out (omega arith) ∙ ap (drop s.from) rest.front ∙ sym (by_front s next (omega arith)) ∙ middle_is s new file f in
    record {
      front = ahead ∙ front_stays s new file from f (omega arith);
      long = rest.long ∙ l;
      each = All-cons (Becomes judged file out) s spans own (moved judged s.end spans end s new file out f o.3 (omega arith) rest.each);
    }
  where
    not_before : (from : ℕ) (spans : List Span) (end : ℕ) → AreSpans from spans end → from ≤ end
    not_before from [] end h = omega arith
    not_before from (s ∷ spans) end h =
        let at : s.from ≡ from = h.0 in
        let c : s.from ≤ s.content = h.1 in
        let e : s.content ≤ s.end = h.2 in
        let l = not_before s.end spans end h.3 in
        omega arith

-- all spans of a file, changed one after the other, become what is promised
pub all_become : (file out : List ℕ) (layout : Option (List Span × Bool)) (spans items : List Span) (judged : Bool) (n : ℕ)
    → layout ≡ Some (spans, judged) → AreSpans 0 spans (length file) → items ≡ spans → length items ≤ n
    → spans_emptied judged (drop n items) out ≡ spans_emptied judged items file → AllBecome file out layout
all_become file out layout spans items judged n l o i over made =
    let none : drop n items ≡ [] = drop_all n items over in
    let out_is : out ≡ spans_emptied judged spans file =
    ap (λ (xs : List Span). spans_emptied judged xs out) (sym none) ∙ made
    ∙ ap (λ (xs : List Span). spans_emptied judged xs file) i in
    let e = each_becomes judged 0 spans (length file) file o (omega arith) in
    subst (λ (l : Option (List Span × Bool)). AllBecome file out l) (sym l)
    (o, subst (λ (r : List ℕ). All (Becomes judged file r) spans) (sym out_is) e.each)
