-- What comes out stays as it is.
use Rattle.std.proofs.Common.{◌≡◌, ◌≤◌, ◌+◌, ◌-◌, ℕ, Bool, true, false, ◌&&◌, if◌then◌else◌, List, [], ◌∷◌, ◌++◌, length, take, drop, Option, None, Some, Result, Ok, Err, refl, ap, sym, ◌∙◌, subst, arith}
use Rattle.std.proofs.lemmas.List.{drop-drop, take-append-drop}
use Rattle.std.proofs.lemmas.Slice.Eq.{bytes_eq-Decides}
use Rattle.std.specs.List.{list_all}
use Rattle.exif_inventory.specs.declared.part.Part.{Part}
use Rattle.exif_inventory_heif.specs.Inventories.{heif_layout}
use Rattle.exif_inventory_heif.specs.Walks.{AreSpans}
use Rattle.exif_inventory_heif.specs.declared.span.Span.{Span}
use Rattle.exif_blanks.specs.HeifBlanks.{blanked, span_blank}
use Rattle.exif_scrub.specs.HeifScrubbing.{bytes_of, emptied_by, if_emptied, is_settled, left_parts, scrubbed, settled, settled_by, span_emptied, spans_emptied, with_bytes, with_left}
use Rattle.exif_scrub.specs.declared.heif.fault.Fault.{Fault}
use Rattle.exif_scrub.specs.declared.heif.fault.Fault.TheVariants.{Unstable}
use Rattle.exif_scrub.proofs.LayoutOrder.{heif_ordered}

-- what a call answers: a file, and the parts that stay
abbrev Answer : Type 0
Answer = Result (List ℕ × Option (List Part)) Fault

-- equal answers have the same file and the same parts
pub same_answer : (file new : List ℕ) (parts left : Option (List Part)) → ◌≡◌ {A = Answer} (Ok (file, parts)) (Ok (new, left)) → (file ≡ new) × (parts ≡ left)
same_answer file new parts left e =
    let p : ◌≡◌ {A = List ℕ × Option (List Part)} (file, parts) (new, left) = cc in
    (ap (λ (a : List ℕ × Option (List Part)). a.0) p, ap (λ (a : List ℕ × Option (List Part)). a.1) p)

-- ---- spans that are what becomes of them

pub both_true : (a b : Bool) → (a && b) ≡ true → (a ≡ true) × (b ≡ true)
both_true true b e = (refl, e)
both_true false b e = absurd (cc)

-- a file with the bytes of a span in their place
same_bytes : (span : Span) (file : List ℕ) → span.from ≤ span.end → with_bytes span (bytes_of span file) file ≡ file
same_bytes span file h =
    let n : span.end ≡ span.from + (span.end - span.from) = omega arith in
    let back : drop span.end file ≡ drop (span.end - span.from) (drop span.from file) =
    ap (λ k. drop k file) n ∙ sym (drop-drop (span.end - span.from) span.from file) in
    ap (λ (bs : List ℕ). take span.from file ++ (bytes_of span file ++ bs)) back
    ∙ ap (λ (bs : List ℕ). take span.from file ++ bs) (take-append-drop (span.end - span.from) (drop span.from file))
    ∙ take-append-drop span.from file

pub settled_bytes : (judged : Bool) (file : List ℕ) (span : Span) → is_settled judged file span ≡ true
    → blanked (span_blank judged span) (bytes_of span file) ≡ bytes_of span file
settled_bytes judged file span e = (bytes_eq-Decides (blanked (span_blank judged span) (bytes_of span file)) (bytes_of span file)).0 e

span_stays : (judged : Bool) (file : List ℕ) (span : Span) → span.from ≤ span.end → is_settled judged file span ≡ true → span_emptied judged span file ≡ file
span_stays judged file span h e =
    ap (λ (bs : List ℕ). with_bytes span bs file) (settled_bytes judged file span e) ∙ same_bytes span file h

spans_stay : (judged : Bool) (from : ℕ) (spans : List Span) (end : ℕ) (file : List ℕ) → AreSpans from spans end
    → list_all (is_settled judged file) spans ≡ true → spans_emptied judged spans file ≡ file
spans_stay judged from [] end file o e = refl
spans_stay judged from (s ∷ spans) end file o e =
    let f : s.from ≤ s.content = o.1 in
    let c : s.content ≤ s.end = o.2 in
    let both = both_true (is_settled judged file s) (list_all (is_settled judged file) spans) e in
    ap (spans_emptied judged spans) (span_stays judged file s (omega arith) both.0)
    ∙ spans_stay judged s.end spans end file o.3 both.1

-- ---- a file that is settled

pub record Settled (file : List ℕ) (left : List Part) : Type 0 where
  pub spans : List Span
  pub judged : Bool
  pub layout : heif_layout file ≡ Some (spans, judged)
  pub each : list_all (is_settled judged file) spans ≡ true
  pub parts : left ≡ left_parts judged spans

settled_if : (t : Bool) (file : List ℕ) (left : List Part) (spans : List Span) (judged : Bool) → heif_layout file ≡ Some (spans, judged)
    → list_all (is_settled judged file) spans ≡ t
    → ◌≡◌ {A = Result (List Part) Fault} (if t then Ok (left_parts judged spans) else Err Unstable) (Ok left)
    → Settled file left
settled_if true file left spans judged l h e = record { spans = spans; judged = judged; layout = l; each = h; parts = cc }
settled_if false file left spans judged l h e = absurd (cc)

pub settled_is : (file : List ℕ) (left : List Part) → settled file ≡ Ok left → Settled file left
settled_is file left e = by (heif_layout file) refl e
  where
    by : (layout : Option (List Span × Bool)) → heif_layout file ≡ layout → settled_by file layout ≡ Ok left → Settled file left
    by None l h = absurd (cc)
    by (Some (spans, judged)) l h = settled_if (list_all (is_settled judged file) spans) file left spans judged l refl h

-- a settled file is scrubbed already
settled_stays : (file : List ℕ) (left : List Part) → settled file ≡ Ok left → scrubbed file ≡ Ok (file, Some left)
settled_stays file left e =
    let s = settled_is file left e in
    ap (λ (l : Option (List Span × Bool)). if_emptied (emptied_by file l)) s.layout
    ∙ ap (λ (f : List ℕ). with_left f (settled f)) (spans_stay s.judged 0 s.spans (length file) file (heif_ordered file s.spans s.judged s.layout) s.each)
    ∙ ap (with_left file) e

-- ---- a scrubbed file

-- the file and the parts of an answer are those of a settled file
pub left_is : (file new : List ℕ) (left : Option (List Part)) (r : Result (List Part) Fault) → with_left file r ≡ Ok (new, left)
    → (parts : List Part) × (file ≡ new) × (left ≡ Some parts) × (r ≡ Ok parts)
left_is file new left (Err fault) e = absurd (cc)
left_is file new left (Ok parts) e = let same = same_answer file new (Some parts) left e in (parts, same.0, sym same.1, refl)

pub twice : (file new : List ℕ) (left : Option (List Part)) → scrubbed file ≡ Ok (new, left) → scrubbed new ≡ Ok (new, left)
twice file new left e = by (heif_layout file) e
  where
    by : (layout : Option (List Span × Bool)) → if_emptied (emptied_by file layout) ≡ Ok (new, left) → scrubbed new ≡ Ok (new, left)
    by None h = subst (λ (f : List ℕ). scrubbed f ≡ Ok (new, left)) (same_answer file new None left h).0 e
    by (Some (spans, judged)) h =
        let made = spans_emptied judged spans file in
        let l = left_is made new left (settled made) h in
        subst (λ (f : List ℕ). scrubbed f ≡ Ok (f, left)) l.1
        (settled_stays made l.0 l.3 ∙ ap (λ (parts : Option (List Part)). let a : Answer = Ok (made, parts) in a) (sym l.2))

-- a HEIF file that was scrubbed is settled
pub scrubbed_settled : (file new : List ℕ) (left : List Part) → scrubbed file ≡ Ok (new, Some left) → settled new ≡ Ok left
scrubbed_settled file new left e = by (heif_layout file) e
  where
    by : (layout : Option (List Span × Bool)) → if_emptied (emptied_by file layout) ≡ Ok (new, Some left) → settled new ≡ Ok left
    by None h = let none = (same_answer file new None (Some left) h).1 in absurd (cc)
    by (Some (spans, judged)) h =
        let made = spans_emptied judged spans file in
        let l = left_is made new (Some left) (settled made) h in
        let same : left ≡ l.0 = let p = l.2 in cc in
        sym (ap settled l.1) ∙ l.3 ∙ ap (λ (parts : List Part). let r : Result (List Part) Fault = Ok parts in r) (sym same)
