-- What holds of packets with another text.
use Rattle.std.proofs.Common.{◌≡◌, ℕ, ◌+◌, ◌-◌, ◌≤◌, Bool, true, false, cond, List, [], ◌∷◌, ◌++◌, length, take, drop, Option, Some, None, Result, Ok, Err, refl, ap, sym, ◌∙◌, arith, subst, length-append, length-drop}
use Rattle.std.specs.Prelude.{◌==◌, min}
use Rattle.std.proofs.lemmas.List.{length-take, length-replicate}
use Rattle.std.proofs.lemmas.Bool.Decides.{nat_tests}
use Rattle.exif_xml.specs.declared.span.Span.{Span}
use Rattle.exif_xml.specs.Characters.{invalid_character}
use Rattle.exif_xml.specs.Refusals.{◌>>=◌}
use Rattle.exif_xml.specs.Scans.{is_space}
use Rattle.exif_xml.proofs.Walks.{ok_is}
use Rattle.exif_xmp.specs.declared.fault.Refusal.{Refusal}
use Rattle.exif_xmp.specs.Properties.{PropertyView}
use Rattle.exif_xmp.specs.Reading.{read}
use Rattle.exif_xmp_set.specs.declared.fault.Reason.{Reason}
use Rattle.exif_xmp_set.specs.declared.found.Found.{Found}
use Rattle.exif_xmp_set.specs.Contents.{Content, contents, is_replaced, replaced}
use Rattle.exif_xmp_set.specs.Found.{settable}
use Rattle.exif_xmp_set.specs.Padding.{fitted, fitted_by, last_gap, padding_of, room_in, room_of, trailing_gap}
use Rattle.exif_xmp_set.specs.Promises.{HasRoom}
use Rattle.exif_xmp_set.specs.Refusals.{of_reader}
use Rattle.exif_xmp_set.specs.Setting.{checked, if_read, if_valid, set_text, span_of, spliced, value_of, with_text}
use Rattle.exif_xmp_set.proofs.Contents.{says_replaced}

-- ---- what was done

-- steps that answer: the first one does
pub record Bound (A B E : Type 0) (r : Result A E) (f : A → Result B E) (y : B) : Type 0 where
  pub value : A
  pub is : r ≡ Ok value
  pub gives : f value ≡ Ok y

pub bound : {A B E : Type 0} (r : Result A E) (f : A → Result B E) (y : B) → (r >>= f) ≡ Ok y → Bound A B E r f y
bound (Ok x) f y e = record { value = x; is = refl; gives = e }
bound (Err x) f y e = absurd cc

pub read_is : (r : Result (List PropertyView) Refusal) (x : List PropertyView) → of_reader r ≡ Ok x → r ≡ Ok x
read_is (Ok y) x e = cc
read_is (Err r) x e = absurd cc

pub valid_is : (o : Option ℕ) (new y : List ℕ) → if_valid o new ≡ Ok y → new ≡ y
valid_is None new y e = cc
valid_is (Some o) new y e = absurd cc

pub record Again (test : List PropertyView → Bool) (new y : List ℕ) (r : Result (List PropertyView) Refusal) : Type 0 where
  pub now : List PropertyView
  pub is : r ≡ Ok now
  pub passes : test now ≡ true
  pub same : new ≡ y

passed : (b : Bool) (new y : List ℕ) (reason : Reason) → (let r : Result (List ℕ) Reason = cond b (Ok new) (Err reason) in r ≡ Ok y) → (b ≡ true) × (new ≡ y)
passed true new y reason e = (refl, ok_is e)
passed false new y reason e = absurd cc

pub again : (test : List PropertyView → Bool) (new y : List ℕ) (r : Result (List PropertyView) Refusal) → if_read test new r ≡ Ok y → Again test new y r
again test new y (Ok now) e =
    let p = passed (test now) new y _ e in
    record { now = now; is = refl; passes = p.0; same = p.1 }
again test new y (Err r) e = absurd cc

-- a text that is set
pub record IsSet (packet namespace path text new : List ℕ) : Type 0 where
  pub old : List PropertyView
  pub now : List PropertyView
  pub found : Found
  pub old_is : read packet ≡ Ok old
  pub found_is : settable old namespace path ≡ Ok found
  pub new_is : with_text packet found text ≡ new
  pub now_is : read new ≡ Ok now
  pub passes : is_replaced false namespace path text old now ≡ true

pub is_set : (packet namespace path text new : List ℕ) → set_text packet namespace path text ≡ Ok new → IsSet packet namespace path text new
unfolding set_text
is_set packet namespace path text new e =
    let a = bound (of_reader (read packet)) (λ old. settable old namespace path >>= λ found. (if_valid (invalid_character text) (with_text packet found text) >>= λ new. checked old new namespace path text)) new e in
    let b = bound (settable a.value namespace path) (λ found. if_valid (invalid_character text) (with_text packet found text) >>= λ new. checked a.value new namespace path text) new a.gives in
    let c = bound (if_valid (invalid_character text) (with_text packet b.value text)) (λ new. checked a.value new namespace path text) new b.gives in
    let d = again (is_replaced false namespace path text a.value) c.value new (read c.value) c.gives in
    let valid : with_text packet b.value text ≡ c.value = valid_is (invalid_character text) (with_text packet b.value text) c.value c.is in
    record {
      old = a.value;
      now = d.now;
      found = b.value;
      old_is = read_is (read packet) a.value a.is;
      found_is = b.is;
      new_is = valid ∙ d.same;
      now_is = subst (λ (x : List ℕ). read x ≡ Ok d.now) d.same d.is;
      passes = d.passes;
    }

-- it is read back
pub reads_back : (packet namespace path text new : List ℕ) → set_text packet namespace path text ≡ Ok new → contents (read new) ≡ replaced namespace path text (read packet)
reads_back packet namespace path text new e =
    let s = is_set packet namespace path text new e in
    let same : contents (Ok s.now) ≡ replaced namespace path text (Ok s.old) = ap (λ (x : List Content). Ok x) (says_replaced false namespace path text s.old s.now s.passes) in
    ap contents s.now_is ∙ (same ∙ ap (replaced namespace path text) (sym s.old_is))

-- ---- lengths

order_of : (c : Bool) (gap : Span) (start offset : ℕ) → start ≤ offset → gap.start ≤ gap.end → (let g : Span = cond c (record { start = start; end = offset }) gap in g.start ≤ g.end)
order_of true gap start offset h k = h
order_of false gap start offset h k = k

within_of : (c : Bool) (gap : Span) (start offset : ℕ) → gap.end ≤ offset → (let g : Span = cond c (record { start = start; end = offset }) gap in g.end ≤ offset + 1)
within_of true gap start offset k = omega arith
within_of false gap start offset k = omega arith

start_of : (d : Bool) (start offset : ℕ) → start ≤ offset → cond d start (offset + 1) ≤ offset + 1
start_of true start offset h = omega arith
start_of false start offset h = omega arith

record Bounds (g : Span) (len : ℕ) : Type 0 where
  order : g.start ≤ g.end
  within : g.end ≤ len

gap_bounds : (gap : Span) (start offset : ℕ) (bs : List ℕ) → start ≤ offset → gap.start ≤ gap.end → gap.end ≤ offset → Bounds (last_gap gap start offset bs) (offset + length bs)
gap_bounds gap start offset [] h k w = record { order = k; within = omega arith }
gap_bounds gap start offset (b ∷ bs) h k w =
    let g : Span = cond (b == 60) (record { start = start; end = offset }) gap in
    let s : ℕ = cond (is_space b) start (offset + 1) in
    let r = gap_bounds g s (offset + 1) bs (start_of (is_space b) start offset h) (order_of (b == 60) gap start offset h k) (within_of (b == 60) gap start offset w) in
    let n : offset + 1 + length bs ≡ offset + length (b ∷ bs) = omega arith in
    record { order = r.order; within = subst (λ (m : ℕ). (last_gap g s (offset + 1) bs).end ≤ m) n r.within }

some_is : (c : Bool) (g p : Span) → (let o : Option Span = cond c (Some g) None in o ≡ Some p) → g ≡ p
some_is true g p e = cc
some_is false g p e = absurd cc

padding_bounds : (tail : List ℕ) (p : Span) → padding_of tail ≡ Some p → Bounds p (length tail)
padding_bounds tail p e =
    let b : Bounds (trailing_gap tail) (0 + length tail) = gap_bounds (record { start = 0; end = 0 }) 0 0 tail (omega arith) (omega arith) (omega arith) in
    let k : 0 + length tail ≡ length tail = omega arith in
    subst (λ (g : Span). Bounds g (length tail)) (some_is _ (trailing_gap tail) p e)
    (subst (λ (m : ℕ). Bounds (trailing_gap tail) m) k b)

has_room : (p : Span) (old new : ℕ) → new - old ≤ p.end - p.start → room_in (Some p) old new ≡ Some p
has_room p old new h = grind (arith, nat_tests)

fitted_length : (old new : ℕ) (tail : List ℕ) (p : Span) → p.start ≤ p.end → p.end ≤ length tail → new - old ≤ p.end - p.start → length (fitted_by (Some p) old new tail) + new ≡ old + length tail
fitted_length old new tail p order within room =
    simp (length-append, length-take, length-replicate, length-drop) (omega arith)

spliced_length : (packet value : List ℕ) (span p : Span) → HasRoom packet value span p → length (spliced packet span value) ≡ length packet
spliced_length packet value span p h =
    let old = span.end - span.start in
    let new = length value in
    let tail = drop span.end packet in
    let b = padding_bounds tail p h.is_padding in
    let room : new - old ≤ p.end - p.start = omega (arith, h.room) in
    let some : room_of old new tail ≡ Some p = ap (λ o. room_in o old new) h.is_padding ∙ has_room p old new room in
    let all : fitted old new tail ≡ fitted_by (Some p) old new tail = ap (λ o. fitted_by o old new tail) some in
    let len : length (fitted old new tail) + new ≡ old + length tail = ap (λ (xs : List ℕ). length xs + new) all ∙ fitted_length old new tail p b.order b.within room in
    let front : length (take span.start packet) ≡ min span.start (length packet) = length-take span.start packet in
    let back : length tail ≡ length packet - span.end = length-drop span.end packet in
    let order = h.order in
    let within = h.within in
    let total : length (take span.start packet ++ (value ++ fitted old new tail)) ≡ length (take span.start packet) + (length value + length (fitted old new tail)) =
    length-append (take span.start packet) (value ++ fitted old new tail) ∙ ap (λ k. length (take span.start packet) + k) (length-append value (fitted old new tail)) in
    total ∙ omega (arith, len, front, back, order, within)

-- a packet with room keeps its length
pub length_kept : (packet namespace path text new : List ℕ) (old : List PropertyView) (found : Found) (padding : Span) → set_text packet namespace path text ≡ Ok new → read packet ≡ Ok old → settable old namespace path ≡ Ok found
    → HasRoom packet (value_of packet found text) (span_of packet found) padding → length new ≡ length packet
unfolding with_text
length_kept packet namespace path text new old found padding e r f h =
    let s = is_set packet namespace path text new e in
    let olds : s.old ≡ old = ok_is (sym s.old_is ∙ r) in
    let founds : s.found ≡ found = ok_is (sym s.found_is ∙ (ap (λ o. settable o namespace path) olds ∙ f)) in
    let news : new ≡ with_text packet found text = sym s.new_is ∙ ap (λ x. with_text packet x text) founds in
    ap length news ∙ spliced_length packet (value_of packet found text) (span_of packet found) padding h
