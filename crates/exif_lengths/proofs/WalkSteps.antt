-- A walk over a part, piece after piece.
use Rattle.std.proofs.Common.{◌≡◌, ◌<◌, ◌≤◌, ◌+◌, ◌-◌, ◌==◌, ℕ, zero, suc, Bool, true, false, cond, List, [], ◌∷◌, ◌++◌, length, drop, All, refl, ap, sym, ◌∙◌, subst, take, arith, length-drop, length-take}
use Rattle.std.proofs.lemmas.Bool.Decides.{nat_tests}
use Rattle.std.proofs.lemmas.List.Elements.{All-append, All-cons, All-nil}
use Rattle.exif_inventory.specs.Promises.{AreInOrder, EndsIn}
use Rattle.exif_inventory.specs.declared.kind.Kind.TheVariants as kind
use Rattle.exif_inventory.specs.declared.part.Part.{Part}
use Rattle.exif_lengths.specs.Formats.{step_at}
use Rattle.exif_lengths.specs.Walks.{Found, apart, closed, longer, part_at, split, stepped}
use Rattle.exif_lengths.specs.declared.format.Format.{Format}
use Rattle.exif_lengths.specs.declared.step.Step.{Step}

-- what follows the first byte is shorter by that
shorter : (m n : ℕ) (bytes : List ℕ) → length bytes ≤ n → length (drop m bytes) ≤ n
shorter m n bytes h = let e : length (drop m bytes) ≡ length bytes - m = length-drop m bytes in omega arith

-- any bound that is large enough serves
split_any : (n k : ℕ) (format : Format) (picture : ℕ) (bytes : List ℕ) (found : Found) → length bytes ≤ n → length bytes ≤ k
    → split n format picture bytes found ≡ split k format picture bytes found
unfolding split
split_any zero zero format picture [] found h l = refl
split_any zero (suc k) format picture [] found h l = refl
split_any (suc n) zero format picture [] found h l = refl
split_any (suc n) (suc k) format picture [] found h l = refl
split_any zero k format picture (b ∷ bytes) found h l = absurd (omega arith)
split_any (suc n) zero format picture (b ∷ bytes) found h l = absurd (omega arith)
split_any (suc n) (suc k) format picture (b ∷ bytes) found h l =
    let step = step_at format found.scanning (b ∷ bytes) in
    split_any n k format picture (drop (step.len - 1) bytes) (stepped picture found step)
    (shorter (step.len - 1) n bytes (omega arith)) (shorter (step.len - 1) k bytes (omega arith))

-- the bytes behind a piece
behind_piece : (b : ℕ) (bytes : List ℕ) (len : ℕ) → 0 < len → drop (len - 1) bytes ≡ drop len (b ∷ bytes)
behind_piece b bytes zero h = absurd (omega arith)
behind_piece b bytes (suc n) h = ap (λ k. drop k bytes) (omega arith)

-- one piece
split_on : (format : Format) (picture : ℕ) (bytes : List ℕ) (found : Found) → 0 < length bytes → 0 < (step_at format found.scanning bytes).len
    → let step = step_at format found.scanning bytes in
    split (length bytes) format picture bytes found
    ≡ split (length (drop step.len bytes)) format picture (drop step.len bytes) (stepped picture found step)
unfolding split
split_on format picture [] found h p = absurd (omega arith)
split_on format picture (b ∷ bytes) found h p =
    let step = step_at format found.scanning (b ∷ bytes) in
    let rest = drop (step.len - 1) bytes in
    let next = stepped picture found step in
    let same : rest ≡ drop step.len (b ∷ bytes) = behind_piece b bytes step.len p in
    split_any (length bytes) (length rest) format picture rest next (shorter (step.len - 1) (length bytes) bytes (omega arith)) (omega arith)
    ∙ ap (λ bs. split (length bs) format picture bs next) same

-- the end
split_over : (n : ℕ) (format : Format) (picture : ℕ) (bytes : List ℕ) (found : Found) → length bytes ≡ 0 → split n format picture bytes found ≡ found
unfolding split
split_over zero format picture [] found h = refl
split_over (suc n) format picture [] found h = refl
split_over n format picture (b ∷ bytes) found h = absurd (omega arith)

-- ---- the parts end within the file

one_more : (n : ℕ) (parts : List Part) (part : Part) → All (EndsIn n) parts → EndsIn n part → All (EndsIn n) (parts ++ part ∷ [])
one_more n parts part all ends = All-append (EndsIn n) parts (part ∷ []) all (All-cons (EndsIn n) part [] ends (All-nil (EndsIn n)))

closed_by : (b : Bool) (n picture : ℕ) (found : Found) → All (EndsIn n) found.parts → found.from + found.len ≤ n
    → All (EndsIn n) (cond b found.parts (found.parts ++ part_at kind.Picture picture found.from found.len ∷ []))
closed_by true n picture found all ends = all
closed_by false n picture found all ends = one_more n found.parts (part_at kind.Picture picture found.from found.len) all ends

pub closed_inside : (n picture : ℕ) (found : Found) → All (EndsIn n) found.parts → found.from + found.len ≤ n → All (EndsIn n) (closed picture found)
closed_inside n picture found all ends = closed_by (found.len == 0) n picture found all ends

stepped_by : (b : Bool) (n picture : ℕ) (found : Found) (step : Step) → All (EndsIn n) found.parts → found.from + found.len + step.len ≤ n
    → All (EndsIn n) (cond b (longer found step) (apart picture found step)).parts
stepped_by true n picture found step all ends = all
stepped_by false n picture found step all ends =
    one_more n (closed picture found) (part_at kind.Unknown picture (found.from + found.len) step.len) (closed_inside n picture found all (omega arith)) ends

ends_by : (b : Bool) (picture : ℕ) (found : Found) (step : Step)
    → let next = cond b (longer found step) (apart picture found step) in next.from + next.len ≡ found.from + found.len + step.len
ends_by true picture found step = omega arith
ends_by false picture found step = omega arith

-- ---- the order of the parts

-- one part more
pub behind_ordered : (at : ℕ) (parts : List Part) (part : Part) → AreInOrder at parts part.offset → AreInOrder at (parts ++ part ∷ []) (part.offset + part.len)
behind_ordered at [] part h = (sym h, omega arith)
behind_ordered at (p ∷ parts) part h = (h.0, behind_ordered (at + p.len) parts part h.1)

pub ordered_to : (parts : List Part) (m n : ℕ) → m ≡ n → AreInOrder 0 parts m → AreInOrder 0 parts n
ordered_to parts m n e h = subst (λ (k : ℕ). AreInOrder 0 parts k) e h

no_bytes : (n : ℕ) → (n == 0) ≡ true → n ≡ 0
no_bytes n e = grind (arith, nat_tests)

run_by : (b : Bool) (len picture from : ℕ) (parts : List Part) → (len == 0) ≡ b → AreInOrder 0 parts from
    → AreInOrder 0 (cond b parts (parts ++ part_at kind.Picture picture from len ∷ [])) (from + len)
run_by true len picture from parts e h = let none : len ≡ 0 = no_bytes len e in ordered_to parts from (from + len) (omega arith) h
run_by false len picture from parts e h = behind_ordered 0 parts (part_at kind.Picture picture from len) h

pub closed_ordered : (picture : ℕ) (found : Found) → AreInOrder 0 found.parts found.from → AreInOrder 0 (closed picture found) (found.from + found.len)
closed_ordered picture found h = run_by (found.len == 0) found.len picture found.from found.parts refl h

ordered_by : (b : Bool) (picture : ℕ) (found : Found) (step : Step) → AreInOrder 0 found.parts found.from
    → let next = cond b (longer found step) (apart picture found step) in AreInOrder 0 next.parts next.from
ordered_by true picture found step h = h
ordered_by false picture found step h =
    behind_ordered 0 (closed picture found) (part_at kind.Unknown picture (found.from + found.len) step.len) (closed_ordered picture found h)

-- ---- a walk that is under way

pub record Splits (format : Format) (picture n : ℕ) (all : List ℕ) (start : Found) (bytes : List ℕ) (found : Found) : Type 0 where
  pub same : split (length all) format picture all start ≡ split (length bytes) format picture bytes found
  pub ends : found.from + found.len + length bytes ≡ start.from + start.len + length all
  pub within : found.from + found.len + length bytes ≤ n
  pub order : AreInOrder 0 found.parts found.from
  pub inside : All (EndsIn n) found.parts

one_on : (format : Format) (picture n : ℕ) (all : List ℕ) (start : Found) (bytes : List ℕ) (found : Found)
    → Splits format picture n all start bytes found → 0 < length bytes
    → 0 < (step_at format found.scanning bytes).len → (step_at format found.scanning bytes).len ≤ length bytes
    → let step = step_at format found.scanning bytes in Splits format picture n all start (drop step.len bytes) (stepped picture found step)
one_on format picture n all start bytes found s some positive within =
    let step = step_at format found.scanning bytes in
    let short : length (drop step.len bytes) ≡ length bytes - step.len = length-drop step.len bytes in
    let before : found.from + found.len + length bytes ≡ start.from + start.len + length all = s.ends in
    let most : found.from + found.len + length bytes ≤ n = s.within in
    let far : (stepped picture found step).from + (stepped picture found step).len ≡ found.from + found.len + step.len = ends_by step.fits picture found step in
    record {
      same = s.same ∙ split_on format picture bytes found some positive;
      ends = omega arith;
      within = omega arith;
      order = ordered_by step.fits picture found step s.order;
      inside = stepped_by step.fits n picture found step s.inside (omega arith);
    }

-- one piece more
pub splits_on : (format : Format) (picture n : ℕ) (all : List ℕ) (start : Found) (bytes : List ℕ) (found : Found) (step : Step) (rest : List ℕ) (next : Found)
    → Splits format picture n all start bytes found → 0 < length bytes → step ≡ step_at format found.scanning bytes → 0 < step.len → step.len ≤ length bytes
    → rest ≡ drop step.len bytes → next ≡ stepped picture found step → Splits format picture n all start rest next
splits_on format picture n all start bytes found step rest next s some p positive within r e =
    let one = one_on format picture n all start bytes found s some (subst (λ (q : Step). 0 < q.len) p positive) (subst (λ (q : Step). q.len ≤ length bytes) p within) in
    let by_step = subst (λ (q : Step). Splits format picture n all start (drop q.len bytes) (stepped picture found q)) (sym p) one in
    let by_rest = subst (λ (bs : List ℕ). Splits format picture n all start bs (stepped picture found step)) (sym r) by_step in
    subst (λ (f : Found). Splits format picture n all start rest f) (sym e) by_rest

-- the end of a walk
pub splits_over : (format : Format) (picture n : ℕ) (all : List ℕ) (start : Found) (bytes : List ℕ) (found : Found) (out : List Part)
    → Splits format picture n all start bytes found → length bytes ≡ 0 → out ≡ closed picture found
    → (out ≡ closed picture (split (length all) format picture all start)) × AreInOrder 0 out (start.from + start.len + length all) × All (EndsIn n) out
splits_over format picture n all start bytes found out s none_left o =
    let before : found.from + found.len + length bytes ≡ start.from + start.len + length all = s.ends in
    let most : found.from + found.len + length bytes ≤ n = s.within in
    let order : AreInOrder 0 (closed picture found) (start.from + start.len + length all) =
    ordered_to (closed picture found) (found.from + found.len) _ (omega arith) (closed_ordered picture found s.order) in
    let inside : All (EndsIn n) (closed picture found) = closed_inside n picture found s.inside (omega arith) in (
      o ∙ sym (ap (closed picture) (s.same ∙ split_over (length bytes) format picture bytes found none_left)),
      subst (λ (ps : List Part). AreInOrder 0 ps (start.from + start.len + length all)) (sym o) order,
      subst (λ (ps : List Part). All (EndsIn n) ps) (sym o) inside,
    )

-- so many bytes from an offset on, in a file that has them
pub taken_len : (at n : ℕ) (file : List ℕ) → at + n ≤ length file → at + 0 + length (take n (drop at file)) ≡ at + n
taken_len at n file h = grind (arith, length-take, length-drop)

-- ---- parts, one after the other

-- parts in order up to where the next ones begin, which are in order up to the end
pub record Orders (n : ℕ) (all parts : List Part) : Type 0 where
  pub at : ℕ
  pub so_far : AreInOrder 0 all at
  pub left : AreInOrder at parts n

not_before : (at : ℕ) (parts : List Part) (n : ℕ) → AreInOrder at parts n → at ≤ n
not_before at [] n h = omega arith
not_before at (p ∷ parts) n h = let l = not_before (at + p.len) parts n h.1 in omega arith

ends_of : (n : ℕ) (all : List Part) (p : Part) (parts : List Part) → Orders n all (p ∷ parts) → p.offset + p.len ≤ n
ends_of n all p parts o =
    let same : p.offset ≡ o.at = o.left.0 in
    let l : o.at + p.len ≤ n = not_before (o.at + p.len) parts n o.left.1 in omega arith

order_of : (n : ℕ) (all : List Part) (p : Part) (parts : List Part) → Orders n all (p ∷ parts) → AreInOrder 0 all p.offset
order_of n all p parts o = ordered_to all o.at p.offset (sym o.left.0) o.so_far

next_of : (n : ℕ) (all more : List Part) (p : Part) (parts : List Part) → Orders n all (p ∷ parts) → AreInOrder 0 more (p.offset + p.len) → Orders n more parts
next_of n all more p parts o h = record {
  at = p.offset + p.len;
  so_far = h;
  left = subst (λ (k : ℕ). AreInOrder (k + p.len) parts n) (sym o.left.0) o.left.1;
}

-- the part at an index
pub part_ends : (n : ℕ) (all parts : List Part) (i : ℕ) (p : Part) (more : List Part) → drop i parts ≡ p ∷ more → Orders n all (drop i parts) → p.offset + p.len ≤ n
part_ends n all parts i p more e o = ends_of n all p more (subst (λ (ps : List Part). Orders n all ps) e o)

pub part_order : (n : ℕ) (all parts : List Part) (i : ℕ) (p : Part) (more : List Part) → drop i parts ≡ p ∷ more → Orders n all (drop i parts) → AreInOrder 0 all p.offset
part_order n all parts i p more e o = order_of n all p more (subst (λ (ps : List Part). Orders n all ps) e o)

pub part_next : (n : ℕ) (all next parts : List Part) (i : ℕ) (p : Part) (more : List Part) → drop i parts ≡ p ∷ more → Orders n all (drop i parts)
    → AreInOrder 0 next (p.offset + p.len) → Orders n next more
part_next n all next parts i p more e o h = next_of n all next p more (subst (λ (ps : List Part). Orders n all ps) e o) h

over : (n : ℕ) (all : List Part) → Orders n all [] → AreInOrder 0 all n
over n all o = ordered_to all o.at n o.left o.so_far

-- the end of the parts
pub parts_over : (n : ℕ) (all parts : List Part) → parts ≡ [] → Orders n all parts → AreInOrder 0 all n
parts_over n all parts e o = over n all (subst (λ (ps : List Part). Orders n all ps) e o)
