-- Reading boxes one after the other, as a loop does.
use Rattle.std.proofs.Common.{◌≡◌, ℕ, suc, ◌+◌, ◌-◌, ◌<◌, ◌≤◌, Bool, true, false, cond, List, [], ◌∷◌, ◌++◌, map, Option, Some, None, Result, Ok, Err, refl, sym, ap, ◌∙◌, arith}
use Rattle.std.specs.List.{last_or, filter}
use Rattle.std.specs.Option.{option_or, option_to_list}
use Rattle.exif_types.specs.Failures.{Failure}
use Rattle.exif_isobmff.specs.declared.kind.Kind.{Kind}
use Rattle.exif_isobmff.specs.Kinds.{same_kind}
use Rattle.exif_types.specs.Refusals.{Refusal, ◌>>=◌, Refuses, joined, last_read, unless_refused}
use Rattle.exif_isobmff.specs.Boxes.{Part, Parts, before, and_then, box_at, boxes, read_one, read_each, from_count}
use Rattle.exif_types.proofs.Refusing.{refuses_along}

-- the last of two lists
pub last_or-append : {A : Type 0} (o : Option A) (xs ys : List A) → last_or o (xs ++ ys) ≡ last_or (last_or o xs) ys
last_or-append o [] ys = refl
last_or-append o (x ∷ xs) ys = last_or-append (Some x) xs ys

abbrev and_end : {A : Type 0} → Option Refusal → Result (List A) Refusal → Result (List A) Refusal
and_end fault read = read >>= λ xs. unless_refused fault >>= λ w. Ok xs

joined_one : {A : Type 0} (found : Option A) (fault : Option Refusal) (one rest : Result (List A) Refusal)
    → last_read found (and_end fault (one >>= λ ys. rest >>= λ zs. Ok (ys ++ zs))) ≡ (one >>= λ ys. last_read (last_or found ys) (and_end fault rest))
joined_one found None (Ok ys) (Ok zs) = ap (λ o. Ok o) (last_or-append found ys zs)
joined_one found (Some r) (Ok ys) (Ok zs) = refl
joined_one found fault (Ok ys) (Err r) = refl
joined_one found fault (Err r) rest = refl

chosen : {A : Type 0} (found : Option A) (read : List ℕ → Result (List A) Refusal) (fault : Option Refusal) (p : Part) (ps : List Part) (b : Bool)
    → last_read found (and_end fault (joined read (map (λ q. q.body) (cond b (p ∷ ps) ps)))) ≡ (cond b (read p.body) (Ok []) >>= λ ys. last_read (last_or found ys) (and_end fault (joined read (map (λ q. q.body) ps))))
chosen found read fault p ps true = joined_one found fault (read p.body) (joined read (map (λ q. q.body) ps))
chosen found read fault p ps false = refl

-- one box more
pub read_more : {A : Type 0} (found : Option A) (kind : Kind) (read : List ℕ → Result (List A) Refusal) (p : Part) (ps : Parts)
    → last_read found (read_each kind read (before p ps)) ≡ (read_one kind read p >>= λ ys. last_read (last_or found ys) (read_each kind read ps))
read_more found kind read p ps = chosen found read ps.fault p (filter (λ q. same_kind kind q.kind) ps.whole) (same_kind kind p.kind)

-- ---- a count of boxes

count_of : {A : Type 0} (kind : Kind) (read : List ℕ → Result (List A) Refusal) (found : Option A) (count i : ℕ) (text : List ℕ) → i < count
    → from_count kind read found (count - i) text ≡ last_read found (read_each kind read (and_then (box_at text) (boxes (count - (i + 1)))))
unfolding boxes
count_of kind read found count i text lt = let k : count - i ≡ suc (count - (i + 1)) = omega arith in rw k refl

-- a counted box, and then the others
pub count_goes_on : {A : Type 0} (kind : Kind) (read : List ℕ → Result (List A) Refusal) (found : Option A) (count i : ℕ) (text : List ℕ) (p : Part) (rest : List ℕ)
    → i < count → box_at text ≡ Ok (p, rest)
    → from_count kind read found (count - i) text ≡ (read_one kind read p >>= λ ys. from_count kind read (last_or found ys) (count - (i + 1)) rest)
count_goes_on kind read found count i text p rest lt h =
    count_of kind read found count i text lt ∙ ap (λ b. last_read found (read_each kind read (and_then b (boxes (count - (i + 1)))))) h ∙ read_more found kind read p (boxes (count - (i + 1)) rest)

-- bytes that are no box are the refusal of those that are counted
pub count_cut : {A : Type 0} (e : Failure) (kind : Kind) (read : List ℕ → Result (List A) Refusal) (found : Option A) (count i : ℕ) (text : List ℕ)
    → i < count → Refuses e (box_at text) → Refuses e (from_count kind read found (count - i) text)
count_cut e kind read found count i text lt h =
    rw (count_of kind read found count i text lt) (refuses_along e (λ b. last_read found (read_each kind read (and_then b (boxes (count - (i + 1)))))) (box_at text) (λ r. refl) h)

-- no more boxes are counted
pub count_done : {A : Type 0} (kind : Kind) (read : List ℕ → Result (List A) Refusal) (found : Option A) (count i : ℕ) (text : List ℕ) → count ≤ i
    → from_count kind read found (count - i) text ≡ Ok found
unfolding boxes
count_done kind read found count i text le = let k : count - i ≡ 0 = omega arith in rw k refl

-- the next box gave at most one
pub count_went_on : {A : Type 0} (kind : Kind) (read : List ℕ → Result (List A) Refusal) (found one : Option A) (count i : ℕ) (text : List ℕ) (p : Part) (rest : List ℕ) (total : Result (Option A) Refusal)
    → i < count → box_at text ≡ Ok (p, rest) → read_one kind read p ≡ Ok (option_to_list one)
    → from_count kind read found (count - i) text ≡ total → from_count kind read (option_or one found) (count - (i + 1)) rest ≡ total
count_went_on kind read found None count i text p rest total lt h k so_far =
    sym (count_goes_on kind read found count i text p rest lt h ∙ ap (λ r. r >>= λ ys. from_count kind read (last_or found ys) (count - (i + 1)) rest) k) ∙ so_far
count_went_on kind read found (Some x) count i text p rest total lt h k so_far =
    sym (count_goes_on kind read found count i text p rest lt h ∙ ap (λ r. r >>= λ ys. from_count kind read (last_or found ys) (count - (i + 1)) rest) k) ∙ so_far

-- a box that is refused is the refusal of those that are counted
pub count_failed : {A : Type 0} (e : Failure) (kind : Kind) (read : List ℕ → Result (List A) Refusal) (found : Option A) (count i : ℕ) (text : List ℕ) (p : Part) (rest : List ℕ)
    → i < count → box_at text ≡ Ok (p, rest) → Refuses e (read_one kind read p) → Refuses e (from_count kind read found (count - i) text)
count_failed e kind read found count i text p rest lt h k =
    rw (count_goes_on kind read found count i text p rest lt h) (refuses_along e (λ r. r >>= λ ys. from_count kind read (last_or found ys) (count - (i + 1)) rest) (read_one kind read p) (λ r. refl) k)
