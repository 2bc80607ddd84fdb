-- Sends of the texts of a list's members, in a loop that carries a state.
use Rattle.std.proofs.Common.{◌≡◌, ℕ, ◌+◌, ◌<◌, ◌≤◌, length, arith, List, [], ◌∷◌, ◌++◌, take, drop, get_or, ap, subst, sym, ◌∙◌, refl, append_assoc}
use Rattle.std.proofs.lemmas.List.{take_more, append-nil, take_all}
use Rattle.std.specs.Prelude.{Result, Ok, Err, OnErr, OnOk}
use Rattle.std.specs.Result.{IsErr}
use Rattle.std.specs.List.{flat_map}
use denote.Ref.{Bor}
use Rattle.exif_writer.specs.Running.{run, state}
use Rattle.exif_writer.specs.Sending.{sum_of}
use Rattle.exif_layout.specs.EntryContents.{lens}
use Rattle.exif_writer.proofs.SendChains.{HasSent, sends_whole, sends_then, sends_stop}
use Rattle.exif_writer.proofs.SendMembers.{around}
use Rattle.exif_base.specs.declared.endian.Order.{Order}
use Rattle.exif_layout.specs.Encoding.{spelled}
use Rattle.exif_layout.specs.Offsets.{offsets_from}
use Rattle.exif_base.specs.Sent.{Sends}
use Rattle.exif_base.specs.declared.device.Sink as sink

-- the texts of two lists joined: those of the first, and those of the second from its state on
pub run-append : {S X : Type 0} (step : S → X → S) (text : S → X → List ℕ) (s : S) (xs ys : List X)
    → run step text s (xs ++ ys) ≡ run step text s xs ++ run step text (state step s xs) ys
run-append step text s [] ys = refl
run-append step text s (x ∷ xs) ys =
    ap (λ r. text s x ++ r) (run-append step text (step s x) xs ys) ∙ sym (append_assoc (text s x) (run step text (step s x) xs) (run step text (state step (step s x) xs) ys))

-- the state behind two lists is that behind the second, begun from that behind the first
pub state-append : {S X : Type 0} (step : S → X → S) (s : S) (xs ys : List X) → state step s (xs ++ ys) ≡ state step (state step s xs) ys
state-append step s [] ys = refl
state-append step s (x ∷ xs) ys = state-append step (step s x) xs ys

-- the members up to a member, and that one
pub up_to : {X : Type 0} (xs : List X) (i : ℕ) (x d : X) → i < length xs → x ≡ get_or xs i d → take (i + 1) xs ≡ take i xs ++ x ∷ []
up_to xs i x d h e = take_more xs i d h ∙ ap (λ y. take i xs ++ y ∷ []) (sym e)

-- a step over the next member leads from the state in front of it to that behind it
pub state_more : {S X : Type 0} (step : S → X → S) (s t : S) (xs : List X) (i : ℕ) (x d : X) → i < length xs → x ≡ get_or xs i d
    → t ≡ state step s (take i xs) → step t x ≡ state step s (take (i + 1) xs)
state_more step s t xs i x d h e k =
    ap (λ u. step u x) k ∙ sym (ap (state step s) (up_to xs i x d h e) ∙ state-append step s (take i xs) (x ∷ []))

-- a member's text after those before it
run_more : {S X : Type 0} (step : S → X → S) (text : S → X → List ℕ) (s t : S) (xs : List X) (i : ℕ) (x d : X)
    → i < length xs → x ≡ get_or xs i d → t ≡ state step s (take i xs) → run step text s (take i xs) ++ text t x ≡ run step text s (take (i + 1) xs)
run_more step text s t xs i x d h e k =
    ap (λ u. run step text s (take i xs) ++ text u x) k
    ∙ ap (λ r. run step text s (take i xs) ++ r) (sym (append-nil (text (state step s (take i xs)) x)))
    ∙ sym (ap (run step text s) (up_to xs i x d h e) ∙ run-append step text s (take i xs) (x ∷ []))

-- where the first members' texts were sent and then the next one's, those of one more were
pub runs_member : {S X Z T E : Type 0} {W : sink.Ghosts Z} {a b c : Z} {y : T} (step : S → X → S) (text : S → X → List ℕ) (s t : S) (xs : List X) (i : ℕ) (x d : X)
    → i < length xs → x ≡ get_or xs i d → t ≡ state step s (take i xs)
    → HasSent W a b (run step text s (take i xs)) → (let r : Result T E = Ok y in Sends W b c r (text t x)) → HasSent W a c (run step text s (take (i + 1) xs))
runs_member {W = W} {a = a} {c = c} step text s t xs i x d h e k sent one =
    let P : List ℕ → Type 0 = λ w. HasSent W a c w in
    subst P (run_more step text s t xs i x d h e k) (sends_then sent (sends_whole one))

-- a failure in a member's text, after those before it
pub runs_stop : {S X Z T U E F : Type 0} {W : sink.Ghosts Z} {a b c : Z} {e : E} {r : Result U F} (step : S → X → S) (text : S → X → List ℕ) (s t : S) (xs : List X) (i : ℕ) (x d : X)
    → i < length xs → x ≡ get_or xs i d → t ≡ state step s (take i xs)
    → HasSent W a b (run step text s (take i xs)) → (let q : Result T E = Err e in Sends W b c q (text t x)) → IsErr r → Sends W a c r (run step text s xs)
runs_stop {W = W} {a = a} {c = c} {r = r} step text s t xs i x d h e k sent one failed =
    let u = state step s (take i xs) in
    let P : List ℕ → Type 0 = λ w. Sends W a c r w in
    let whole : run step text s (take i xs) ++ (text t x ++ run step text (step u x) (drop (i + 1) xs)) ≡ run step text s xs =
    sym (ap (run step text s) (around xs i x d h e) ∙ run-append step text s (take i xs) (x ∷ drop (i + 1) xs)
    ∙ ap (λ v. run step text s (take i xs) ++ (text v x ++ run step text (step u x) (drop (i + 1) xs))) (sym k)) in
    subst P whole (sends_then sent (sends_stop _ one failed))

-- the texts of all members
pub runs_all : {S X Z T E : Type 0} {W : sink.Ghosts Z} {a b : Z} {y : T} (step : S → X → S) (text : S → X → List ℕ) (s : S) (xs : List X) (i : ℕ)
    → length xs ≤ i → HasSent W a b (run step text s (take i xs)) → let r : Result T E = Ok y in Sends W a b r (run step text s xs)
runs_all {T = T} {E = E} {W = W} {a = a} {b = b} {y = y} step text s xs i h sent =
    let r : Result T E = Ok y in
    let P : List ℕ → Type 0 = λ w. Sends W a b r w in
    subst P (ap (run step text s) (take_all i xs h)) (sends_whole sent)

-- the offsets of texts, and their lengths, as loops send them
pub run_offsets : (order : Order) (first : ℕ) (texts : List (Bor (List ℕ)))
    → run (λ (p : ℕ) (b : Bor (List ℕ)). p + length b.now) (λ p b. spelled order 4 p) first texts ≡ flat_map (spelled order 4) (offsets_from first (lens texts))
run_offsets order first [] = refl
run_offsets order first (t ∷ texts) = ap (λ r. spelled order 4 first ++ r) (run_offsets order (first + length t.now) texts)

-- spelling the length of each text gives the same bytes as spelling the list of lengths
pub lengths_text : (order : Order) (texts : List (Bor (List ℕ)))
    → flat_map (λ (b : Bor (List ℕ)). spelled order 4 (length b.now)) texts ≡ flat_map (spelled order 4) (lens texts)
lengths_text order [] = refl
lengths_text order (t ∷ texts) = ap (λ r. spelled order 4 (length t.now) ++ r) (lengths_text order texts)

-- the texts of two lists take as many bytes together as those of each list added up
pub sum_append : (xs ys : List (Bor (List ℕ))) → sum_of (xs ++ ys) ≡ sum_of xs + sum_of ys
sum_append [] ys = omega arith
sum_append (x ∷ xs) ys = let e = sum_append xs ys in omega arith

-- the texts before one, and that one, are part of the sum
pub sum_within : (xs : List (Bor (List ℕ))) (i : ℕ) (x d : Bor (List ℕ)) → i < length xs → x ≡ get_or xs i d → sum_of (take i xs) + length x.now ≤ sum_of xs
sum_within xs i x d h e =
    let k : sum_of xs ≡ sum_of (take i xs) + (length x.now + sum_of (drop (i + 1) xs)) =
    ap sum_of (around xs i x d h e) ∙ sum_append (take i xs) (x ∷ drop (i + 1) xs) in
    omega arith

-- an offset that moves on by each text's length ends all their lengths behind where it began
pub state_sum : (s : ℕ) (xs : List (Bor (List ℕ))) → state (λ (p : ℕ) (x : Bor (List ℕ)). p + length x.now) s xs ≡ s + sum_of xs
state_sum s [] = omega arith
state_sum s (x ∷ xs) = let e = state_sum (s + length x.now) xs in omega arith

-- what a slice of texts gives past its end
abbrev pub no_text : Bor (List ℕ)
no_text = record { ref_ptr = (0, 0); now = [] }

-- where a result is an Ok, what follows from what holds there holds too
pub map_ok : {T E : Type 0} (r : Result T E) (P Q : Type 0) → (P → Q) → OnOk r P → OnOk r Q
map_ok (Ok x) P Q f h = f h
map_ok (Err e) P Q f h = tt

-- what holds anyway holds of an error
pub on_err : {T E : Type 0} (r : Result T E) (P : Type 0) → P → OnErr r P
on_err (Ok x) P h = tt
on_err (Err e) P h = h
